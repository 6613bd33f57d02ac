-- The words of a line of the log.
use Rattle.std.specs.Prelude.{ℕ, List, codes, Option, None, Some}
use Rattle.std.specs.Net.Text.{socket_text}
use Rattle.std.specs.declared.net.socket_addr.SocketAddr.{SocketAddr}

-- the address of a client, as the system writes it, or a dash if there is none
abbrev pub client_text : Option SocketAddr → List ℕ
client_text None = codes "-"
client_text (Some address) = socket_text address

-- Pieces of an answer, one after another.
use Rattle.std.proofs.Common.{◌≡◌, ◌++◌, ℕ, List, subst, sym}
use Rattle.client_sockets.specs.declared.socket.Socket.{Socket}
use Rattle.client_sockets.specs.Sockets.{HandedOn, Hands, more}

-- one more piece is handed on
pub handed_more : {R : Type 0} (s t u : Socket R) (bytes piece all : List ℕ) → HandedOn s bytes t → Hands piece t u → all ≡ bytes ++ piece → HandedOn s all u
handed_more s t u bytes piece all first next same = subst (λ l. HandedOn s l u) (sym same) (more bytes piece t u first next)

-- What a C program holds of a client.
use Rattle.std.specs.Prelude.{Option}
use Rattle.std.specs.Option.{option_map}
use Rattle.cog_client.specs.Client.{ClientState}
use Rattle.delgunsai_c.specs.declared.handle.Handle.{Handle}
use Rattle.delgunsai_c.specs.declared.held.Held.{Held}

-- What a handle holds, if it holds anything.
abbrev pub held_of : Handle → Option Held
held_of h = h.place.inside

-- The client of a handle, if it has one.
abbrev pub client_of : Handle → Option ClientState
client_of h = option_map (λ held. held.client) (held_of h)

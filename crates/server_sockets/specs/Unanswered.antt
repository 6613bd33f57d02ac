-- The bytes that came on a connection and aren't answered yet.
use Rattle.std.specs.Prelude.{◌≡◌, ◌⊎◌, ◌++◌, ℕ, if◌then◌else◌, List, Option, Some, None, IfSome}
use Rattle.std.specs.Option.{option_map}
use Rattle.http_range.specs.Stream.{IsFirstMessage, IsUnfinished}
use Rattle.server_sockets.specs.declared.answer_log.UnansweredInput.{UnansweredInput}

-- all of these bytes, or `None` if memory ran out for some of them
abbrev pub input_of : UnansweredInput → Option (List ℕ)
input_of u = if u.is_kept then Some u.bytes.items else None

-- These bytes came after those that were there. Or memory ran out for them, now or before.
abbrev pub Keeps : List ℕ → (old new : UnansweredInput) → Type 0
Keeps bytes old new = (input_of new ≡ option_map (λ before. before ++ bytes) (input_of old)) ⊎ (input_of new ≡ None)

-- The message is the first one of the bytes that are there. Or none of them is whole, or not all bytes are there.
abbrev pub IsNext : UnansweredInput → Option (List ℕ) → Type 0
IsNext u (Some message) = (bytes : List ℕ) × (input_of u ≡ Some bytes) × IsFirstMessage bytes message
IsNext u None = IfSome (input_of u) IsUnfinished

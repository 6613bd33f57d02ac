-- The bytes that go in and out of a server.
use Rattle.std.specs.Prelude.{ℕ, ◌&&◌, ◌==◌, Bool, true, not, List, [], length, take, Result, Ok, Err}

-- what a call moved: the first bytes of the room that it read into, or of the bytes to write; none if it failed
abbrev pub moved : {E : Type 0} → Result ℕ E → List ℕ → List ℕ
moved (Ok n) bytes = take n bytes
moved (Err e) bytes = []

-- writing can't go on: the call failed, or took none of some bytes
abbrev pub is_stopped : {E : Type 0} → Result ℕ E → List ℕ → Bool
is_stopped (Ok n) bytes = n == 0 && not (length bytes == 0)
is_stopped (Err e) bytes = true

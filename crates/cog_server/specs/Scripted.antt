-- What callers know of the readers and writers of this crate.
use Rattle.std.specs.Prelude.{ℕ, min, max, Bool, List, [], ◌∷◌, take, drop, Option, Some, None}
use Rattle.cog_server.specs.declared.stream.Stream.{Stream}
use Rattle.cog_server.specs.declared.scripted.AfterBytes.{AfterBytes}
use Rattle.cog_server.specs.declared.scripted.AfterPieces.{AfterPieces}
use Rattle.cog_server.specs.declared.scripted.AfterPieces.TheVariants.{All, Zero, Failure}
use Rattle.cog_server.specs.declared.scripted.ScriptedInlet.{ScriptedInlet}
use Rattle.cog_server.specs.declared.scripted.ScriptedOutlet.{ScriptedOutlet}

-- a call of the reader or writer failed, or a write took nothing
abbrev pub stream_failed : {T : Type 0} → Stream T → Bool
stream_failed s = s.failed

-- the reader or writer of the standard library
abbrev pub inner_of : {T : Type 0} → Stream T → T
inner_of s = s.inner

-- a read into some room gave no byte
abbrev pub stream_ended : {T : Type 0} → Stream T → Bool
stream_ended s = s.ended

-- the bytes of the script
abbrev pub script_bytes : ScriptedInlet → List ℕ
script_bytes s = s.bytes.items

-- the sizes of its pieces, and what follows the bytes
abbrev pub inlet_pieces : ScriptedInlet → List ℕ
inlet_pieces s = s.pieces.items

abbrev pub after_bytes : ScriptedInlet → AfterBytes
after_bytes s = s.after

-- the bytes that were given, and those that are left
abbrev pub script_given : ScriptedInlet → List ℕ
script_given s = take s.position s.bytes.items

abbrev pub script_left : ScriptedInlet → List ℕ
script_left s = drop s.position s.bytes.items

-- the sizes of the pieces that are left
abbrev pub pieces_left : ScriptedInlet → List ℕ
pieces_left s = drop s.reads s.pieces.items

-- which of the bytes that are left come next: as many as the next size says, but at least one; without a size, all
abbrev pub next_piece : (sizes left : List ℕ) → List ℕ
next_piece [] left = left
next_piece (size ∷ sizes) left = take (max size 1) left

abbrev pub inlet_failed : ScriptedInlet → Bool
inlet_failed s = s.failed

-- the sizes of its pieces, and what follows the pieces
abbrev pub outlet_pieces : ScriptedOutlet → List ℕ
outlet_pieces s = s.pieces.items

abbrev pub after_pieces : ScriptedOutlet → AfterPieces
after_pieces s = s.after

-- the sizes that are left
abbrev pub sizes_left : ScriptedOutlet → List ℕ
sizes_left s = drop s.writes s.pieces.items

-- how many of `many` bytes come next: at most the next size; if no size is left, what follows the pieces says it
abbrev pub next_taken : (sizes : List ℕ) → AfterPieces → (many : ℕ) → Option ℕ
next_taken (size ∷ sizes) after many = Some (min size many)
next_taken [] All many = Some many
next_taken [] Zero many = Some 0
next_taken [] Failure many = None

-- the bytes that were taken
abbrev pub script_taken : ScriptedOutlet → List ℕ
script_taken s = s.taken.items

abbrev pub outlet_failed : ScriptedOutlet → Bool
outlet_failed s = s.failed

-- One packet after another.
use Rattle.std.specs.Prelude.{◌≡◌, ℕ, ◌+◌, ◌%◌, ◌≤◌, List, ◌++◌, length, Option, Some, None}
use Rattle.tiff_dir.specs.Packets.{Packet, IsPacket, written, output, Packs}

-- The bytes begin with a packet of the length `len`. Its output is added to `old`, and crosses no row.
pub record IsNextPacket (row : ℕ) (bytes : List ℕ) (len : ℕ) (old new : List ℕ) : Type 0 where
  pub packet : Packet
  pub after : List ℕ
  pub lawful : IsPacket packet
  pub begins : bytes ≡ written packet ++ after
  pub size : len ≡ length (written packet)
  pub fits : length old % row + length (output packet) ≤ row
  pub added : new ≡ old ++ output packet

-- No packet comes next.
abbrev pub HasNoNextPacket : ℕ → List ℕ → List ℕ → Type 0
HasNoNextPacket row bytes old = (len : ℕ) (new : List ℕ) → IsNextPacket row bytes len old new → ⊥

-- The output of the next packet, which has this length, is added to `old`. Or no packet comes next.
abbrev pub PushesNext : ℕ → List ℕ → List ℕ → List ℕ → Option ℕ → Type 0
PushesNext row bytes old new None = HasNoNextPacket row bytes old
PushesNext row bytes old new (Some len) = IsNextPacket row bytes len old new

-- The first `at` bytes are packets for `out`.
pub record IsUnpackedTo (row : ℕ) (bytes : List ℕ) (at : ℕ) (out : List ℕ) : Type 0 where
  pub before : List ℕ
  pub after : List ℕ
  pub parts : bytes ≡ before ++ after
  pub place : at ≡ length before
  pub packs : Packs row before out

-- The bytes stand for no text.
abbrev pub IsNotPacked : ℕ → List ℕ → Type 0
IsNotPacked row bytes = (out : List ℕ) → Packs row bytes out → ⊥

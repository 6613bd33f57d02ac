-- PackBits (TIFF 6.0, section 9).
use Rattle.tiff_dir.specs.declared.limits.TheConstants.{MAX_PACKET_BYTES}
use Rattle.std.specs.Prelude.{◌≡◌, ℕ, ◌+◌, ◌-◌, ◌%◌, ◌≤◌, List, [], ◌∷◌, ◌++◌, length, replicate, ⊤}
use Rattle.std.specs.List.{flat_map, AllByRecursion}

pub data Packet : Type 0 where
  -- the bytes themselves
  Copied : (bytes : List ℕ) → Packet
  -- one byte several times
  Repeated : (times byte : ℕ) → Packet
  -- nothing
  Passed : Packet

-- A signed byte `n` from 0 to 127 copies `n + 1` bytes. One from -127 to -1 repeats a byte `1 - n` times.
abbrev pub IsPacket : Packet → Type 0
IsPacket (Copied bytes) = (1 ≤ length bytes) × (length bytes ≤ MAX_PACKET_BYTES)
IsPacket (Repeated times byte) = (2 ≤ times) × (times ≤ MAX_PACKET_BYTES)
IsPacket Passed = ⊤

-- how a packet is written
abbrev pub written : Packet → List ℕ
written (Copied bytes) = (length bytes - 1) ∷ bytes
written (Repeated times byte) = (257 - times) ∷ byte ∷ []
written Passed = 128 ∷ []

-- what a packet stands for
abbrev pub output : Packet → List ℕ
output (Copied bytes) = bytes
output (Repeated times byte) = replicate times byte
output Passed = []

-- no output crosses a multiple of `row`, if the first one begins at `at`
abbrev pub KeepRows : ℕ → ℕ → List Packet → Type 0
KeepRows row at [] = ⊤
KeepRows row at (p ∷ ps) = (at % row + length (output p) ≤ row) × KeepRows row (at + length (output p)) ps

-- The bytes are packets whose outputs, joined, are `out`. Each row is packed by itself.
pub record Packs (row : ℕ) (bytes out : List ℕ) : Type 0 where
  pub packets : List Packet
  pub lawful : AllByRecursion IsPacket packets
  pub bytes_are : flat_map written packets ≡ bytes
  pub out_is : flat_map output packets ≡ out
  pub rows : KeepRows row 0 packets

-- no packet is the beginning of another one
abbrev pub PacketsAreApart : Type 0
PacketsAreApart =
    (p q : Packet) (us vs : List ℕ) → IsPacket p → IsPacket q → written p ++ us ≡ written q ++ vs → (p ≡ q) × (us ≡ vs)

-- packed bytes stand for only one output
abbrev pub TextsAreUnique : Type 0
TextsAreUnique = (row : ℕ) (bytes out other : List ℕ) → Packs row bytes out → Packs row bytes other → out ≡ other

-- One packet after another (TIFF 6.0, section 9).
use Rattle.std.specs.Prelude.{◌≡◌, ℕ, ◌≤◌, List, ◌++◌, length, drop}
use Rattle.tiff_dir.specs.Packets.{Packet, IsPacket, written, output, Packs}

-- The bytes begin with a packet of `len` bytes that stands for `text`.
pub record IsFirst (bytes : List ℕ) (len : ℕ) (text : List ℕ) : Type 0 where
  pub packet : Packet
  pub lawful : IsPacket packet
  pub begins : bytes ≡ written packet ++ drop len bytes
  pub size : len ≡ length (written packet)
  pub text_is : text ≡ output packet

-- the bytes begin with no packet that stands for at most `room` bytes
abbrev pub HasNoFirst : List ℕ → ℕ → Type 0
HasNoFirst bytes room = (p : Packet) (after : List ℕ) → IsPacket p → bytes ≡ written p ++ after → length (output p) ≤ room → ⊥

-- the bytes stand for no output of this length
abbrev pub IsNotPacked : ℕ → List ℕ → ℕ → Type 0
IsNotPacked row bytes len = (out : List ℕ) → length out ≡ len → Packs row bytes out → ⊥

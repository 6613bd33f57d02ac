-- One more packet (TIFF 6.0, section 9).
use Rattle.std.specs.Prelude.{◌≡◌, ℕ, ◌<◌, ◌≤◌, List, ◌++◌, length, take}
use Rattle.tiff_dir.specs.Packets.{Packet, IsPacket, written, output}

-- A packet that stands for the first `len` bytes is appended.
pub record Adds (old new bytes : List ℕ) (len : ℕ) : Type 0 where
  pub packet : Packet
  pub lawful : IsPacket packet
  pub some : 0 < len
  pub within : len ≤ length bytes
  pub added : new ≡ old ++ written packet
  pub text_is : take len bytes ≡ output packet

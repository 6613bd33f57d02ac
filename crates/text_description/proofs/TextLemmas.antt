-- Texts of bytes.
use Rattle.std.proofs.Common.{◌≡◌, ℕ, List}
use Rattle.std.specs.Str.{IsUtf8}
use Rattle.std.specs.Str.Lossy.{utf8_lossy}
use Rattle.std.proofs.lemmas.Str.{utf8_lossy-IsUtf8}

-- of bytes that are UTF-8 nothing is replaced
pub stays : (bytes : List ℕ) → IsUtf8 bytes → utf8_lossy bytes ≡ bytes
stays = utf8_lossy-IsUtf8

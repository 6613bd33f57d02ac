-- Portable graymaps and pixmaps (Netpbm, the formats P5 and P6).
use Rattle.std.specs.Prelude.{ℕ, ◌==◌, if◌then◌else◌, List, ◌++◌, codes, decimal, Option, Some, None}
use Rattle.cog_reader.specs.declared.outcome.Outcome.{Outcome}
use Rattle.cog_reader.specs.declared.outcome.Outcome.TheVariants as outcomes

-- the magic number: a pixel of a graymap is one sample, one of a pixmap is three
abbrev pub magic : ℕ → List ℕ
magic samples = if samples == 1 then codes "P5" else codes "P6"

-- the maximum value of a sample of `bits` bits; above 255 a sample has two bytes, the most significant one first
abbrev pub maximum : ℕ → List ℕ
maximum bits = if bits == 16 then codes "65535" else codes "255"

-- the magic number, the width, the height and the maximum value, each with white space after it, and then the pixels row by row
unfoldable pub netpbm : (samples bits w h : ℕ) → List ℕ → List ℕ
netpbm samples bits w h pixels =
    magic samples ++ codes "\n" ++ decimal w ++ codes " " ++ decimal h ++ codes "\n" ++ maximum bits ++ codes "\n" ++ pixels

-- the picture of a window; nothing else has one
abbrev pub picture_of : Outcome → Option (List ℕ)
picture_of (outcomes.Window window) = Some (netpbm window.samples window.bits window.w window.h window.pixels.items)
picture_of (outcomes.Info info) = None
picture_of (outcomes.Fault fault) = None

-- The samples of bytes in which each has its most significant byte first.
use Rattle.std.specs.Prelude.{ℕ, ◌*◌, ◌/◌, List, length, map}
use Rattle.std.specs.List.{range_with_len}
use Rattle.tiff_dir.specs.declared.order.Order.TheVariants.{Big}
use Rattle.tiff_dir.specs.Number.{number_in}
use Rattle.tiff_dir.specs.Profile.{sample_bytes}

-- sample `k`, if samples have `bits` bits
abbrev pub sample_at : ℕ → List ℕ → ℕ → ℕ
sample_at bits bytes k = number_in Big (k * sample_bytes bits) (sample_bytes bits) bytes

-- all samples
abbrev pub samples_in : ℕ → List ℕ → List ℕ
samples_in bits bytes = map (sample_at bits bytes) (range_with_len 0 (length bytes / sample_bytes bits))

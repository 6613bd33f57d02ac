use Rattle.std.proofs.Common.{◌≡◌, ℕ, All, List, length, Some}
use Rattle.std.specs.Prelude.{◌≢◌, slice_get}
use Rattle.tiff_dir.specs.File.{value}
use Rattle.text_description.proofs.no_data.no_data_text.Given as goal

-- the bytes so far are the field's first values
abbrev pub invariant-loop-index : goal.invariant-loop-index
invariant-loop-index g l = record {
  long : length l.text.items ≡ l.index;
  bytes : (f : List ℕ) → g.B.KnownBytes.is_of l.bytes f → (i byte : ℕ) → slice_get l.text.items i ≡ Some byte → value f 0 42113 i ≡ Some byte;
  first : All (λ byte. byte ≢ 0) l.text.items;
}

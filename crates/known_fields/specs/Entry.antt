-- The entries of a directory, and the value of an entry, by their places in the file.
use Rattle.std.specs.Prelude.{ℕ, zero, suc, ◌+◌, ◌==◌, if◌then◌else◌, List, Option, Some, None}
use Rattle.tiff_dir.specs.File.{◌>>=◌, number, field_value}

-- The place of the first entry with the tag, among the `n` entries from this place on. It is `Some None` if all `n` tags are in the file
-- and none is this one. It is `None` if a tag before such an entry isn't in the file.
unfoldable pub place_from : List ℕ → ℕ → ℕ → ℕ → Option (Option ℕ)
place_from f at zero tag = Some None
place_from f at (suc n) tag = number f at 2 >>= λ t. if t == tag then Some (Some at) else place_from f (at + 12) n tag

-- Value `i` of the field whose entry stands at this place. No value depends on the tag, for which 0 stands here.
unfoldable pub value_at : List ℕ → ℕ → ℕ → Option ℕ
value_at f at i = field_value f (record { tag = 0; kind = number f (at + 2) 2; count = number f (at + 4) 4; place = at }) i

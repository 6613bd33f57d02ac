-- Groups of tiles that follow each other in the file: each is read by one range.
use Rattle.std.specs.Prelude.{ℕ, ◌+◌, if◌then◌else◌, List, [], ◌∷◌, ◌++◌}
use Rattle.extents.specs.Extent.{Extent}
use Rattle.tiff_dir.specs.Query.{joins}

-- some tiles, and the range from the first byte of the first one to the last byte of the last one
pub record Group : Type 0 where
  pub tiles : List ℕ
  pub range : Extent

abbrev pub alone : ℕ → Extent → Group
alone t r = record { tiles = t ∷ []; range = r }

abbrev pub with_tile : Group → ℕ → Extent → Group
with_tile g t r = record { tiles = g.tiles ++ t ∷ []; range = record { first = g.range.first; len = g.range.len + r.len } }

-- A group and the tiles after it: each joins the group of the one before, or begins the next.
unfoldable pub grouped_after : (ℕ → Extent) → Group → List ℕ → List Group
grouped_after range g [] = g ∷ []
grouped_after range g (t ∷ ts) =
    if joins g.range (range t) then grouped_after range (with_tile g t (range t)) ts
    else g ∷ grouped_after range (alone t (range t)) ts

-- The groups of some tiles.
unfoldable pub grouped : (ℕ → Extent) → List ℕ → List Group
grouped range [] = []
grouped range (t ∷ ts) = grouped_after range (alone t (range t)) ts

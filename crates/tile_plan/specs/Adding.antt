-- Groups with one more tile.
use Rattle.std.specs.Prelude.{ℕ, List, [], ◌∷◌, if◌then◌else◌}
use Rattle.extents.specs.Extent.{Extent}
use Rattle.tiff_dir.specs.Query.{joins}
use Rattle.tile_plan.specs.Groups.{Group, with_tile, alone}

-- the tile joins the last group, or is a group of its own
abbrev pub added : List Group → ℕ → Extent → List Group
added [] t r = alone t r ∷ []
added (g ∷ []) t r = if joins g.range r then with_tile g t r ∷ [] else g ∷ alone t r ∷ []
added (g ∷ h ∷ gs) t r = g ∷ added (h ∷ gs) t r

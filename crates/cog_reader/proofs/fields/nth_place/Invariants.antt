use Rattle.std.proofs.Common.{◌≡◌, drop, slice_get}
use Rattle.std.specs.List.{filter_map}
use Rattle.cog_reader.specs.GeoFields.{present_in}
use Rattle.cog_reader.proofs.fields.nth_place.Given as goal

abbrev pub invariant-loop-place : goal.invariant-loop-place
invariant-loop-place l = slice_get (filter_map (λ o. o) (drop l.place-index l.place-items)) l.left ≡ slice_get (present_in l.places) l.n

use Rattle.std.proofs.Common.{◌≡◌, ◌++◌, drop, map, None}
use Rattle.std.specs.Option.{option_map}
use Rattle.tiff_dir.specs.Query.{joined_after, tile_range}
use Rattle.reference_support.specs.Ranges.{extent_of, extents_of}
use Rattle.reference_support.proofs.ranges.push_groups.Given as goal

-- the groups so far, the one that is open, and those to come
abbrev pub invariant-loop-t : goal.invariant-loop-t
invariant-loop-t l = extents_of l.out.items ++ joined_after (option_map extent_of l.group) (map (tile_range l.file l.n) (drop l.t-index l.tiles))
    ≡ extents_of l.fn.out.items ++ joined_after None (map (tile_range l.file l.n) l.tiles)

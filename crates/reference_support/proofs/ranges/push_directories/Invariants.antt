use Rattle.std.proofs.Common.{◌≡◌, ◌++◌, take}
use Rattle.std.specs.List.{flat_map}
use Rattle.tiff_dir.specs.Needs.{ranges_of_directory}
use Rattle.reference_support.specs.Ranges.{extents_of}
use Rattle.reference_support.proofs.ranges.push_directories.Given as goal

-- the ranges of the directories so far are added
abbrev pub invariant-loop-k : goal.invariant-loop-k
invariant-loop-k l = extents_of l.out.items ≡ extents_of l.fn.out.items ++ flat_map (ranges_of_directory l.file) (take l.k-index l.directories)

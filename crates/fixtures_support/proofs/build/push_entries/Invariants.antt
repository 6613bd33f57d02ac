use Rattle.std.proofs.Common.{◌≡◌, ◌++◌, take}
use Rattle.std.specs.List.{flat_map}
use Rattle.fixtures_support.specs.Tiff.{entry}
use Rattle.fixtures_support.proofs.build.push_entries.Given as goal

-- the entries of the fields so far are added
abbrev pub invariant-loop-field : goal.invariant-loop-field
invariant-loop-field l = l.out.items ≡ l.fn.out.items ++ flat_map (entry l.order) (take l.field-index l.fields)

use Rattle.std.proofs.Common.{◌≡◌, ◌+◌, ◌*◌, ◌-◌, map}
use Rattle.tiff_dir.specs.Table.{entries_from, entries_of, field_of}
use Rattle.tiff_dir.specs.Fault.{ascends}
use Rattle.tiff_dir.proofs.table.Table.ascends.Given as goal

abbrev pub invariant-loop-i : goal.invariant-loop-i
invariant-loop-i l = ascends (map field_of (entries_from l.self.order (l.self.at + 2) (12 * (l.i - 1)) (l.self.entries - (l.i - 1)) l.self.bytes.now)) ≡ ascends (map field_of (entries_of l.self))

use Rattle.std.proofs.Common.{◌≡◌, ◌+◌, ◌*◌, ◌-◌}
use Rattle.tiff_dir.specs.Table.{entries_from, entries_of, entry_with_tag}
use Rattle.tiff_dir.proofs.table.Table.find.Given as goal

abbrev pub invariant-loop-i : goal.invariant-loop-i
invariant-loop-i l = entry_with_tag l.tag (entries_from l.self.order (l.self.at + 2) (12 * l.i) (l.self.entries - l.i) l.self.bytes.now) ≡ entry_with_tag l.tag (entries_of l.self)

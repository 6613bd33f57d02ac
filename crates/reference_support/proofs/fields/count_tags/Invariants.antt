use Rattle.std.proofs.Common.{◌≡◌, ◌≤◌, ◌+◌, ◌*◌, ◌-◌, length}
use Rattle.tiff_dir.specs.File.{fields_from}
use Rattle.reference_support.proofs.fields.count_tags.Given as goal

-- those that are counted, and those among the rest
abbrev pub invariant-loop-i : goal.invariant-loop-i
invariant-loop-i l = (l.count ≤ l.i) × (l.count + length (fields_from l.file (l.first + 12 * l.i) (l.entries - l.i)) ≡ length (fields_from l.file l.first l.entries))

use Rattle.std.proofs.Common.{◌≡◌, ◌+◌, ◌*◌, ◌-◌}
use Rattle.tiff_dir.specs.File.{fields_from}
use Rattle.tiff_dir.specs.Table.{field_with_tag}
use Rattle.reference_support.proofs.fields.find_entry.Given as goal

-- none of the entries so far has the tag
abbrev pub invariant-loop-i : goal.invariant-loop-i
invariant-loop-i l = field_with_tag l.tag (fields_from l.file (l.first + 12 * l.i) (l.entries - l.i)) ≡ field_with_tag l.tag (fields_from l.file l.first l.entries)

use Rattle.std.proofs.Common.{◌≡◌, ◌++◌, take}
use Rattle.std.specs.List.{flat_map}
use Rattle.http_fields.specs.Text.{line}
use Rattle.http_fields.specs.KeptFields.{lines_of}
use Rattle.http_fields.proofs.request_fields.push_fields.Given as goal

abbrev pub invariant-loop-field : goal.invariant-loop-field
invariant-loop-field l = l.out.items ≡ l.fn.out.items ++ flat_map line (lines_of (take l.field-index l.fields))

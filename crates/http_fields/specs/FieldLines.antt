-- How the code keeps the field lines of a head.
use Rattle.std.specs.Prelude.{◌≤◌, List, take}
use Rattle.http_fields.specs.declared.limits.TheConstants.{FIELD_LIMIT}
use Rattle.http_fields.specs.declared.fields.HeaderFields.TheInside.{Inside}
use Rattle.http_fields.specs.Text.{FieldLine}
use Rattle.http_fields.specs.Fields.{fields_at, AreWithin}

abbrev pub lines_view : Inside → List FieldLine
lines_view f = fields_at f.bytes.now (take f.count f.spans)

abbrev pub IsLinesInside : Inside → Type 0
IsLinesInside f = (f.count ≤ FIELD_LIMIT) × AreWithin f.bytes.now (take f.count f.spans)

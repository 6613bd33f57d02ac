-- How the code keeps the field lines that a caller adds.
use Rattle.std.specs.Prelude.{◌≡◌, List, length, map}
use Rattle.std.specs.List.{flat_map}
use Rattle.http_fields.specs.declared.request_fields.RequestField.{RequestField}
use Rattle.http_fields.specs.declared.request_fields.RequestFields.TheInside.{Inside}
use Rattle.http_fields.specs.Text.{FieldLine, line}
use Rattle.http_fields.specs.RequestFields.{AreExtra}

abbrev pub line_of : RequestField → FieldLine
line_of f = (f.name.items, f.value.items)

abbrev pub lines_of : List RequestField → List FieldLine
lines_of fields = map line_of fields

abbrev pub lines_view : Inside → List FieldLine
lines_view f = lines_of f.fields.items

-- the lines may be added, and `size` is the number of their bytes
pub record IsKept (f : Inside) : Type 0 where
  pub lines : AreExtra (lines_of f.fields.items)
  pub size : f.size ≡ length (flat_map line (lines_of f.fields.items))

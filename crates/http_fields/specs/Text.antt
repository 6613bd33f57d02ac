-- The text of a head (RFC 9112, section 2.1): a first line, fields, and an empty line.
use Rattle.std.specs.Prelude.{List, [], ◌∷◌, ◌++◌, ℕ, Bool, if◌then◌else◌, codes}
use Rattle.std.specs.List.{flat_map}

-- a field's name and value
abbrev pub FieldLine : Type 0
FieldLine = List ℕ × List ℕ

-- the line of a field: its name, a colon, one space, and its value
unfoldable pub line : FieldLine → List ℕ
line field = field.0 ++ codes ": " ++ field.1 ++ codes "\r\n"

-- a first line, the fields' lines, and an empty line
abbrev pub head_with : List ℕ → List FieldLine → List ℕ
head_with first fields = first ++ codes "\r\n" ++ flat_map line fields ++ codes "\r\n"

-- the field that ends the connection (RFC 9112, section 9.6)
abbrev pub closing : Bool → List FieldLine
closing close = if close then (codes "Connection", codes "close") ∷ [] else []

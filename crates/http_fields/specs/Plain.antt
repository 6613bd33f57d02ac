-- Field lines as the grammar of heads has them (RFC 9112, section 5).
use Rattle.std.specs.Prelude.{◌≡◌, ◌∷◌, reverse}
use Rattle.httparse.specs.Grammar.{AllPass, IsToken, is_value_byte, skip_ows, crlf, Field}
use Rattle.http_fields.specs.Text.{FieldLine}

-- the field of a line: one space stands before its value
abbrev pub field_of : FieldLine → Field
field_of l = record { name = l.0; raw = 32 ∷ l.1; end = crlf }

-- a name that is a token, and a value without white space at its ends
pub record IsPlain (l : FieldLine) : Type 0 where
  pub name : IsToken l.0
  pub value : AllPass is_value_byte l.1
  pub front : skip_ows l.1 ≡ l.1
  pub back : skip_ows (reverse l.1) ≡ reverse l.1

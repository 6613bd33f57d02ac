-- The fields of a head, by name (RFC 9110, section 5.1).
use Rattle.std.specs.Prelude.{ℕ, Bool, true, false, List, [], ◌∷◌, length, map, filter, All, Option, Some, None}
use Rattle.std.specs.Str.{str_eq_ignore_ascii_case}
use Rattle.httparse.specs.declared.spans.HeaderSpan.{HeaderSpan}
use Rattle.httparse.specs.Spans.{header_bytes, IsHeaderWithin}
use Rattle.http_fields.specs.Text.{FieldLine}

-- the field has this name; case is ignored
abbrev pub is_named : List ℕ → FieldLine → Bool
is_named name field = str_eq_ignore_ascii_case field.0 name

-- the values of the fields of this name, in order
abbrev pub values_of : List ℕ → List FieldLine → List (List ℕ)
values_of name fields = map (λ field. field.1) (filter (is_named name) fields)

-- the element of a list that has exactly one
abbrev pub only : {A : Type 0} → List A → Option A
only (x ∷ []) = Some x
only xs = None

-- the list has an element
abbrev pub is_there : {A : Type 0} → List A → Bool
is_there [] = false
is_there (x ∷ xs) = true

-- the names and values that the spans cover
abbrev pub fields_at : List ℕ → List HeaderSpan → List FieldLine
fields_at bytes spans = map (header_bytes bytes) spans

-- the spans lie within the bytes
abbrev pub AreWithin : List ℕ → List HeaderSpan → Type 0
AreWithin bytes spans = All (IsHeaderWithin (length bytes)) spans

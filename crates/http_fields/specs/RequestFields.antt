-- The field lines that a caller may add to a client's requests (RFC 9110, section 5).
use Rattle.std.specs.Prelude.{ℕ, ◌&&◌, ◌||◌, ◌==◌, ◌≤◌, ◌+◌, ◌-◌, Bool, not, IsTrue, List, length, nat_lt, nat_le, slice_index, codes}
use Rattle.std.specs.List.{flat_map, list_all}
use Rattle.std.specs.Str.{str_eq_ignore_ascii_case}
use Rattle.httparse.specs.Grammar.{is_token}
use Rattle.http_fields.specs.declared.limits.TheConstants.{EXTRA_LINES_LIMIT, EXTRA_BYTES_LIMIT}
use Rattle.http_fields.specs.Text.{FieldLine, line}

-- a visible character of ASCII: field-vchar without obs-text (section 5.5)
abbrev pub is_visible_char : ℕ → Bool
is_visible_char b = nat_lt 32 b && nat_lt b 127

-- such a character, a space, or a tab
abbrev pub is_value_char : ℕ → Bool
is_value_char b = is_visible_char b || b == 32 || b == 9

-- no white space stands at the front or the end
abbrev pub is_bare : List ℕ → Bool
is_bare value = length value == 0 || is_visible_char (slice_index value 0) && is_visible_char (slice_index value (length value - 1))

-- field-value (section 5.5): no character, or such characters of which the first and the last one are visible
abbrev pub is_field_value : List ℕ → Bool
is_field_value value = list_all is_value_char value && is_bare value

-- a field that a client writes itself; case is ignored (section 5.1)
abbrev pub is_written : List ℕ → Bool
is_written name =
    str_eq_ignore_ascii_case name (codes "Host") || str_eq_ignore_ascii_case name (codes "Range")
    || str_eq_ignore_ascii_case name (codes "If-Range") || str_eq_ignore_ascii_case name (codes "If-None-Match")
    || str_eq_ignore_ascii_case name (codes "Connection")

-- another condition (section 13.1), which would change what is answered
abbrev pub is_condition : List ℕ → Bool
is_condition name =
    str_eq_ignore_ascii_case name (codes "If-Match") || str_eq_ignore_ascii_case name (codes "If-Modified-Since")
    || str_eq_ignore_ascii_case name (codes "If-Unmodified-Since")

-- a field that announces a body, which a client's request doesn't have (RFC 9112, section 6)
abbrev pub is_of_body : List ℕ → Bool
is_of_body name =
    str_eq_ignore_ascii_case name (codes "Content-Length") || str_eq_ignore_ascii_case name (codes "Transfer-Encoding")
    || str_eq_ignore_ascii_case name (codes "Trailer") || str_eq_ignore_ascii_case name (codes "Expect")

-- A field of the connection. It would change how answers are framed, how long the connection stays, or its protocol (sections 7.6.1, 7.8
-- and 10.1.4; RFC 9112, section 9 and appendix C.2.2).
abbrev pub is_of_connection : List ℕ → Bool
is_of_connection name =
    str_eq_ignore_ascii_case name (codes "TE") || str_eq_ignore_ascii_case name (codes "Upgrade")
    || str_eq_ignore_ascii_case name (codes "Keep-Alive") || str_eq_ignore_ascii_case name (codes "Proxy-Connection")

-- a caller may not add a field of this name
abbrev pub is_reserved : List ℕ → Bool
is_reserved name = is_written name || is_condition name || is_of_body name || is_of_connection name

-- a line that may be added: its name is a token (section 5.6.2) that isn't reserved, and its value is a field-value
abbrev pub is_extra : FieldLine → Bool
is_extra l = is_token l.0 && not (is_reserved l.0) && is_field_value l.1

-- at most 16 such lines, of at most 1,024 bytes together (own)
pub record AreExtra (lines : List FieldLine) : Type 0 where
  pub each : IsTrue (list_all is_extra lines)
  pub few : length lines ≤ EXTRA_LINES_LIMIT
  pub short : length (flat_map line lines) ≤ EXTRA_BYTES_LIMIT

-- there is room for all lines and this one
abbrev pub has_room : List FieldLine → FieldLine → Bool
has_room lines l = nat_le (length (flat_map line lines) + (length l.0 + length l.1 + 4)) EXTRA_BYTES_LIMIT

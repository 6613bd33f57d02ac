-- Why a field line isn't added to a client's requests.
use Rattle.std.specs.Prelude.{◌≡◌, ℕ, not, nat_lt, if◌then◌else◌, List, length, Option, Some, None}
use Rattle.httparse.specs.Grammar.{is_token}
use Rattle.http_fields.specs.declared.limits.TheConstants.{EXTRA_LINES_LIMIT}
use Rattle.http_fields.specs.declared.request_fields.FieldError.{FieldError}
use Rattle.http_fields.specs.declared.request_fields.FieldError.TheVariants.{Name, Reserved, Value, Lines, Bytes, Memory}
use Rattle.http_fields.specs.Text.{FieldLine}
use Rattle.http_fields.specs.RequestFields.{has_room, is_field_value, is_reserved}

-- the first reason that holds
abbrev pub field_refusal : List FieldLine → FieldLine → Option FieldError
field_refusal lines l =
    if not (is_token l.0) then Some Name
    else if is_reserved l.0 then Some Reserved
    else if not (is_field_value l.1) then Some Value
    else if not (nat_lt (length lines) EXTRA_LINES_LIMIT) then Some Lines
    else if not (has_room lines l) then Some Bytes
    else None

-- The line is refused for this reason. The reason is memory only where no other one holds.
abbrev pub IsFieldRefusal : Option FieldError → FieldError → Type 0
IsFieldRefusal refusal Memory = refusal ≡ None
IsFieldRefusal refusal error = refusal ≡ Some error

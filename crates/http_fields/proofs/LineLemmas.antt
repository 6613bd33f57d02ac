-- A plain line is a field of the grammar.
use Rattle.std.proofs.Common.{◌≡◌, ◌+◌, true, length, refl, arith, append_assoc, length-append}
use Rattle.std.proofs.lemmas.List.Elements.{All-cons}
use Rattle.httparse.specs.Grammar.{is_value_byte, IsField, print_field}
use Rattle.httparse.specs.Spans.{name_and_value}
use Rattle.httparse.proofs.TrimLemmas.{trim_ows_space}
use Rattle.http_fields.specs.Text.{FieldLine, line}
use Rattle.http_fields.specs.Plain.{field_of, IsPlain}
use Rattle.http_fields.specs.Laws.{LinesAreFields}

print_field-is : (l : FieldLine) → print_field (field_of l) ≡ line l
unfolding line
print_field-is l = simp append_assoc

pub length-line : (l : FieldLine) → length (line l) ≡ length l.0 + length l.1 + 4
unfolding line
length-line l = simp length-append (omega arith)

field_is : (l : FieldLine) → IsPlain l → IsField (field_of l)
field_is l plain = record { name = plain.name; raw = All-cons (λ b. is_value_byte b ≡ true) 32 l.1 refl plain.value }

seen_is : (l : FieldLine) → IsPlain l → name_and_value (field_of l) ≡ l
seen_is l plain = λ i. (l.0, trim_ows_space l.1 plain.front plain.back i)

pub lines_are_fields : LinesAreFields
lines_are_fields = record { printed = print_field-is; size = length-line; field = field_is; seen = seen_is }

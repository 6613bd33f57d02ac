-- A head of plain lines is a head of the grammar.
use Rattle.std.proofs.Common.{◌≡◌, ℕ, ◌+◌, ◌*◌, ◌≤◌, List, [], ◌∷◌, ◌++◌, length, map, refl, sym, ap, ◌∙◌, arith, append_assoc, append-nil, length-append, Some, flat_map, codes}
use Rattle.std.specs.Prelude.{⊤, All}
use Rattle.std.specs.Char.{is_ascii_digit}
use Rattle.std.proofs.lemmas.List.Elements.{All-nil, All-cons}
use Rattle.httparse.specs.Grammar.{AllPass, is_value_byte, crlf, IsField, print_field, print_response, ResponseHead, IsResponseHead}
use Rattle.httparse.specs.Spans.{name_and_value}
use Rattle.httparse.proofs.GrammarLemmas.{cons-append, print_response-append}
use Rattle.http_fields.specs.Text.{FieldLine, line, head_with}
use Rattle.http_fields.specs.Plain.{field_of, IsPlain}
use Rattle.http_fields.specs.Laws.{PartsAreRead}

-- a plain line of at most 154 bytes
pub record IsShort (l : FieldLine) : Type 0 where
  pub plain : IsPlain l
  pub short : length l.0 + length l.1 ≤ 150

abbrev pub ArePlain : List FieldLine → Type 0
ArePlain [] = ⊤
ArePlain (l ∷ ls) = IsShort l × ArePlain ls

-- plain lines of any length
abbrev pub AreLines : List FieldLine → Type 0
AreLines [] = ⊤
AreLines (l ∷ ls) = IsPlain l × AreLines ls

pub are_lines : (ls : List FieldLine) → ArePlain ls → AreLines ls
are_lines [] plain = tt
are_lines (l ∷ ls) plain = (plain.0.plain, are_lines ls plain.1)

-- the head with this status
abbrev pub head_by : List ℕ → List ℕ → List FieldLine → ResponseHead
head_by digits phrase ls = record {
  blank = [];
  minor = 1;
  digits = digits;
  reason = Some phrase;
  line_end = crlf;
  fields = map field_of ls;
  last = crlf;
}

abbrev pub status_by : List ℕ → List ℕ → List ℕ
status_by digits phrase = codes "HTTP/1.1 " ++ digits ++ 32 ∷ phrase

regroup : (a d p e f g r : List ℕ)
    → (a ++ d ++ 32 ∷ p ++ e ++ f ++ g) ++ r ≡ a ++ (d ++ 32 ∷ (p ++ (e ++ ((f ++ g) ++ r))))
regroup a d p e f g r = simp (append_assoc, cons-append)

pub length-fields : (ls : List FieldLine) → length (map field_of ls) ≡ length ls
length-fields [] = refl
length-fields (l ∷ ls) = omega (arith, length-fields ls)

module _ (laws : PartsAreRead) where
  pub lines-are : (ls : List FieldLine) → flat_map print_field (map field_of ls) ≡ flat_map line ls
  lines-are [] = refl
  lines-are (l ∷ ls) = rw (laws.lines.printed l, lines-are ls)

  pub fields-are : (ls : List FieldLine) → AreLines ls → All IsField (map field_of ls)
  fields-are [] plain = All-nil IsField
  fields-are (l ∷ ls) plain =
      All-cons IsField (field_of l) (map field_of ls) (laws.lines.field l plain.0) (fields-are ls plain.1)

  pub seen-are : (ls : List FieldLine) → AreLines ls → map name_and_value (map field_of ls) ≡ ls
  seen-are [] plain = refl
  seen-are (l ∷ ls) plain = λ i. laws.lines.seen l plain.0 i ∷ seen-are ls plain.1 i

  head_with-append : (digits phrase : List ℕ) (ls : List FieldLine) (rest : List ℕ)
      → head_with (status_by digits phrase) ls ++ rest ≡ print_response (head_by digits phrase ls) ++ rest
  head_with-append digits phrase ls rest =
      regroup (codes "HTTP/1.1 ") digits phrase (codes "\r\n") (flat_map line ls) (codes "\r\n") rest
      ∙ ap (λ (t : List ℕ). codes "HTTP/1.1 " ++ (digits ++ 32 ∷ (phrase ++ (codes "\r\n" ++ ((t ++ codes "\r\n") ++ rest)))))
      (sym (lines-are ls))
      ∙ sym (print_response-append (head_by digits phrase ls) rest)

  pub head_with-is : (digits phrase : List ℕ) (ls : List FieldLine)
      → head_with (status_by digits phrase) ls ≡ print_response (head_by digits phrase ls)
  head_with-is digits phrase ls =
      sym (append-nil _) ∙ head_with-append digits phrase ls [] ∙ append-nil _

  pub head_is : (digits phrase : List ℕ) (ls : List FieldLine) → length digits ≡ 3 → AllPass is_ascii_digit digits
      → AllPass is_value_byte phrase → ArePlain ls → IsResponseHead (head_by digits phrase ls)
  head_is digits phrase ls three all value plain =
      record { minor = omega arith; digits = (three, all); reason = value; fields = fields-are ls (are_lines ls plain) }

  pub length-lines : (ls : List FieldLine) → ArePlain ls → length (flat_map line ls) ≤ length ls * 154
  length-lines [] plain = omega arith
  length-lines (l ∷ ls) plain =
      let later = length-lines ls plain.1 in
      let short = plain.0.short in
      omega (arith, length-append (line l) (flat_map line ls), laws.lines.size l)

  pub length-head_with : (first : List ℕ) (ls : List FieldLine) → ArePlain ls → length first ≤ 300 → length ls ≤ 20
      → length (head_with first ls) ≤ 4096
  length-head_with first ls plain short few =
      let lines = length-lines ls plain in
      simp length-append (omega arith)

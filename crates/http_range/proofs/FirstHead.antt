-- What prints as a request's head is the first message of a stream that begins with it.
use Rattle.std.proofs.Common.{◌≡◌, ℕ, suc, ◌+◌, ◌≤◌, Bool, true, false, not, ◌==◌, List, [], ◌∷◌, ◌++◌, length, take, drop, refl, sym, ap, ◌∙◌, subst, arith, append_assoc, append-nil, length-append, length-take, codes, IsTrue, inl, inr, ◌⊎◌, flat_map}
use Rattle.std.specs.Prelude.{All}
use Rattle.std.proofs.lemmas.Bool.{cases_Bool, eqb-true}
use Rattle.std.proofs.lemmas.Bool.Decides.{nat_tests}
use Rattle.std.proofs.lemmas.List.{append_cancel_right, take-append-drop, take-append-le, length-drop}
use Rattle.std.proofs.lemmas.List.Elements.{All-append, All-nil, All-cons, All-head, All-tail}
use Rattle.std.proofs.Math.Seq.{take-append_seam}
use Rattle.httparse.specs.Grammar.{AllPass, Field, IsField, IsToken, LineEnd, RequestHead, IsRequestHead, crlf, lf, is_token_byte, is_uri_byte, is_value_byte, print_blank, print_end, print_field, print_request, print_section, print_version}
use Rattle.httparse.proofs.GrammarLemmas.{cons-append, print_request-append}
use Rattle.http_range.specs.Laws.{HeadsAreMessages}
use Rattle.http_range.specs.Stream.{is_line_byte, AreLines, EndsHead, IsEmptyLine, IsFilledLine, IsMessage}
use Rattle.http_range.proofs.ReplyLemmas.{value_literal}

-- ---- bytes

abbrev Line : ℕ → Type 0
Line b = IsTrue (is_line_byte b)

line_of_test : (test : ℕ → Bool) → test 10 ≡ false → (b : ℕ) → IsTrue (test b) → Line b
line_of_test test out b pass = elim (cases_Bool (b == 10)) [
  | inl is ↦ absurd (let e : true ≡ false = sym pass ∙ ap test (eqb-true b 10 is) ∙ out in cc)
  | inr other ↦ ap not other
]

lines_of : (test : ℕ → Bool) → test 10 ≡ false → (xs : List ℕ) → AllPass test xs → AllPass is_line_byte xs
lines_of test out [] pass = All-nil Line
lines_of test out (x ∷ xs) pass =
    All-cons Line x xs (line_of_test test out x (All-head (λ b. IsTrue (test b)) x xs pass))
    (lines_of test out xs (All-tail (λ b. IsTrue (test b)) x xs pass))

no_feed : (b : ℕ) → Line b → b ≡ 10 → ⊥
no_feed b line is = let e : false ≡ true = sym (ap is_line_byte is) ∙ line in cc

-- ---- lists

abbrev first_or : ℕ → List ℕ → ℕ
first_or d [] = d
first_or d (x ∷ xs) = x

abbrev later : List ℕ → List ℕ
later [] = []
later (x ∷ xs) = xs

-- two texts are cut alike at their first LF
one_feed : (c d t u : List ℕ) → AllPass is_line_byte c → AllPass is_line_byte d → c ++ 10 ∷ t ≡ d ++ 10 ∷ u → (c ≡ d) × (t ≡ u)
one_feed [] [] t u pc pd e = (refl, ap later e)
one_feed [] (b ∷ d) t u pc pd e = absurd (no_feed b (All-head Line b d pd) (sym (ap (first_or 0) e)))
one_feed (a ∷ c) [] t u pc pd e = absurd (no_feed a (All-head Line a c pc) (ap (first_or 0) e))
one_feed (a ∷ c) (b ∷ d) t u pc pd e =
    let same = one_feed c d t u (All-tail Line a c pc) (All-tail Line b d pd) (ap later e) in
    (ap (λ (x : ℕ). x ∷ c) (ap (first_or 0) e) ∙ ap (λ (xs : List ℕ). b ∷ xs) same.0, same.1)

-- what stands behind an LF of whole lines is whole lines
lines_after : (xs rest front : List ℕ) → xs ++ 10 ∷ rest ≡ front ++ 10 ∷ [] → AreLines rest
lines_after [] rest [] e = inl (ap later e)
lines_after [] rest (b ∷ front) e = inr (front, ap later e)
lines_after (x ∷ xs) rest [] e =
    absurd (let n : length (xs ++ 10 ∷ rest) ≡ 0 = ap length (ap later e) in omega (arith, n, length-append xs (10 ∷ rest)))
lines_after (x ∷ xs) rest (b ∷ front) e = lines_after xs rest front (ap later e)

-- ---- the first line of a text

-- a text up to its first LF, if it has one
record Cut (text : List ℕ) : Type 0 where
  content : List ℕ
  rest : List ℕ
  joined : text ≡ content ++ 10 ∷ rest
  one : AllPass is_line_byte content

cut_more : (b : ℕ) (text : List ℕ) → (b == 10) ≡ false → Cut text → Cut (b ∷ text)
cut_more b text other c = record {
  content = b ∷ c.content;
  rest = c.rest;
  joined = ap (λ (t : List ℕ). b ∷ t) c.joined;
  one = All-cons Line b c.content (ap not other) c.one;
}

cut_at_feed : (front : List ℕ) → Cut (front ++ 10 ∷ [])
cut_at_feed [] = record { content = []; rest = []; joined = refl; one = All-nil Line }
cut_at_feed (b ∷ front) = elim (cases_Bool (b == 10)) [
  | inl is ↦ record {
    content = [];
    rest = front ++ 10 ∷ [];
    joined = ap (λ (c : ℕ). c ∷ (front ++ 10 ∷ [])) (eqb-true b 10 is);
    one = All-nil Line;
  }
  | inr other ↦ cut_more b (front ++ 10 ∷ []) other (cut_at_feed front)
]

-- A front that ends as a head does, of a line and a text: it is that line, which isn't empty, and an empty one; or what it has
-- of the text ends so.
record Peeled (line text rest : List ℕ) : Type 0 where
  front : List ℕ
  joined : text ≡ front ++ rest
  ends : (IsFilledLine line × IsEmptyLine front) ⊎ EndsHead front

regroup : (d l e r : List ℕ) → (d ++ 10 ∷ (l ++ e)) ++ r ≡ d ++ 10 ∷ ((l ++ e) ++ r)
regroup d l e r = append_assoc d (10 ∷ (l ++ e)) r

module _ (c t f rest : List ℕ) (one : AllPass is_line_byte c) (is : c ++ 10 ∷ t ≡ f ++ rest) (ends : EndsHead f) where
  -- nothing stands before the line
  at_first : ends.before ≡ [] → Peeled (c ++ 10 ∷ []) t rest
  at_first none =
      let filled = ends.filled in
      let f_is : f ≡ filled.content ++ 10 ∷ ends.empty =
      ends.joined ∙ ap (λ (b : List ℕ). b ++ (ends.line ++ ends.empty)) none ∙ ap (λ (l : List ℕ). l ++ ends.empty) filled.ended
      ∙ append_assoc filled.content (10 ∷ []) ends.empty in
      let same =
      one_feed c filled.content t (ends.empty ++ rest) one filled.one
      (is ∙ ap (λ (x : List ℕ). x ++ rest) f_is ∙ append_assoc filled.content (10 ∷ ends.empty) rest) in
      record {
        front = ends.empty;
        joined = same.1;
        ends = inl (subst IsFilledLine (filled.ended ∙ ap (λ (x : List ℕ). x ++ 10 ∷ []) (sym same.0)) filled, ends.ends);
      }

  -- lines stand before it
  behind_lines : (front : List ℕ) → ends.before ≡ front ++ 10 ∷ [] → Peeled (c ++ 10 ∷ []) t rest
  behind_lines front some =
      let cut = cut_at_feed front in
      let before_is : ends.before ≡ cut.content ++ 10 ∷ cut.rest = some ∙ cut.joined in
      let last = ends.line ++ ends.empty in
      let f_is : f ≡ cut.content ++ 10 ∷ (cut.rest ++ last) =
      ends.joined ∙ ap (λ (b : List ℕ). b ++ last) before_is ∙ append_assoc cut.content (10 ∷ cut.rest) last in
      let same =
      one_feed c cut.content t ((cut.rest ++ last) ++ rest) one cut.one
      (is ∙ ap (λ (x : List ℕ). x ++ rest) f_is ∙ append_assoc cut.content (10 ∷ (cut.rest ++ last)) rest) in
      record {
        front = cut.rest ++ last;
        joined = same.1;
        ends = inr (record {
          before = cut.rest;
          line = ends.line;
          empty = ends.empty;
          lines = lines_after cut.content cut.rest front (sym before_is ∙ some);
          filled = ends.filled;
          ends = ends.ends;
          joined = refl;
        });
      }

  peel : Peeled (c ++ 10 ∷ []) t rest
  peel = elim ends.lines [ inl none ↦ at_first none | inr some ↦ behind_lines some.0 some.1 ]

-- ---- the lines of a head

-- what stands before the LF of a line's end
abbrev return_of : LineEnd → List ℕ
return_of crlf = 13 ∷ []
return_of lf = []

end_is : (e : LineEnd) → print_end e ≡ return_of e ++ 10 ∷ []
end_is crlf = refl
end_is lf = refl

return_line : (e : LineEnd) → AllPass is_line_byte (return_of e)
return_line crlf = All-cons Line 13 [] refl (All-nil Line)
return_line lf = All-nil Line

-- an empty line isn't filled
not_filled : (e : LineEnd) → IsFilledLine (return_of e ++ 10 ∷ []) → ⊥
not_filled crlf filled = filled.more (sym (append_cancel_right (13 ∷ []) filled.content (10 ∷ []) filled.ended))
not_filled lf filled = filled.some (sym (append_cancel_right [] filled.content (10 ∷ []) filled.ended))

empty_is : (e : LineEnd) → IsEmptyLine (print_end e)
empty_is crlf = inr refl
empty_is lf = inl refl

nothing_ends : (f : List ℕ) → f ≡ [] → EndsHead f → ⊥
nothing_ends f none ends =
    let n : length (ends.before ++ (ends.line ++ ends.empty)) ≡ 0 = ap length (sym ends.joined ∙ none) in
    let l : length ends.line ≡ length ends.filled.content + 1 = ap length ends.filled.ended ∙ length-append ends.filled.content (10 ∷ []) in
    omega (arith, n, l, length-append ends.before (ends.line ++ ends.empty), length-append ends.line ends.empty)

none_left : (f rest : List ℕ) → [] ≡ f ++ rest → f ≡ []
none_left [] rest e = refl
none_left (b ∷ f) rest e = absurd (let n : 0 ≡ suc (length (f ++ rest)) = ap length e in omega (arith, n))

-- the content of a field line
abbrev field_content : Field → List ℕ
field_content f = f.name ++ 58 ∷ (f.raw ++ return_of f.end)

field_is : (f : Field) → print_field f ≡ field_content f ++ 10 ∷ []
field_is f =
    ap (λ (e : List ℕ). (f.name ++ 58 ∷ f.raw) ++ e) (end_is f.end)
    ∙ sym (append_assoc (f.name ++ 58 ∷ f.raw) (return_of f.end) (10 ∷ []))
    ∙ ap (λ (t : List ℕ). t ++ 10 ∷ []) (append_assoc f.name (58 ∷ f.raw) (return_of f.end))

token_lines : (xs : List ℕ) → AllPass is_token_byte xs → AllPass is_line_byte xs
unfolding is_token_byte
token_lines xs pass = lines_of is_token_byte refl xs pass

field_line : (f : Field) → IsField f → AllPass is_line_byte (field_content f)
field_line f is =
    All-append Line f.name (58 ∷ (f.raw ++ return_of f.end)) (token_lines f.name is.name.1)
    (All-cons Line 58 (f.raw ++ return_of f.end) refl
    (All-append Line f.raw (return_of f.end) (lines_of is_value_byte refl f.raw is.raw) (return_line f.end)))

-- a line that begins with a token and goes on is filled
filled_by_token : (name : List ℕ) (b : ℕ) (rest : List ℕ) → IsToken name → AllPass is_line_byte (name ++ b ∷ rest)
    → IsFilledLine ((name ++ b ∷ rest) ++ 10 ∷ [])
filled_by_token name b rest token one = record {
  content = name ++ b ∷ rest;
  one = one;
  some = λ none. let n : length (name ++ b ∷ rest) ≡ 0 = ap length none in omega (arith, n, length-append name (b ∷ rest));
  more = λ alone.
      let n : length (name ++ b ∷ rest) ≡ 1 = ap length alone in
      let some = token.0 in
      omega (arith, n, some, length-append name (b ∷ rest));
  ended = refl;
}

field_filled : (f : Field) → IsField f → IsFilledLine (print_field f)
field_filled f is =
    subst IsFilledLine (sym (field_is f)) (filled_by_token f.name 58 (f.raw ++ return_of f.end) is.name (field_line f is))

-- the content of a request line
abbrev start_content : RequestHead → List ℕ
start_content h = h.method ++ 32 ∷ (h.target ++ 32 ∷ (print_version h.minor ++ return_of h.line_end))

version_line : (minor : ℕ) → minor ≤ 1 → AllPass is_line_byte (print_version minor)
version_line minor small =
    All-append Line (codes "HTTP/1.") ((48 + minor) ∷ []) (lines_of is_value_byte refl (codes "HTTP/1.") (value_literal (codes "HTTP/1.") refl))
    (All-cons Line (48 + minor) [] (grind (arith, nat_tests)) (All-nil Line))

start_line : (h : RequestHead) → IsRequestHead h → AllPass is_line_byte (start_content h)
start_line h valid =
    All-append Line h.method (32 ∷ (h.target ++ 32 ∷ (print_version h.minor ++ return_of h.line_end))) (token_lines h.method valid.method.1)
    (All-cons Line 32 (h.target ++ 32 ∷ (print_version h.minor ++ return_of h.line_end)) refl
    (All-append Line h.target (32 ∷ (print_version h.minor ++ return_of h.line_end)) (lines_of is_uri_byte refl h.target valid.target.1)
    (All-cons Line 32 (print_version h.minor ++ return_of h.line_end) refl
    (All-append Line (print_version h.minor) (return_of h.line_end) (version_line h.minor valid.minor) (return_line h.line_end)))))

start_filled : (h : RequestHead) → IsRequestHead h → IsFilledLine (start_content h ++ 10 ∷ [])
start_filled h valid =
    filled_by_token h.method 32 (h.target ++ 32 ∷ (print_version h.minor ++ return_of h.line_end)) valid.method (start_line h valid)

-- ---- a head, line by line

section_is : (g : Field) (gs : List Field) (last : LineEnd)
    → print_section (g ∷ gs) last ≡ field_content g ++ 10 ∷ print_section gs last
section_is g gs last =
    append_assoc (print_field g) (flat_map print_field gs) (print_end last)
    ∙ ap (λ (l : List ℕ). l ++ print_section gs last) (field_is g)
    ∙ append_assoc (field_content g) (10 ∷ []) (print_section gs last)

regroup_start : (m t v r s : List ℕ)
    → m ++ 32 ∷ (t ++ 32 ∷ (v ++ ((r ++ 10 ∷ []) ++ (s ++ [])))) ≡ (m ++ 32 ∷ (t ++ 32 ∷ (v ++ r))) ++ 10 ∷ s
regroup_start m t v r s = simp (append_assoc, cons-append, append-nil)

request_is : (h : RequestHead)
    → print_request h ≡ print_blank h.blank ++ (start_content h ++ 10 ∷ print_section h.fields h.last)
request_is h =
    sym (append-nil (print_request h)) ∙ print_request-append h []
    ∙ ap (λ (e : List ℕ). print_blank h.blank ++ (h.method ++ 32 ∷ (h.target ++ 32 ∷ (print_version h.minor ++ (e ++ (print_section h.fields h.last ++ []))))))
    (end_is h.line_end)
    ∙ ap (λ (t : List ℕ). print_blank h.blank ++ t)
    (regroup_start h.method h.target (print_version h.minor) (return_of h.line_end) (print_section h.fields h.last))

blank_is : (e : LineEnd) (es : List LineEnd) (body : List ℕ)
    → return_of e ++ 10 ∷ (print_blank es ++ body) ≡ print_blank (e ∷ es) ++ body
blank_is e es body =
    sym (append_assoc (return_of e) (10 ∷ []) (print_blank es ++ body))
    ∙ ap (λ (t : List ℕ). t ++ (print_blank es ++ body)) (sym (end_is e))
    ∙ sym (append_assoc (print_end e) (print_blank es) body)

-- ---- no front of a head ends as a head does

not_empty_line : (name rest f left : List ℕ) → IsToken name → name ++ rest ≡ f ++ left → IsEmptyLine f → ⊥
unfolding is_token_byte
not_empty_line [] rest f left token is empty = let some = token.0 in omega (arith, some)
not_empty_line (b ∷ name) rest f left token is (inl feed) =
    let same : b ≡ 10 = ap (first_or 0) (is ∙ ap (λ (x : List ℕ). x ++ left) feed) in
    let e : true ≡ false = sym (All-head (λ x. IsTrue (is_token_byte x)) b name token.1) ∙ ap is_token_byte same in cc
not_empty_line (b ∷ name) rest f left token is (inr both) =
    let same : b ≡ 13 = ap (first_or 0) (is ∙ ap (λ (x : List ℕ). x ++ left) both) in
    let e : true ≡ false = sym (All-head (λ x. IsTrue (is_token_byte x)) b name token.1) ∙ ap is_token_byte same in cc

last_is : (last : LineEnd) (f rest : List ℕ) → print_end last ≡ f ++ rest → IsEmptyLine f → rest ≡ []
last_is crlf f rest is (inl feed) =
    absurd (let e : 13 ≡ 10 = ap (first_or 0) (is ∙ ap (λ (x : List ℕ). x ++ rest) feed) in omega (arith, e))
last_is crlf f rest is (inr both) = sym (ap (λ (x : List ℕ). later (later x)) (is ∙ ap (λ (x : List ℕ). x ++ rest) both))
last_is lf f rest is (inl feed) = sym (ap later (is ∙ ap (λ (x : List ℕ). x ++ rest) feed))
last_is lf f rest is (inr both) =
    absurd (let e : 10 ≡ 13 = ap (first_or 0) (is ∙ ap (λ (x : List ℕ). x ++ rest) both) in omega (arith, e))

section_whole : (fields : List Field) (last : LineEnd) (f rest : List ℕ) → All IsField fields → print_section fields last ≡ f ++ rest
    → IsEmptyLine f ⊎ EndsHead f → rest ≡ []
section_whole [] last f rest are is (inl empty) = last_is last f rest is empty
section_whole [] last f rest are is (inr ends) =
    let p = peel (return_of last) [] f rest (return_line last) (sym (end_is last) ∙ is) ends in
    elim p.ends [
      | inl x ↦ absurd (not_filled last x.0)
      | inr e ↦ absurd (nothing_ends p.front (none_left p.front rest p.joined) e)
    ]
section_whole (g ∷ gs) last f rest are is (inl empty) =
    let field = All-head IsField g gs are in
    absurd (not_empty_line g.name (58 ∷ (g.raw ++ return_of g.end) ++ 10 ∷ print_section gs last) f rest field.name
    (sym (section_is g gs last ∙ append_assoc g.name (58 ∷ (g.raw ++ return_of g.end)) (10 ∷ print_section gs last)) ∙ is) empty)
section_whole (g ∷ gs) last f rest are is (inr ends) =
    let field = All-head IsField g gs are in
    let p = peel (field_content g) (print_section gs last) f rest (field_line g field) (sym (section_is g gs last) ∙ is) ends in
    elim p.ends [
      | inl x ↦ section_whole gs last p.front rest (All-tail IsField g gs are) p.joined (inl x.1)
      | inr e ↦ section_whole gs last p.front rest (All-tail IsField g gs are) p.joined (inr e)
    ]

blanks_passed : (es : List LineEnd) (body f rest : List ℕ) → print_blank es ++ body ≡ f ++ rest → EndsHead f
    → (g : List ℕ) × (body ≡ g ++ rest) × EndsHead g
blanks_passed [] body f rest is ends = (f, is, ends)
blanks_passed (e ∷ es) body f rest is ends =
    let p = peel (return_of e) (print_blank es ++ body) f rest (return_line e) (blank_is e es body ∙ is) ends in
    elim p.ends [ inl x ↦ absurd (not_filled e x.0) | inr g ↦ blanks_passed es body p.front rest p.joined g ]

whole_head : (h : RequestHead) (f rest : List ℕ) → IsRequestHead h → print_request h ≡ f ++ rest → EndsHead f → rest ≡ []
whole_head h f rest valid is ends =
    let body = start_content h ++ 10 ∷ print_section h.fields h.last in
    let b = blanks_passed h.blank body f rest (sym (request_is h) ∙ is) ends in
    let p = peel (start_content h) (print_section h.fields h.last) b.0 rest (start_line h valid) b.1 b.2 in
    elim p.ends [
      | inl x ↦ section_whole h.fields h.last p.front rest valid.fields p.joined (inl x.1)
      | inr e ↦ section_whole h.fields h.last p.front rest valid.fields p.joined (inr e)
    ]

-- ---- a head ends as one

lines_more : (before line : List ℕ) → IsFilledLine line → AreLines (before ++ line)
lines_more before line filled = inr (
  before ++ filled.content,
  ap (λ (l : List ℕ). before ++ l) filled.ended ∙ sym (append_assoc before filled.content (10 ∷ [])),
)

section_ends : (fields : List Field) (last : LineEnd) (before line : List ℕ) → All IsField fields → AreLines before → IsFilledLine line
    → EndsHead (before ++ (line ++ print_section fields last))
section_ends [] last before line are lines filled = record {
  before = before;
  line = line;
  empty = print_end last;
  lines = lines;
  filled = filled;
  ends = empty_is last;
  joined = refl;
}
section_ends (g ∷ gs) last before line are lines filled =
    subst EndsHead
    (append_assoc before line (print_field g ++ print_section gs last)
    ∙ ap (λ (s : List ℕ). before ++ (line ++ s)) (sym (append_assoc (print_field g) (flat_map print_field gs) (print_end last))))
    (section_ends gs last (before ++ line) (print_field g) (All-tail IsField g gs are) (lines_more before line filled)
    (field_filled g (All-head IsField g gs are)))

blank_lines : (es : List LineEnd) → AreLines (print_blank es)
blank_lines [] = inl refl
blank_lines (e ∷ es) = elim (blank_lines es) [
  | inl none ↦ inr (return_of e, ap (λ (t : List ℕ). print_end e ++ t) none ∙ append-nil (print_end e) ∙ end_is e)
  | inr some ↦ inr (
    print_end e ++ some.0,
    ap (λ (t : List ℕ). print_end e ++ t) some.1 ∙ sym (append_assoc (print_end e) some.0 (10 ∷ [])),
  )
]

head_ends : (h : RequestHead) → IsRequestHead h → EndsHead (print_request h)
head_ends h valid =
    subst EndsHead
    (ap (λ (t : List ℕ). print_blank h.blank ++ t) (append_assoc (start_content h) (10 ∷ []) (print_section h.fields h.last)) ∙ sym (request_is h))
    (section_ends h.fields h.last (print_blank h.blank) (start_content h ++ 10 ∷ []) valid.fields (blank_lines h.blank) (start_filled h valid))

pub heads_are_messages : HeadsAreMessages
heads_are_messages h more valid small =
    let text = print_request h in record {
      front = take-append_seam text more;
      is_one = inr (head_ends h valid);
      shortest = λ k below found.
          let le : k ≤ length text = omega arith in
          let front : IsMessage (take k text) = subst IsMessage (take-append-le k text more le) found in
          elim front [
            | inl full ↦ omega (arith, full, below, small, length-take k text)
            | inr ends ↦
                let none : length (drop k text) ≡ 0 = ap length (whole_head h (take k text) (drop k text) valid (sym (take-append-drop k text)) ends) in
                omega (arith, none, below, length-drop k text)
          ];
    }

-- The test that goes backwards finds the end of a message where its lines make one.
use Rattle.std.proofs.Common.{◌≡◌, ◌≢◌, ℕ, Bool, true, false, not, ◌||◌, ◌==◌, List, [], ◌∷◌, ◌++◌, length, reverse, refl, sym, ap, ◌∙◌, subst, append_assoc, codes, IsTrue, inl, inr, ◌⊎◌}
use Rattle.std.proofs.lemmas.Bool.{and_parts, cases_Bool, eq-eqb, eqb-true}
use Rattle.std.proofs.lemmas.List.{reverse-append, reverse-reverse}
use Rattle.std.proofs.lemmas.List.Elements.{All-nil, All-cons, All-head, All-tail}
use Rattle.httparse.proofs.TrimLemmas.{AllPass-reverse}
use Rattle.httparse.specs.Grammar.{AllPass}
use Rattle.http_fields.specs.declared.limits.TheConstants.{MESSAGE_LIMIT}
use Rattle.http_range.specs.Scan.{begins_line, has_empty_line, ends_line, without_return, ends_head, is_message}
use Rattle.http_range.specs.Stream.{is_line_byte, AreLines, EndsHead, IsEmptyLine, IsFilledLine, IsMessage}

abbrev Line : ℕ → Type 0
Line b = IsTrue (is_line_byte b)

-- ---- a text up to its first LF

record Cut (text : List ℕ) : Type 0 where
  content : List ℕ
  rest : List ℕ
  joined : text ≡ content ++ rest
  one : AllPass is_line_byte content
  stops : (rest ≡ []) ⊎ ((later : List ℕ) × (rest ≡ 10 ∷ later))

cut_line : (text : List ℕ) → Cut text
cut_line [] = record { content = []; rest = []; joined = refl; one = All-nil Line; stops = inl refl }
cut_line (b ∷ text) = elim (cases_Bool (b == 10)) [
  | inl is ↦ record {
    content = [];
    rest = b ∷ text;
    joined = refl;
    one = All-nil Line;
    stops = inr (text, ap (λ (c : ℕ). c ∷ text) (eqb-true b 10 is));
  }
  | inr other ↦
      let later = cut_line text in record {
        content = b ∷ later.content;
        rest = later.rest;
        joined = ap (λ (t : List ℕ). b ∷ t) later.joined;
        one = All-cons Line b later.content (ap not other) later.one;
        stops = later.stops;
      }
]

-- what stands before a line, read backwards
lines_before : (rest : List ℕ) → (rest ≡ []) ⊎ ((later : List ℕ) × (rest ≡ 10 ∷ later)) → AreLines (reverse rest)
lines_before rest (inl none) = inl (ap reverse none)
lines_before rest (inr some) = inr (reverse some.0, ap reverse some.1 ∙ reverse-append (10 ∷ []) some.0)

nothing : (xs : List ℕ) → reverse xs ≡ [] → xs ≡ []
nothing xs none = sym (reverse-reverse xs) ∙ ap reverse none

alone : (xs : List ℕ) (b : ℕ) → reverse xs ≡ b ∷ [] → xs ≡ b ∷ []
alone xs b one = sym (reverse-reverse xs) ∙ ap reverse one

no_lf : (ends : Bool) → not ends ≡ true → ends ≡ false
no_lf true h = sym h
no_lf false h = refl

-- ---- from the test to the lines

-- behind CR alone no line begins, where a line isn't empty
not_return : (rest : List ℕ) → (rest ≡ []) ⊎ ((later : List ℕ) × (rest ≡ 10 ∷ later)) → begins_line rest ≡ true
not_return rest (inl none) = ap begins_line none
not_return rest (inr some) = ap begins_line some.1

record Behind (q : List ℕ) : Type 0 where
  before : List ℕ
  line : List ℕ
  lines : AreLines before
  filled : IsFilledLine line
  joined : reverse q ≡ before ++ line

filled_of : (p : List ℕ) → has_empty_line p ≡ false → (c : Cut p) → IsFilledLine (reverse c.content ++ 10 ∷ [])
filled_of p not_empty c = record {
  content = reverse c.content;
  one = AllPass-reverse is_line_byte c.content c.one;
  some = λ none.
      let p_is : p ≡ c.rest = c.joined ∙ ap (λ (t : List ℕ). t ++ c.rest) (nothing c.content none) in
      let empty : has_empty_line c.rest ≡ true = elim c.stops [
        | inl nil ↦ ap has_empty_line nil
        | inr lf ↦ ap has_empty_line lf.1
      ] in
      let e : true ≡ false = sym empty ∙ sym (ap has_empty_line p_is) ∙ not_empty in cc;
  more = λ one.
      let p_is : p ≡ 13 ∷ c.rest = c.joined ∙ ap (λ (t : List ℕ). t ++ c.rest) (alone c.content 13 one) in
      let e : true ≡ false = sym (not_return c.rest c.stops) ∙ sym (ap has_empty_line p_is) ∙ not_empty in cc;
  ended = refl;
}

behind_of : (p : List ℕ) → has_empty_line p ≡ false → Behind (10 ∷ p)
behind_of p not_empty =
    let c = cut_line p in record {
      before = reverse c.rest;
      line = reverse c.content ++ 10 ∷ [];
      lines = lines_before c.rest c.stops;
      filled = filled_of p not_empty c;
      joined =
          reverse-append (10 ∷ []) p
          ∙ ap (λ (t : List ℕ). reverse t ++ 10 ∷ []) c.joined
          ∙ ap (λ (t : List ℕ). t ++ 10 ∷ []) (reverse-append c.content c.rest)
          ∙ append_assoc (reverse c.rest) (reverse c.content) (10 ∷ []);
    }

line_behind : (q : List ℕ) → ends_line q ≡ true → Behind q
line_behind [] h = absurd (let e : false ≡ true = h in cc)
line_behind (b ∷ p) h =
    let parts = and_parts (b == 10) (not (has_empty_line p)) h in
    subst (λ (c : ℕ). Behind (c ∷ p)) (sym (eqb-true b 10 parts.0)) (behind_of p (no_lf (has_empty_line p) parts.1))

-- the end of an empty line, read backwards
empty_end : (before : List ℕ) → (empty : List ℕ) × IsEmptyLine empty × (reverse (10 ∷ before) ≡ reverse (without_return before) ++ empty)
empty_end [] = (codes "\n", inl refl, refl)
empty_end (b ∷ before) = elim (cases_Bool (b == 13)) [
  | inl is ↦ (
    codes "\r\n",
    inr refl,
    rw is (
        ap (λ (c : ℕ). reverse (10 ∷ c ∷ before)) (eqb-true b 13 is) ∙ reverse-append (10 ∷ 13 ∷ []) before
        ),
  )
  | inr other ↦ (codes "\n", inl refl, rw other (reverse-append (10 ∷ []) (b ∷ before)))
]

head_ends : (r : List ℕ) → ends_head r ≡ true → EndsHead (reverse r)
head_ends [] h = absurd (let e : false ≡ true = h in cc)
head_ends (b ∷ before) h =
    let parts = and_parts (b == 10) (ends_line (without_return before)) h in
    let behind = line_behind (without_return before) parts.1 in
    let end = empty_end before in record {
      before = behind.before;
      line = behind.line;
      empty = end.0;
      lines = behind.lines;
      filled = behind.filled;
      ends = end.1;
      joined =
          ap (λ (c : ℕ). reverse (c ∷ before)) (eqb-true b 10 parts.0) ∙ end.2
          ∙ ap (λ (t : List ℕ). t ++ end.0) behind.joined ∙ append_assoc behind.before behind.line end.0;
    }

-- ---- from the lines to the test

-- a line that isn't empty, read backwards
open_line : (d rest : List ℕ) → AllPass is_line_byte d → d ≢ [] → d ≢ 13 ∷ [] → has_empty_line (d ++ rest) ≡ false
open_line [] rest one some more = absurd (some refl)
open_line (b ∷ []) rest one some more =
    let no_feed : (b == 10) ≡ false = no_lf (b == 10) (All-head Line b [] one) in elim (cases_Bool (b == 13)) [
      | inl is ↦ absurd (more (ap (λ (c : ℕ). c ∷ []) (eqb-true b 13 is)))
      | inr other ↦ rw (no_feed, other) refl
    ]
open_line (b ∷ c ∷ d) rest one some more =
    let no_feed : (b == 10) ≡ false = no_lf (b == 10) (All-head Line b (c ∷ d) one) in
    let next : (c == 10) ≡ false = no_lf (c == 10) (All-head Line c d (All-tail Line b (c ∷ d) one)) in
    elim (cases_Bool (b == 13)) [ inl is ↦ rw (no_feed, is, next) refl | inr other ↦ rw (no_feed, other) refl ]

line_found : (before line : List ℕ) → IsFilledLine line → ends_line (reverse (before ++ line)) ≡ true
line_found before line filled =
    let d = reverse filled.content in
    let is : reverse (before ++ line) ≡ 10 ∷ (d ++ reverse before) =
    ap (λ (t : List ℕ). reverse (before ++ t)) filled.ended ∙ reverse-append before (filled.content ++ 10 ∷ [])
    ∙ ap (λ (t : List ℕ). t ++ reverse before) (reverse-append filled.content (10 ∷ [])) in
    let not_empty : has_empty_line (d ++ reverse before) ≡ false =
    open_line d (reverse before) (AllPass-reverse is_line_byte filled.content filled.one)
    (λ none. filled.some (nothing filled.content none)) (λ one. filled.more (alone filled.content 13 one)) in
    ap ends_line is ∙ ap not not_empty

end_found : (text empty : List ℕ) → IsEmptyLine empty → ends_line (reverse text) ≡ true → ends_head (reverse (text ++ empty)) ≡ true
end_found text empty (inl feed) found =
    ap (λ (e : List ℕ). ends_head (reverse (text ++ e))) feed ∙ ap ends_head (reverse-append text (10 ∷ [])) ∙ by_line (reverse text) found
  where
    by_line : (q : List ℕ) → ends_line q ≡ true → ends_line (without_return q) ≡ true
    by_line [] h = h
    by_line (b ∷ q) h =
        let parts = and_parts (b == 10) (not (has_empty_line q)) h in
        subst (λ (c : ℕ). ends_line (without_return (c ∷ q)) ≡ true) (sym (eqb-true b 10 parts.0)) parts.1
end_found text empty (inr both) found =
    ap (λ (e : List ℕ). ends_head (reverse (text ++ e))) both ∙ ap ends_head (reverse-append text (13 ∷ 10 ∷ [])) ∙ found

head_found : (text : List ℕ) → EndsHead text → ends_head (reverse text) ≡ true
head_found text ends =
    ap (λ (t : List ℕ). ends_head (reverse t)) (ends.joined ∙ sym (append_assoc ends.before ends.line ends.empty))
    ∙ end_found (ends.before ++ ends.line) ends.empty ends.ends (line_found ends.before ends.line ends.filled)

-- ---- messages

or_right : (a b : Bool) → a ≡ false → (a || b) ≡ b
or_right true b h = absurd (let e : true ≡ false = h in cc)
or_right false b h = refl

or_true : (a b : Bool) → b ≡ true → (a || b) ≡ true
or_true true b h = refl
or_true false b h = h

pub message_of : (front : List ℕ) → is_message front ≡ true → IsMessage front
unfolding is_message
message_of front h = elim (cases_Bool (length front == MESSAGE_LIMIT)) [
  | inl full ↦ inl (eqb-true (length front) MESSAGE_LIMIT full)
  | inr other ↦
      inr (subst EndsHead (reverse-reverse front)
      (head_ends (reverse front) (sym (or_right (length front == MESSAGE_LIMIT) (ends_head (reverse front)) other) ∙ h)))
]

pub message_found : (front : List ℕ) → IsMessage front → is_message front ≡ true
unfolding is_message
message_found front (inl full) = rw (eq-eqb (length front) MESSAGE_LIMIT full) refl
message_found front (inr ends) = or_true (length front == MESSAGE_LIMIT) (ends_head (reverse front)) (head_found front ends)

pub no_message_of : (front : List ℕ) → is_message front ≡ false → IsMessage front → ⊥
no_message_of front none is = let e : true ≡ false = sym (message_found front is) ∙ none in cc

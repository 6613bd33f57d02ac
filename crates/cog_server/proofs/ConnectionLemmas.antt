-- What a connection may still do.
use Rattle.std.proofs.Common.{◌≡◌, ◌==◌, ◌||◌, ℕ, ◌+◌, ◌≤◌, Bool, true, false, Option, Some, if◌then◌else◌, List, [], length, take, drop, not, sym, ap, subst, ◌∙◌, arith, inl, inr}
use Rattle.std.proofs.Math.Seq.{drop-length}
use Rattle.std.proofs.lemmas.Bool.Decides.{nat_tests}
use Rattle.std.proofs.lemmas.List.{length-take-le, nil_from_length}
use Rattle.http_fields.specs.declared.limits.TheConstants.{ANSWERS_LIMIT}
use Rattle.http_range.specs.Stream.{IsFirstMessage}
use Rattle.cog_server.specs.Additions.{ServiceState}
use Rattle.cog_server.specs.declared.outgoing.Outgoing.{Outgoing}
use Rattle.cog_server.specs.Outgoing.{IsOutgoing, waiting_of}
use Rattle.cog_server.specs.Status.{Status, GoesOnBy, Rests, let_go}

one_fewer : (n : ℕ) → n ≤ 100 → (n == 100) ≡ false → n + 1 ≤ 100
one_fewer n few other = grind (arith, nat_tests)

-- where it doesn't close, one more answer may be given
pub one_more_answer : (is_closed : Bool) (answers : ℕ) (shut : Bool) → shut ≡ (is_closed || answers == 100) → shut ≡ false → answers ≤ 100
    → answers + 1 ≤ 100
one_more_answer true answers shut is stays few = let clash : true ≡ false = sym is ∙ stays in cc
one_more_answer false answers shut is stays few = one_fewer answers few (sym is ∙ stays)

none_left : (n : ℕ) → not (n == 0) ≡ false → n ≡ 0
none_left n none = grind (arith, nat_tests)

-- nothing is written where nothing waits
pub nothing_waits : (waiting : List ℕ) (some : Bool) → some ≡ not (length waiting == 0) → some ≡ false → waiting ≡ []
nothing_waits waiting some is none = nil_from_length waiting (none_left (length waiting) (sym is ∙ none))

-- where no answer closes, nothing waits and a message is whole, it is answered
pub answers_now : (held waiting : List ℕ) (closed over : Bool) (answers dropped n : ℕ) (tag : Option (List ℕ)) (s : Status) (shut : Bool)
    → record { held = held; waiting = waiting; is_closed = closed; answers = answers; is_over = over; dropped = dropped; tag = tag } ≡ s
    → shut ≡ (closed || answers == ANSWERS_LIMIT) → shut ≡ false → waiting ≡ [] → n ≤ length held → IsFirstMessage held (take n held) → ¬ (Rests s)
answers_now held waiting closed over answers dropped n tag s shut view is_shut shut_not written few first =
    subst (λ (t : Status). ¬ (Rests t)) view (λ rests. elim rests [
      | inl shuts ↦ (let clash : true ≡ false = sym shuts ∙ sym is_shut ∙ shut_not in cc)
      | inr other ↦ elim other [
        | inl waits ↦ waits written
        | inr unfinished ↦ unfinished n few first.is_one
      ]
    ])

-- ---- the next answer

module _ (service : ServiceState) (held waiting : List ℕ) (closed over : Bool) (answers dropped n : ℕ) (tag : Option (List ℕ)) (s : Status) (o : Outgoing) (status : ℕ) (shut : Bool)
    (view : record { held = held; waiting = waiting; is_closed = closed; answers = answers; is_over = over; dropped = dropped; tag = tag } ≡ s)
    (is_shut : shut ≡ (closed || answers == ANSWERS_LIMIT)) (shut_not : shut ≡ false) (written : waiting ≡ []) (few : n ≤ length held)
    (first : IsFirstMessage held (take n held)) (out : IsOutgoing service answers (take n held) o status) where
  abbrev pub answered : Status
  answered = record { held = drop n held; waiting = waiting_of o; is_closed = o.close; answers = answers + 1; is_over = over; dropped = dropped; tag = o.tag }

  goes : (new : Status) → new ≡ let_go answered → GoesOnBy service s new (Some status)
  goes new is = subst (λ (t : Status). GoesOnBy service t new (Some status)) view (
    take n held,
    out.sent,
    record { goes_on = sym is_shut ∙ shut_not; written = written; first = first; answers = out.answers },
    is ∙ ap let_go (ap (λ (k : ℕ). record answered { held = drop k held }) (sym (length-take-le n held few))
        ∙ ap (λ (w : List ℕ). record answered { held = drop (length (take n held)) held; waiting = w }) out.text
        ∙ ap (λ (b : Bool). record answered { held = drop (length (take n held)) held; waiting = out.sent.text; is_closed = b }) out.close
        ∙ ap (λ (t : Option (List ℕ)). record answered { held = drop (length (take n held)) held; waiting = out.sent.text; is_closed = out.sent.response.close; tag = t }) out.tag),
    out.status,
  )

  pub goes_open : (last : Bool) → last ≡ (o.close || answers + 1 == ANSWERS_LIMIT) → last ≡ false → (rest : List ℕ) → rest ≡ drop n held
      → GoesOnBy service s (record answered { held = rest }) (Some status)
  goes_open last is stays rest rests =
      goes (record answered { held = rest }) (ap (λ (h : List ℕ). record answered { held = h }) rests
      ∙ ap (λ (t : Bool). if t then record answered { held = []; dropped = length (drop n held) } else answered) (sym (sym is ∙ stays)))

  pub goes_last : (last : Bool) → last ≡ (o.close || answers + 1 == ANSWERS_LIMIT) → last ≡ true → (rest left : List ℕ) (k : ℕ) → rest ≡ drop n held → k ≡ length rest → left ≡ drop k rest
      → GoesOnBy service s (record answered { held = left; dropped = k }) (Some status)
  goes_last last is shuts rest left k rests count leaves =
      let none : left ≡ [] = leaves ∙ (ap (λ (i : ℕ). drop i rest) count ∙ drop-length rest) in
      goes (record answered { held = left; dropped = k })
      (ap (λ (h : List ℕ). record answered { held = h; dropped = k }) none
      ∙ ap (λ (i : ℕ). record answered { held = []; dropped = i }) (count ∙ ap length rests)
      ∙ ap (λ (t : Bool). if t then record answered { held = []; dropped = length (drop n held) } else answered) (sym (sym is ∙ shuts)))

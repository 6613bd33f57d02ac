-- How much of a body is of use, by each case.
use Rattle.std.proofs.Common.{◌≡◌, ℕ, true, false, List, Option, Some, None, Ok, cond, refl, sym, ap, ◌∙◌, subst}
use Rattle.std.specs.Prelude.{max}
use Rattle.extents.specs.declared.span.Span.{Span}
use Rattle.http_range.specs.Announced.{Announced}
use Rattle.http_range.specs.Reading.{ReadsHead}
use Rattle.client_dialogue.specs.declared.useful.TheConstants.{FRONT}
use Rattle.client_dialogue.specs.Useful.{IsUseful, is_other, up_to, useful_by}

module _ (bytes : List ℕ) (asked : Option Span) (tag : Option (List ℕ)) (head : Announced) (reads : ReadsHead bytes (Ok head)) where
  by : (count : ℕ) → count ≡ useful_by asked tag (Ok head) → IsUseful bytes asked tag count
  by count is = record { read = Ok head; reads = reads; is = is }

  pub none_useful : asked ≡ None → IsUseful bytes asked tag FRONT
  none_useful none = by FRONT (subst (λ a. FRONT ≡ useful_by a tag (Ok head)) (sym none) refl)

  pub other_useful : (span : Span) → asked ≡ Some span → true ≡ is_other tag head → IsUseful bytes asked tag FRONT
  other_useful span some other =
      by FRONT (subst (λ a. FRONT ≡ useful_by a tag (Ok head)) (sym some) (ap (λ b. cond b FRONT (max (up_to span head) FRONT)) other))

  pub own_useful : (span : Span) (count : ℕ) → asked ≡ Some span → false ≡ is_other tag head → count ≡ max (up_to span head) FRONT → IsUseful bytes asked tag count
  own_useful span count some own is =
      by count (is ∙ subst (λ a. max (up_to span head) FRONT ≡ useful_by a tag (Ok head)) (sym some) (ap (λ b. cond b FRONT (max (up_to span head) FRONT)) own))

-- What waits to be written stays while a connection does.
use Rattle.std.proofs.Common.{◌≡◌, ◌++◌, ℕ, List, [], append-nil, append_assoc, ap, sym, ◌∙◌}
use Rattle.client_connection.specs.Status.{Status}
use Rattle.client_dialogue.specs.Goes.{KeepsWaits}

waits_same : (s t : Status) → t.is_open ≡ s.is_open → t.waits ≡ s.waits → KeepsWaits s t
waits_same s t alike same = λ opens. (sym alike ∙ opens, ([], same ∙ sym (append-nil s.waits)))

pub waits_is : (s t : Status) → t ≡ s → KeepsWaits s t
waits_is s t same = waits_same s t (ap (λ (x : Status). x.is_open) same) (ap (λ (x : Status). x.waits) same)

pub waits_then : (s t u : Status) → KeepsWaits s t → KeepsWaits t u → KeepsWaits s u
waits_then s t u first second = λ opens.
    let b = second opens in
    let a = first b.0 in
    (a.0, (a.1.0 ++ b.1.0, b.1.1 ∙ ap (λ (xs : List ℕ). xs ++ b.1.0) a.1.1 ∙ append_assoc s.waits a.1.0 b.1.0))

-- A query begins after another one.
use Rattle.std.proofs.Common.{◌≡◌, ℕ, List, ◌++◌, ap, append_assoc, subst, ◌∙◌}
use Rattle.client_connection.specs.Run.{Event}
use Rattle.client_dialogue.specs.Goes.{BeginsAnew}
use Rattle.client_dialogue.specs.History.{IsHistory, Talk}

pub begins_then : (n : ℕ) (t u v : Talk) → BeginsAnew n t u → u.exchanges ≡ n → BeginsAnew u.exchanges u v → BeginsAnew n t v
begins_then n t u v first same second = λ start allowed h c d is.
    let k = first start allowed h c d is in
    let l = second d n k.0 d d k.3 in (
      l.0,
      (k.1.0 ++ l.1.0, l.1.1 ∙ ap (λ (es : List Event). es ++ l.1.0) k.1.1 ∙ append_assoc h.events k.1.0 l.1.0),
      l.2,
      subst (λ (m : ℕ). IsHistory d m l.0 v d) same l.3,
    )

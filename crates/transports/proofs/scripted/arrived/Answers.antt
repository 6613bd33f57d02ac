use Rattle.std.proofs.Common.{drop, ap, ◌∙◌, ℕ, List, ◌++◌}
use Rattle.std.proofs.lemmas.List.{take-append-drop}
use Rattle.transports.proofs.scripted.arrived.Goals as goal

pub returns-in-Cut : goal.returns-in-Cut
returns-in-Cut c =
    let text = c.args.answer.items in
    let rest = drop c.in-Cut.n text in
    (rest, ap (λ (front : List ℕ). front ++ rest) c.truncate.ensures.items ∙ take-append-drop c.in-Cut.n text)

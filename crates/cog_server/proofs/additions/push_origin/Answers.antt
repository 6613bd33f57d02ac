use Rattle.std.proofs.Common.{◌≡◌, ℕ, List, ◌++◌, Bool, not, codes, ap, ◌∙◌, rules}
use Rattle.std.specs.Str.{bytes_eq}
use Rattle.cog_server.proofs.AdditionsLemmas.{affirmed, allowing, each_origin, exposing, negated, one_origin, varying}
use Rattle.cog_server.proofs.additions.push_origin.Goals as goal
use Rattle.cog_server.proofs.additions.push_origin.Goals.{then-ne+in_ok-push_line-2, else-ne}

pub returns : goal.returns
returns c =
    let origin = c.in-Some.origin.now in
    let other : c.ne.result ≡ not (bytes_eq origin (codes "*")) = search rules in
    let old = c.args.out.now.items in
    rw c.in-Some.is (elim c.if-ne.branch [
      | then-ne+in_ok-push_line-2 w ↦ c.in_ok-push_line-3.ensures
          ∙ ap (λ (xs : List ℕ). xs ++ exposing) (ap (λ v. v.items) w.out-is ∙ w.in_ok-push_line-2.ensures
          ∙ ap (λ (xs : List ℕ). xs ++ varying) c.in_ok-push_line.ensures)
          ∙ one_origin old origin (negated c.ne.result (bytes_eq origin (codes "*")) other w.if-ne.true)
      | else-ne w ↦ c.in_ok-push_line-3.ensures
          ∙ ap (λ (xs : List ℕ). xs ++ exposing) (ap (λ v. v.items) w.out-is ∙ c.in_ok-push_line.ensures)
          ∙ each_origin old origin (affirmed c.ne.result (bytes_eq origin (codes "*")) other w.if-ne.false)
    ])

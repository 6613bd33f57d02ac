use Rattle.std.proofs.Common.{◌≡◌, ◌∷◌, ◌∙◌, List, ℕ, true, drop, sym, ap, subst}
use Rattle.std.specs.Prelude.{IsTrue}
use Rattle.http_fields.specs.Target.{is_target}
use Rattle.cog_client.proofs.url.name_of_target.Goals as goal

pub returns-then-is_target : goal.returns-then-is_target
returns-then-is_target c =
    let target = c.args.target.now in
    let is : is_target target ≡ true = cc in
    let parts : target ≡ 47 ∷ c.past.result.now = c.law_parts_are_read.ensures.requests.slash target is ∙ ap (λ (name : List ℕ). 47 ∷ name) (sym c.past.ensures) in
    (is, subst (λ (text : List ℕ). IsTrue (is_target text)) parts is, c.past.ensures)

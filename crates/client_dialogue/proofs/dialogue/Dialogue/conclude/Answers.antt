use Rattle.std.proofs.Common.{ℕ, List, false, ap, append-nil, sym, subst}
use Rattle.cog_client.specs.Keeps.{DeliversKeeping}
use Rattle.client_dialogue.specs.History.{Talk}
use Rattle.client_dialogue.proofs.dialogue.Dialogue.conclude.Goals as goal

pub returns-clause-ok : goal.returns-clause-ok
returns-clause-ok c = (
  ap (λ (t : Talk). record t { asked = false }) c.self.view_is,
  λ s p fed. subst (λ (xs : List ℕ). DeliversKeeping s xs c.in-Ok.delivered c.end.new.self) (sym (append-nil p)) (c.in-Ok.ensures.ok s p fed),
)

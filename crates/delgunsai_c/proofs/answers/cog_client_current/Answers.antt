use Rattle.std.proofs.Common.{inl, refl, subst}
use Rattle.cog_client.specs.Check.{IsCurrent, IsStillThere}
use Rattle.cog_client.specs.Client.{tag_of}
use Rattle.delgunsai_c.specs.declared.held.Held.{Held}
use Rattle.delgunsai_c.proofs.answers.cog_client_current.Goals as goal

pub returns-clause-does : goal.returns-clause-does
returns-clause-does c =
    let held = c.in-Some.held.value.client in
    let answer = c.args.answer.now in
    let told = c.current-current in
    inl (record {
      before = held;
      after = held;
      was = c.in-Some.ensures.some;
      is = c.put.ensures.is;
      done = record {
        does = record {
          current = told.result;
          is = subst (λ (h : Held). IsCurrent (tag_of h.client) answer told.result) c.deref.ensures told.ensures.current;
          same = λ e. subst (λ (h : Held). IsStillThere (tag_of h.client) answer) c.deref.ensures (λ name book honest. told.ensures.same e name book honest);
          says = c.of_current.ensures;
          stays = refl;
        };
        says = refl;
      };
    })

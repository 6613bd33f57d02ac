use Rattle.std.proofs.Common.{ℕ, Option, arith, ap, sym, subst, ◌∙◌}
use Rattle.cog_client.specs.declared.error.ClientError.{ClientError}
use Rattle.world.specs.declared.event.Effect.TheVariants as effects
use Rattle.world.specs.Run.{MakesBy}
use Rattle.world.proofs.calls.make_client.Goals as goal

pub returns-in_ok-push-in-Ok-clause-ok : goal.returns-in_ok-push-in-Ok-clause-ok
returns-in_ok-push-in-Ok-clause-ok c =
    let P : Option ClientError → Type 0 = λ o. MakesBy o c.args.name.now c.args.blocks c.quiet.result c.args.clients.now.items c.push.new.self.items in
    subst P (sym c.in-Ok.ensures.ok) (
      c.in-Ok.client,
      c.in-Ok.ensures.starts,
      record {
        done = c.quiet.ensures.effect ∙ ap (λ (m : ℕ). effects.Made m) (omega (arith, c.args.clients.now.ok.0));
        report = c.quiet.ensures.report;
        same = c.in_ok-push-in-Ok.ensures.items;
      },
    )

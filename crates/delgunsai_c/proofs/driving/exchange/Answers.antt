use Rattle.std.proofs.Common.{Option, refl, subst, sym}
use Rattle.client_connection.specs.Status.{Status}
use Rattle.delgunsai_c.specs.declared.held.Held.{Held}
use Rattle.delgunsai_c.specs.Driving.{DrivesBy}
use Rattle.delgunsai_c.proofs.driving.exchange.Goals as goal

pub returns-clause-ok : goal.returns-clause-ok
returns-clause-ok c =
    let h = c.args.held.now in
    let k : Held = record { client = c.go_on.new.client; dialogue = c.go_on.new.self; check = h.check; exchanges = h.exchanges } in
    let made = c.in_ok-progress.ensures in
    subst (λ (o : Option Status). DrivesBy o c.args.bytes.now c.next_step.result h k) (sym c.requires) (
      c.in_ok-progress.progress.count,
      c.in_ok-progress.progress.step,
      c.next_step.ensures,
      record {
        few = made.few;
        drops = made.drops;
        goes = made.goes;
        says = made.says;
        keeps = made.keeps;
        advances = made.advances;
        begins = made.begins;
        plan = made.plan;
        useful = made.useful;
        status = made.status;
        waits = made.waits;
        check = c.requires;
        exchanges = refl;
      },
    )

use Rattle.std.proofs.Common.{◌≡◌, ◌∙◌, Option, Result, Ok, Err, None, ap, inl, inr, refl, sym, subst}
use Rattle.client_connection.specs.Status.{Status}
use Rattle.client_dialogue.specs.declared.step.Step.{Step}
use Rattle.client_dialogue.specs.declared.step.Step.TheVariants.{More}
use Rattle.delgunsai_c.specs.declared.held.Held.{Held}
use Rattle.delgunsai_c.specs.Moving.{EndsTo}
use Rattle.delgunsai_c.proofs.moving.gone.Goals as goal

abbrev step_of : {E : Type 0} → Step → Result Step E → Step
step_of other (Ok step) = step
step_of other (Err e) = other

pub returns : goal.returns
returns c =
    let h = c.args.held.now in
    let k : Held = record { client = c.gone-2.new.client; dialogue = c.gone-2.new.self; check = h.check; exchanges = h.exchanges } in
    let made = c.in_ok-step.ensures in
    subst (λ (o : Option Status). EndsTo o c.args.how (Ok c.next_step.result) h k) (sym c.in_default.is) (inr (record {
      busy = sym c.is_asked.ensures ∙ c.if-not-is_asked.false;
      step = c.in_ok-step.step;
      numbers = c.next_step.ensures;
      goes_on = record {
        goes = made.goes;
        says = made.says;
        over = made.over;
        status = made.status;
        again = made.again;
        kept = λ sent. ap (step_of More) (made.kept (elim sent.1 [ inl other ↦ inl (λ late. other (c.loss_of.ensures.late late)) | inr early ↦ inr early ]) sent.0);
        late = λ three early. made.late (c.loss_of.ensures.three three) early;
      };
      check = c.in_default.is;
      exchanges = refl;
    }))

use Rattle.std.proofs.Common.{ℕ, List, take, Ok, sym, subst, inl, inr}
use Rattle.http_range.specs.Announced.{announced}
use Rattle.cog_client.specs.declared.answer_phase.AnswerPhase.{AnswerPhase}
use Rattle.cog_client.specs.declared.answer_phase.AnswerPhase.TheVariants.{Waits}
use Rattle.cog_client.specs.PartialAnswer.{IsSoundPhase}
use Rattle.cog_client.specs.Head.{HasNoHead}
use Rattle.cog_client.proofs.partial_answer.PartialAnswer.told.Goals as goal

pub unreachable-requires : goal.unreachable-requires
unreachable-requires c =
    let sound : IsSoundPhase (Waits c.in-Waits.len) c.self.inside.head.items =
    subst (λ (f : AnswerPhase). IsSoundPhase f c.self.inside.head.items) c.in-Waits.is c.self.invariant.sound in
    let none : HasNoHead (take c.in-Waits.len c.deref.result.now) =
    subst (λ (xs : List ℕ). HasNoHead (take c.in-Waits.len xs)) (sym c.deref.ensures.value) sound.1 in
    elim (none (Ok (announced c.in-Head.field-0)) c.in-Head.ensures.reads) [
      | inl cut ↦ cc
      | inr refused ↦ cc
    ]

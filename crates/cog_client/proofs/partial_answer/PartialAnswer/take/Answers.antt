use Rattle.std.proofs.Common.{◌≡◌, ℕ, List, length, take, refl, sym, ap, ◌∙◌, subst}
use Rattle.std.specs.Prelude.{OnOk}
use Rattle.http_range.specs.Announced.{announced}
use Rattle.cog_client.specs.declared.answer_phase.AnswerPhase.{AnswerPhase}
use Rattle.cog_client.specs.PartialAnswer.{feed_in, TakesBytes}
use Rattle.cog_client.specs.Body.{Extends}
use Rattle.cog_client.specs.AnswerPhase.{Feed, follows}
use Rattle.cog_client.proofs.PartialAnswerLemmas.{room_is, then_ok}
use Rattle.cog_client.proofs.partial_answer.PartialAnswer.take.Goals as goal

pub returns-in-Follows-clause-ok : goal.returns-in-Follows-clause-ok
returns-in-Follows-clause-ok c =
    let i = c.self.inside in
    let a = c.args in
    let head = announced c.in-Follows.field-0 in
    let case = c.in-Follows.field-1 in
    let body = c.in-Follows.body in
    let new = c.take.new in
    let long : i.part.len ≡ length new.part =
    sym c.deref_mut.ensures.len ∙ ap length c.deref_mut.ensures.value ∙ c.self.invariant.part_room ∙ sym c.take.ensures.room in
    let old : follows head case body i.part.items ≡ a.self.now =
    subst (λ (f : AnswerPhase). feed_in f i.head.items i.part.items ≡ a.self.now) c.in-Follows.is c.self.view_is in
    subst (λ (xs : List ℕ). OnOk c.take.result (TakesBytes a.self.now a.cache.now a.bytes.now (follows head case new.self xs) new.cache)) (sym (room_is i.part.len new.part i.part.items long))
    (subst (λ (f : Feed). OnOk c.take.result (TakesBytes f a.cache.now a.bytes.now (follows head case new.self new.part) new.cache)) old
    (then_ok c.take.result (λ (goes : Extends body c.deref_mut.result.now a.cache.now (take body.left a.bytes.now) new.self new.part new.cache). record {
      body = new.self;
      part = new.part;
      keeps = refl;
      span_is = c.take.ensures.span;
      extends = subst (λ (xs : List ℕ). Extends body xs a.cache.now (take body.left a.bytes.now) new.self new.part new.cache) c.deref_mut.ensures.value goes;
    }) c.take.ensures.ok))

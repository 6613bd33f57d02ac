use Rattle.std.proofs.Common.{◌≡◌, ℕ, List, length, take, None, sym, ap, ◌∙◌, subst}
use Rattle.cog_client.specs.declared.answer_phase.AnswerPhase.{AnswerPhase}
use Rattle.cog_client.specs.declared.answer_phase.AnswerPhase.TheVariants.{Waits}
use Rattle.cog_client.specs.PartialAnswer.{feed_in, IsPartialAnswer, IsSoundPhase, LooksOn}
use Rattle.cog_client.specs.AnswerPhase.{Feed, waits}
use Rattle.cog_client.specs.Head.{HasNoHead}
use Rattle.cog_client.proofs.PartialAnswerLemmas.{room_is, waits_on}
use Rattle.cog_client.proofs.partial_answer.PartialAnswer.look.Goals as goal

pub read_on-requires-clause-none : goal.read_on-requires-clause-none
read_on-requires-clause-none c =
    let sound : IsSoundPhase (Waits c.in-Waits.len) c.self.inside.head.items =
    subst (λ (f : AnswerPhase). IsSoundPhase f c.self.inside.head.items) c.in-Waits.is c.self.invariant.sound in
    subst (λ (xs : List ℕ). HasNoHead (take c.in-Waits.len xs)) (sym c.deref_mut.ensures.value) sound.1

pub invariant_of-self : goal.invariant_of-self
invariant_of-self c =
    let i = c.self.inside in
    let room = c.read_on.new.room in
    let long : i.head.len ≡ length room =
    sym c.deref_mut.ensures.len ∙ ap length c.deref_mut.ensures.value ∙ c.self.invariant.head_room ∙ sym c.read_on.ensures.room in
    let w = c.in-Waits-read_on.ensures.looks in
    subst (λ (xs : List ℕ). IsPartialAnswer (Waits c.in-Waits-read_on.len) xs i.part.items) (sym (room_is i.head.len room i.head.items long))
    (record {
      head_room = c.read_on.ensures.room;
      part_room = c.self.invariant.part_room;
      sound = (w.short, subst HasNoHead (sym w.kept) w.none);
    })

pub returns-in-Waits-read_on : goal.returns-in-Waits-read_on
returns-in-Waits-read_on c =
    let i = c.self.inside in
    let room = c.read_on.new.room in
    let long : i.head.len ≡ length room =
    sym c.deref_mut.ensures.len ∙ ap length c.deref_mut.ensures.value ∙ c.self.invariant.head_room ∙ sym c.read_on.ensures.room in
    let old : waits (take c.in-Waits.len c.deref_mut.result.now) ≡ c.args.self.now =
    ap (λ (xs : List ℕ). waits (take c.in-Waits.len xs)) c.deref_mut.ensures.value
    ∙ subst (λ (f : AnswerPhase). feed_in f i.head.items i.part.items ≡ c.args.self.now) c.in-Waits.is c.self.view_is in
    subst (λ (xs : List ℕ). LooksOn c.args.self.now c.args.bytes.now (waits (take c.in-Waits-read_on.len xs)) None) (sym (room_is i.head.len room i.head.items long))
    (subst (λ (f : Feed). LooksOn f c.args.bytes.now (waits (take c.in-Waits-read_on.len room)) None) old
    (waits_on (take c.in-Waits.len c.deref_mut.result.now) c.args.bytes.now room c.in-Waits-read_on.len c.in-Waits-read_on.ensures.looks))

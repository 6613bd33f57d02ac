-- What nobody's coming is, and who keeps a slot.
use Rattle.std.proofs.Common.{◌≡◌, ◌∙◌, ◌<◌, ◌≤◌, ◌⊎◌, ℕ, false, length, Option, None, Some, refl, sym, le_trans, subst, inl, inr}
use Rattle.std.proofs.lemmas.Bool.{cases_lt}
use Rattle.cog_server.specs.Additions.{ServiceState}
use Rattle.server_connections.specs.declared.timed.Timed.{Timed}
use Rattle.server_sockets.specs.declared.serving.Serving.{Serving}
use Rattle.server_connections.specs.Table.{Table, timed_at}
use Rattle.server_connections.specs.Yielding.{IsUntried, MayYield}
use Rattle.server_sockets.specs.Going.{AllWentOn}
use Rattle.server_sockets.proofs.GoingLemmas.{all_on, all_still}
use Rattle.server_sockets.specs.Turns.{HasStartedAt, IsTriedAt, TriesOne}
use Rattle.std.specs.Prelude.{IfSome}
use Rattle.server_sockets.specs.declared.serving.Limits.{Limits}
use Rattle.server_sockets.specs.Slots.{AllStart, KeepsAll, KeepsBacklog, KeepsBusy, KeepsFreeing, KeepsTurns, NobodyComes, NoneChanges, StayOrStart, limits_of, slots_of, slot_count}

-- where nobody comes at first, nor then, nobody does
pub nobody_yet : (a b c : Serving) → NobodyComes a b → NobodyComes b c → NobodyComes a c
nobody_yet a b c first then = record {
  slots = λ k none. then.slots k (first.slots k none);
  accepted = then.accepted ∙ first.accepted;
  room = then.room ∙ first.room;
  limits = then.limits ∙ first.limits;
  ended = le_trans first.ended then.ended;
}

-- who keeps a slot at first, and then, does
pub busy_on : (now : ℕ) (a b c : Serving) → limits_of b ≡ limits_of a → KeepsBusy now a b → KeepsBusy now b c → KeepsBusy now a c
busy_on now a b c limits first then k p there =
    elim (first k p there) [
      | inl may ↦ inl may
      | inr stays ↦ elim (then k p stays) [
        | inl may ↦ inl (subst (λ (l : Limits). MayYield now l.patience p) limits may)
        | inr still ↦ inr still
      ]
    ]

-- who is there is as it was, behind both
pub same_on : (a b c : Serving) → NoneChanges a b → NoneChanges b c → NoneChanges a c
same_on a b c first then k p there = first k p (then k p there)

-- all went on, and then some lose their slots
pub went_still : (service : ServiceState) (now : ℕ) (a b c : Serving) → AllWentOn service now (slots_of a) (slots_of b) → NoneChanges b c
    → AllWentOn service now (slots_of a) (slots_of c)
went_still service now a b c went same =
    all_on service now (slots_of a) (slots_of b) (slots_of c) went (all_still service now (slots_of b) (slots_of c) same)

-- who is there was there, or starts, where some lose their slots
pub start_fewer : (now : ℕ) (a b : Serving) → NoneChanges a b → StayOrStart now a b
start_fewer now a b fewer k p there = inl (fewer k p there)

-- and where one more comes behind that
start_at : (now : ℕ) (a b c : Serving) → NoneChanges a b → KeepsAll b c → AllStart now b c → (k : ℕ) (p : Timed)
    → timed_at k (slots_of c) ≡ Some p → (before : Option Timed) → timed_at k (slots_of b) ≡ before
    → (timed_at k (slots_of a) ≡ Some p) ⊎ HasStartedAt k now (slots_of c)
start_at now a b c fewer keeps then k p there None gone = inr (then k p gone there)
start_at now a b c fewer keeps then k p there (Some q) has = inl (fewer k p (has ∙ sym (keeps k q has) ∙ there))

pub start_more : (now : ℕ) (a b c : Serving) → NoneChanges a b → KeepsAll b c → AllStart now b c → StayOrStart now a c
start_more now a b c fewer keeps then k p there = start_at now a b c fewer keeps then k p there (timed_at k (slots_of b)) refl

-- at first, and then
pub start_on : (now : ℕ) (a b c : Serving) → StayOrStart now a b → StayOrStart now b c → StayOrStart now a c
start_on now a b c first then k p there =
    elim (then k p there) [
      | inr starts ↦ inr starts
      | inl stays ↦ elim (first k p stays) [
        | inl was ↦ inl was
        | inr started ↦ inr (there ∙ sym stays ∙ started)
      ]
    ]

-- Who keeps its slot while a slot is free: once none is, nobody is known to wait, and no more are accepted.
pub spared_on : (a b c : Serving) → (a.out_of_descriptors ≡ false → b.out_of_descriptors ≡ false)
    → (a.out_of_descriptors ≡ false → length (slots_of a) < slot_count a → KeepsAll a b)
    → (a.out_of_descriptors ≡ false → length (slots_of a) < slot_count a → slot_count b ≤ length (slots_of b) → b.accept_pending ≡ false)
    → (b.out_of_descriptors ≡ false → length (slots_of b) < slot_count b → KeepsAll b c)
    → (b.accept_pending ≡ false → c ≡ b)
    → a.out_of_descriptors ≡ false → length (slots_of a) < slot_count a → KeepsAll a c
spared_on a b c fed first asked then quiet is-fed free =
    elim (cases_lt (length (slots_of b)) (slot_count b)) [
      | inl still ↦ (λ k p there. then (fed is-fed) still k p (first is-fed free k p there))
      | inr none ↦ subst (KeepsAll a) (sym (quiet (asked is-fed free none))) (first is-fed free)
    ]

-- what is known of the listen backlog, of replaced files, and of turns stays at first, and then
pub backlog_on : (a b c : Serving) → KeepsBacklog a b → KeepsBacklog b c → KeepsBacklog a c
backlog_on a b c first then = record {
  waits = then.waits ∙ first.waits;
  starved = then.starved ∙ first.starved;
  barred = then.barred ∙ first.barred;
}

pub freeing_on : (a b c : Serving) → KeepsFreeing a b → KeepsFreeing b c → KeepsFreeing a c
freeing_on a b c first then = record {
  frees = then.frees ∙ first.frees;
  publications = then.publications ∙ first.publications;
}

pub turns_on : (a b c : Serving) → KeepsTurns a b → KeepsTurns b c → KeepsTurns a c
turns_on a b c first then = record {
  ready = then.ready ∙ first.ready;
  drains = then.drains ∙ first.drains;
  freeing = freeing_on a b c first.freeing then.freeing;
}

tried_as : (now k : ℕ) (a b : Serving) → IsTriedAt now k (slots_of a) → NoneChanges a b → (o : Option Timed) → timed_at k (slots_of b) ≡ o
    → IsTriedAt now k (slots_of b)
tried_as now k a b is same None there = subst (λ (o : Option Timed). IfSome o (λ p. p.tried ≡ now)) (sym there) tt
tried_as now k a b is same (Some p) there =
    subst (λ (o : Option Timed). IfSome o (λ p. p.tried ≡ now)) (sym there)
    (subst (λ (o : Option Timed). IfSome o (λ p. p.tried ≡ now)) (same k p there) is)

-- one that was tried, and then some lose their slots
pub tried_still : (now k : ℕ) (a b : Serving) → IsTriedAt now k (slots_of a) → NoneChanges a b → IsTriedAt now k (slots_of b)
tried_still now k a b is same = tried_as now k a b is same (timed_at k (slots_of b)) refl

some_tried : (now : ℕ) (o : Option ℕ) (a b : Serving) → IfSome o (λ k. IsTriedAt now k (slots_of a)) → NoneChanges a b
    → IfSome o (λ k. IsTriedAt now k (slots_of b))
some_tried now None a b tried same = tt
some_tried now (Some k) a b tried same = tried_still now k a b tried same

-- one of those in the table was tried, and then some lose their slots
pub tries_still : (now p q : ℕ) (table : Table) (a b : Serving) → p ≡ q → TriesOne now p table (slots_of a) → NoneChanges a b
    → TriesOne now q table (slots_of b)
tries_still now p q table a b patience tries same =
    (tries.0, subst (λ (n : ℕ). IsUntried now n table tries.0) patience tries.1, some_tried now tries.0 a b tries.2 same)

-- what becomes of the connections where others are accepted, where the next one is, and where each has its turn
pub ruleset accepting = (busy_on, start_on, spared_on, turns_on)

pub ruleset accepting_one = (busy_on, start_more, start_fewer, turns_on)

pub ruleset taking_turns = (nobody_yet, backlog_on, freeing_on, all_on, went_still)

pub ruleset trying = (nobody_yet, backlog_on, freeing_on, all_still, went_still, tried_still)

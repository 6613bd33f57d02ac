-- Which connections change in turns, step by step.
use Rattle.std.proofs.Common.{◌≡◌, ◌≢◌, ◌∙◌, ◌+◌, ◌<◌, ◌++◌, ℕ, List, ◌∷◌, Option, None, Some, append_assoc, ap, arith, drop, get_or, inl, inr, length, refl, subst, sym, take, take-append-drop}
use Rattle.std.specs.Prelude.{Contains, IfSome, IsSomeAnd, true}
use Rattle.std.proofs.lemmas.Bool.{cases_eq}
use Rattle.std.proofs.lemmas.List.{drop_more}
use Rattle.std.proofs.lemmas.List.Elements.{Contains-append_right, Contains-get_or}
use Rattle.cog_server.specs.Additions.{ServiceState}
use Rattle.server_connections.specs.declared.timed.Timed.{Timed}
use Rattle.server_connections.specs.Table.{OthersStay, Table, timed_at}
use Rattle.server_connections.specs.Yielding.{IsUntried, is_overdue}
use Rattle.server_sockets.specs.declared.drain.Drain.{Drain}
use Rattle.server_sockets.specs.declared.serving.Limits.{Limits}
use Rattle.server_sockets.specs.declared.serving.Serving.{Serving}
use Rattle.server_sockets.specs.Closings.{BeginsWith, ChangesOnly, ClosesOnly, DrainsOnly, HasDrained, IsOverdueAt, MayClose, TriesAlone}
use Rattle.server_sockets.specs.Going.{AllWentOn}
use Rattle.server_sockets.specs.Slots.{KeepsBacklog, KeepsFreeing, NobodyComes, drains_of, limits_of, ready_of, slots_of}
use Rattle.server_sockets.proofs.GoingLemmas.{all_on}

-- ---- connections

-- who changes at first, or then, is one of these
changes_on : (P : ℕ → Type 0) (a b c : Table) → ChangesOnly P a b → ChangesOnly P b c → ChangesOnly P a c
changes_on P a b c first then k =
    elim (first k) [
      | inl is ↦ inl is
      | inr stays ↦ elim (then k) [
        | inl is ↦ inl is
        | inr still ↦ inr (still ∙ stays)
      ]
    ]

-- and so it is one of more
changes_for : (P Q : ℕ → Type 0) (a b : Table) → ((k : ℕ) → P k → Q k) → ChangesOnly P a b → ChangesOnly Q a b
changes_for P Q a b f changes k =
    elim (changes k) [
      | inl is ↦ inl (f k is)
      | inr stays ↦ inr stays
    ]

-- one changes, and it is one of these
pub changes_one : (P : ℕ → Type 0) (n : ℕ) (a b : Table) → OthersStay n a b → P n → ChangesOnly P a b
changes_one P n a b others is k =
    elim (cases_eq k n) [
      | inl same ↦ inl (subst P (sym same) is)
      | inr other ↦ inr (others k other)
    ]

-- all but one stay, at first and then
pub others_on : (n : ℕ) (a b c : Table) → OthersStay n a b → OthersStay n b c → OthersStay n a c
others_on n a b c first then k other = then k other ∙ first k other

-- none changes
pub changes_none : (P : ℕ → Type 0) (a : Table) → ChangesOnly P a a
changes_none P a k = inr refl

-- ---- drains

-- each drain was there at first, or then, or is of one of these
drains_on : (P : ℕ → Type 0) (a b c : List Drain) → DrainsOnly P a b → DrainsOnly P b c → DrainsOnly P a c
drains_on P a b c first then drain there =
    elim (then drain there) [
      | inl was ↦ first drain was
      | inr is ↦ inr is
    ]

drains_for : (P Q : ℕ → Type 0) (a b : List Drain) → ((k : ℕ) → P k → Q k) → DrainsOnly P a b → DrainsOnly Q a b
drains_for P Q a b f only drain there =
    elim (only drain there) [
      | inl was ↦ inl was
      | inr is ↦ inr (f drain.number is)
    ]

drains_none : (P : ℕ → Type 0) (a : List Drain) → DrainsOnly P a a
drains_none P a drain there = inl there

-- one that is there after some went was there before
there_before : (i : ℕ) (drains : List Drain) (drain : Drain) → Contains (drop i drains) drain → Contains drains drain
there_before i drains drain there =
    subst (λ l. Contains l drain) (take-append-drop i drains) (Contains-append_right (take i drains) (drop i drains) drain there)

drained_before : (now k i : ℕ) (drains : List Drain) → HasDrained now (drop i drains) k → HasDrained now drains k
drained_before now k i drains has =
    let there = there_before i drains has.1 (has.0, has.2, has.3) in
    (there.0, has.1, there.1, there.2, has.4)

-- where some are closed whose drain has ended, and then more are
pub drained_on : (now i : ℕ) (first then : List Drain) (a b c : Table) → then ≡ drop i first → ChangesOnly (HasDrained now first) a b
    → ChangesOnly (HasDrained now then) b c → ChangesOnly (HasDrained now first) a c
drained_on now i first then a b c is before after =
    changes_on (HasDrained now first) a b c before
    (changes_for (HasDrained now then) (HasDrained now first) b c
    (λ k has. drained_before now k i first (subst (λ l. HasDrained now l k) is has)) after)

-- ---- the queue

-- what it began with at first, it begins with in the end
pub begins_on : (a b c : List ℕ) → BeginsWith b a → BeginsWith c b → BeginsWith c a
begins_on a b c first then =
    (first.0 ++ then.0, then.1 ∙ ap (λ l. l ++ then.0) first.1 ∙ append_assoc a first.0 then.0)

next_of_queue : (i : ℕ) (before queue : List ℕ) → i < length before → (begins : BeginsWith queue (drop i before))
    → queue ≡ get_or before i 0 ∷ (drop (i + 1) before ++ begins.0)
next_of_queue i before queue within begins = begins.1 ∙ ap (λ l. l ++ begins.0) (drop_more before i 0 within)

-- the next one that is taken from the queue was in it before
taken_was_queued : (i n : ℕ) (before queue rest : List ℕ) → i < length before → BeginsWith queue (drop i before) → queue ≡ n ∷ rest
    → Contains before n
taken_was_queued i n before queue rest within begins is =
    subst (Contains before) (ap (λ l. get_or l 0 0) (sym (next_of_queue i before queue within begins) ∙ is))
    (Contains-get_or before i 0 within)

-- and those that are left were
left_in_queue : (i n : ℕ) (before queue rest : List ℕ) → i < length before → BeginsWith queue (drop i before) → queue ≡ n ∷ rest
    → BeginsWith rest (drop (i + 1) before)
left_in_queue i n before queue rest within begins is =
    (begins.0, ap (drop 1) (sym is ∙ next_of_queue i before queue within begins))

-- one is
pub queue_has_next : (i : ℕ) (before queue : List ℕ) → i < length before → BeginsWith queue (drop i before) → length queue ≢ 0
queue_has_next i before queue within begins none =
    let long = ap length (next_of_queue i before queue within begins) in
    omega (arith, none, long)

-- ---- sockets that are tried

-- none is
pub tries_none : (now : ℕ) (a : Serving) → TriesAlone now a a
tries_none now a = record {
  tried = None;
  untried = tt;
  changes = changes_none (λ k. None ≡ Some k) (slots_of a);
  drains = drains_none (λ k. None ≡ Some k) (drains_of a);
}

-- one is
pub tries_one : (now n : ℕ) (a b : Serving) → IsUntried now (limits_of a).patience (slots_of a) (Some n) → OthersStay n (slots_of a) (slots_of b)
    → DrainsOnly (λ k. k ≡ n) (drains_of a) (drains_of b) → TriesAlone now a b
tries_one now n a b is others drains = record {
  tried = Some n;
  untried = is;
  changes = changes_one (λ k. Some n ≡ Some k) n (slots_of a) (slots_of b) others refl;
  drains = drains_for (λ k. k ≡ n) (λ k. Some n ≡ Some k) (drains_of a) (drains_of b) (λ k same. ap Some (sym same)) drains;
}

-- ---- connections that are overdue

-- one that is overdue, and was as it is
overdue_before : (P : Timed → Type 0) (a b : Option Timed) → b ≡ a → IsSomeAnd b P → IsSomeAnd a P
overdue_before P a b same is = subst (λ (o : Option Timed). IsSomeAnd o P) same is

-- where some are closed that are overdue, and then more are
pub overdue_on : (P : Timed → Type 0) (a b c : Table) → ChangesOnly (λ k. IsSomeAnd (timed_at k a) P) a b
    → ChangesOnly (λ k. IsSomeAnd (timed_at k b) P) b c → ChangesOnly (λ k. IsSomeAnd (timed_at k a) P) a c
overdue_on P a b c first then k =
    elim (first k) [
      | inl is ↦ inl is
      | inr stays ↦ elim (then k) [
        | inl is ↦ inl (overdue_before P (timed_at k a) (timed_at k b) stays is)
        | inr still ↦ inr (still ∙ stays)
      ]
    ]

-- ---- all turns

-- what is so once this many of those that were queued have had their turns
pub record Turned (service : ServiceState) (now count : ℕ) (old new : Serving) : Type 0 where
  pub nobody : NobodyComes old new
  pub backlog : KeepsBacklog old new
  pub freeing : KeepsFreeing old new
  pub went : AllWentOn service now (slots_of old) (slots_of new)
  pub queue : BeginsWith (ready_of new) (drop count (ready_of old))
  pub queued : ChangesOnly (Contains (ready_of old)) (slots_of old) (slots_of new)
  pub drains : DrainsOnly (Contains (ready_of old)) (drains_of old) (drains_of new)

-- and after one more turn
pub turned_more : (service : ServiceState) (now i n : ℕ) (a b c : Serving) (rest : List ℕ) → i < length (ready_of a)
    → Turned service now i a b → ready_of b ≡ n ∷ rest → NobodyComes a c → KeepsBacklog a c → KeepsFreeing a c → AllWentOn service now (slots_of b) (slots_of c)
    → OthersStay n (slots_of b) (slots_of c) → BeginsWith (ready_of c) rest → DrainsOnly (λ k. k ≡ n) (drains_of b) (drains_of c)
    → Turned service now (i + 1) a c
turned_more service now i n a b c rest within is taken nobody backlog freeing went others queue drains =
    let there = taken_was_queued i n (ready_of a) (ready_of b) rest within is.queue taken in
    record {
      nobody = nobody;
      backlog = backlog;
      freeing = freeing;
      went = all_on service now (slots_of a) (slots_of b) (slots_of c) is.went went;
      queue = begins_on (drop (i + 1) (ready_of a)) rest (ready_of c) (left_in_queue i n (ready_of a) (ready_of b) rest within is.queue taken) queue;
      queued = changes_on (Contains (ready_of a)) (slots_of a) (slots_of b) (slots_of c) is.queued
          (changes_one (Contains (ready_of a)) n (slots_of b) (slots_of c) others there);
      drains = drains_on (Contains (ready_of a)) (drains_of a) (drains_of b) (drains_of c) is.drains
          (drains_for (λ k. k ≡ n) (Contains (ready_of a)) (drains_of b) (drains_of c) (λ k same. subst (Contains (ready_of a)) (sym same) there) drains);
    }

module _ (service : ServiceState) (now : ℕ) (a b c d e : Serving) (limits : limits_of b ≡ limits_of a)
    (queued : ChangesOnly (Contains (ready_of a)) (slots_of a) (slots_of b))
    (drains : DrainsOnly (Contains (ready_of a)) (drains_of a) (drains_of b))
    (tries : TriesAlone now b c)
    (drained : ChangesOnly (HasDrained now (drains_of c)) (slots_of c) (slots_of d))
    (limits_then : limits_of d ≡ limits_of a)
    (freed : ChangesOnly (IsOverdueAt service.catalogue now (limits_of d).patience (slots_of d)) (slots_of d) (slots_of e)) where
  -- why one may be closed
  abbrev May : ℕ → Type 0
  May = MayClose service.catalogue now a tries.tried

  -- a drain that had ended was there before the turns, or is of one that was queued or tried
  ended : (k : ℕ) → HasDrained now (drains_of c) k → May k
  ended k has =
      elim (tries.drains has.1 (has.0, has.2, has.3)) [
        | inr tried ↦ inr (inr (inl (subst (λ n. tries.tried ≡ Some n) has.4.0 tried)))
        | inl there ↦ elim (drains has.1 there) [
          | inr was ↦ inl (subst (Contains (ready_of a)) has.4.0 was)
          | inl first ↦ inr (inl (first.0, has.1, first.1, first.2, has.4))
        ]
      ]

  -- up to the last drain
  until_drained : ChangesOnly May (slots_of a) (slots_of d)
  until_drained =
      changes_on May (slots_of a) (slots_of b) (slots_of d)
      (changes_for (Contains (ready_of a)) May (slots_of a) (slots_of b) (λ k is. inl is) queued)
      (changes_on May (slots_of b) (slots_of c) (slots_of d)
      (changes_for (λ k. tries.tried ≡ Some k) May (slots_of b) (slots_of c) (λ k is. inr (inr (inl is))) tries.changes)
      (changes_for (HasDrained now (drains_of c)) May (slots_of c) (slots_of d) ended drained))

  all_closed : ChangesOnly May (slots_of a) (slots_of e)
  all_closed k =
      elim (until_drained k) [
        | inl is ↦ inl is
        | inr stays ↦ elim (freed k) [
          | inr still ↦ inr (still ∙ stays)
          | inl over ↦ inl (inr (inr (inr
              (subst (λ (l : Limits). IsOverdueAt service.catalogue now l.patience (slots_of a) k) limits_then
              (overdue_before (λ p. is_overdue service.catalogue now (limits_of d).patience p ≡ true) (timed_at k (slots_of a)) (timed_at k (slots_of d))
              stays over)))))
        ]
      ]

  -- what becomes of the connections in turns
  pub closing : AllWentOn service now (slots_of a) (slots_of b) → AllWentOn service now (slots_of b) (slots_of e)
      → ClosesOnly service now a e
  closing went goes_on = record {
    turned = slots_of b;
    went = went;
    queued = queued;
    tried = tries.tried;
    untried = subst (λ (l : Limits). IfSome tries.tried (λ k. IsUntried now l.patience (slots_of b) (Some k))) limits tries.untried;
    goes_on = goes_on;
    closes = all_closed;
  }

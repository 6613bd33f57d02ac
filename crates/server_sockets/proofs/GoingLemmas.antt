-- How connections go on, step by step.
use Rattle.std.proofs.Common.{◌≡◌, ◌≢◌, ◌||◌, ◌≤◌, ℕ, Bool, true, false, nat_eq, not, List, [], ◌∷◌, ◌++◌, length, take, Option, Some, None, Result, Ok, Err, refl, sym, ap, ◌∙◌, subst, arith, inl, inr}
use Rattle.std.specs.Prelude.{◌==◌, if◌then◌else◌, IfOk, IfSome, IsSomeAnd, OnErr, option_map}
use Rattle.std.specs.List.{list_any}
use Rattle.std.proofs.lemmas.Bool.{cases_Bool}
use Rattle.std.proofs.lemmas.Bool.Decides.{nat_tests}
use Rattle.std.proofs.lemmas.List.{length-take-le}
use Rattle.std.proofs.lemmas.List.Folds.{list_any-append}
use Rattle.std.proofs.lemmas.Option.{none-some}
use Rattle.cog_server.specs.Additions.{ServiceState}
use Rattle.cog_server.specs.Received.{after_read}
use Rattle.cog_server.specs.Run.{AreFrom, CanHappen, CanRun, Event, Exchange, Past, happened, run}
use Rattle.cog_server.specs.Run.Event.{Came, Came_to_end, Answered, Wrote}
use Rattle.cog_server.specs.Status.{EndsBy, after_answer, after_bytes, after_end, after_write, room_of}
use Rattle.server_connections.specs.declared.timed.Timed.{Timed}
use Rattle.server_connections.specs.Table.{Becomes, Changes, GoesOnAt, OthersStay, Table, timed_after_write, timed_at}
use Rattle.server_sockets.specs.Going.{AllWentOn, WentOn, is_progress, is_try, since}
use Rattle.server_sockets.specs.Turns.{IsOpenAt, IsTriedAt}

-- ---- runs one behind another

pub run_append : (first next : List Event) (p : Past) → run (first ++ next) p ≡ run next (run first p)
run_append [] next p = refl
run_append (e ∷ first) next p = run_append first next (happened e p)

pub can_append : (first next : List Event) (p : Past) → CanRun first p → CanRun next (run first p) → CanRun (first ++ next) p
can_append [] next p can may = may
can_append (e ∷ first) next p can may = (can.0, can_append first next (happened e p) can.1 may)

-- what happens depends on the status alone
same_event : (e : Event) (p q : Past) → p.status ≡ q.status → (happened e p).status ≡ (happened e q).status
same_event (Came bytes) p q same = ap (after_bytes bytes) same
same_event Came_to_end p q same = ap after_end same
same_event (Answered e) p q same = ap (after_answer e.message e.sent) same
same_event (Wrote n) p q same = ap (after_write n) same

pub same_run : (es : List Event) (p q : Past) → p.status ≡ q.status → (run es p).status ≡ (run es q).status
same_run [] p q same = same
same_run (e ∷ es) p q same = same_run es (happened e p) (happened e q) (same_event e p q same)

pub same_can : (es : List Event) (p q : Past) → p.status ≡ q.status → CanRun es p → CanRun es q
same_can [] p q same can = tt
same_can (e ∷ es) p q same can =
    (subst (CanHappen e) same can.0, same_can es (happened e p) (happened e q) (same_event e p q same) can.1)

-- ---- exchanges of one service

from_first : (service : ServiceState) (xs ys : List Exchange) → AreFrom service (xs ++ ys) → AreFrom service xs
from_first service [] ys h = tt
from_first service (x ∷ xs) ys h = (h.0, from_first service xs ys h.1)

from_last : (service : ServiceState) (xs ys : List Exchange) → AreFrom service (xs ++ ys) → AreFrom service ys
from_last service [] ys h = h
from_last service (x ∷ xs) ys h = from_last service xs ys h.1

from_append : (service : ServiceState) (xs ys : List Exchange) → AreFrom service xs → AreFrom service ys → AreFrom service (xs ++ ys)
from_append service [] ys first next = next
from_append service (x ∷ xs) ys first next = (first.0, from_append service xs ys first.1 next)

from_before : (service : ServiceState) (es : List Event) (p : Past) → AreFrom service (run es p).exchanges → AreFrom service p.exchanges
from_before service [] p h = h
from_before service (Came bytes ∷ es) p h = from_before service es (happened (Came bytes) p) h
from_before service (Came_to_end ∷ es) p h = from_before service es (happened Came_to_end p) h
from_before service (Answered e ∷ es) p h =
    from_first service p.exchanges (e ∷ []) (from_before service es (happened (Answered e) p) h)
from_before service (Wrote n ∷ es) p h = from_before service es (happened (Wrote n) p) h

-- what is answered in a run doesn't depend on what was before
from_behind : (service : ServiceState) (es : List Event) (p q : Past) → AreFrom service p.exchanges → AreFrom service (run es q).exchanges
    → AreFrom service (run es p).exchanges
from_behind service [] p q first next = first
from_behind service (Came bytes ∷ es) p q first next =
    from_behind service es (happened (Came bytes) p) (happened (Came bytes) q) first next
from_behind service (Came_to_end ∷ es) p q first next =
    from_behind service es (happened Came_to_end p) (happened Came_to_end q) first next
from_behind service (Answered e ∷ es) p q first next =
    let this = from_last service q.exchanges (e ∷ []) (from_before service es (happened (Answered e) q) next) in
    from_behind service es (happened (Answered e) p) (happened (Answered e) q) (from_append service p.exchanges (e ∷ []) first this) next
from_behind service (Wrote n ∷ es) p q first next =
    from_behind service es (happened (Wrote n) p) (happened (Wrote n) q) first next

-- ---- one connection

still : (service : ServiceState) (now : ℕ) (p : Timed) → WentOn service now p p
still service now p = record { events = []; can = tt; from = tt; connection = refl; progress = refl; tried = refl }

either : (a b : Bool) (now old : ℕ) → (if b then now else (if a then now else old)) ≡ (if a || b then now else old)
either true true now old = refl
either true false now old = refl
either false true now old = refl
either false false now old = refl

went_on : (service : ServiceState) (now : ℕ) (p q r : Timed) → WentOn service now p q → WentOn service now q r → WentOn service now p r
went_on service now p q r first next =
    let begin = since p.connection in
    let middle = run first.events begin in
    let again = since q.connection in
    let whole = run_append first.events next.events begin in
    let progress = list_any-append is_progress first.events next.events in
    let tried = list_any-append is_try first.events next.events in
    record {
      events = first.events ++ next.events;
      can = can_append first.events next.events begin first.can (same_can next.events again middle first.connection next.can);
      from = subst (λ (x : Past). AreFrom service x.exchanges) (sym whole)
          (from_behind service next.events middle again first.from next.from);
      connection = next.connection ∙ same_run next.events again middle first.connection ∙ ap (λ (x : Past). x.status) (sym whole);
      progress = next.progress ∙ ap (λ (n : ℕ). if list_any is_progress next.events then now else n) first.progress
          ∙ either (list_any is_progress first.events) (list_any is_progress next.events) now p.progress
          ∙ ap (λ (b : Bool). if b then now else p.progress) (sym progress);
      tried = next.tried ∙ ap (λ (n : ℕ). if list_any is_try next.events then now else n) first.tried
          ∙ either (list_any is_try first.events) (list_any is_try next.events) now p.tried
          ∙ ap (λ (b : Bool). if b then now else p.tried) (sym tried);
    }

read : (service : ServiceState) (now : ℕ) (p : Timed) (bytes : List ℕ) → length bytes ≤ room_of p.connection
    → WentOn service now p (record p { connection = after_read bytes p.connection })
read service now p [] room =
    record { events = Came_to_end ∷ []; can = (tt, tt); from = tt; connection = refl; progress = refl; tried = refl }
read service now p (b ∷ bytes) room =
    record { events = Came (b ∷ bytes) ∷ []; can = (room, tt); from = tt; connection = refl; progress = refl; tried = refl }

written : (none : Bool) (now old : ℕ) → (if none then old else now) ≡ (if not none || false then now else old)
written true now old = refl
written false now old = refl

wrote : (service : ServiceState) (now : ℕ) (p : Timed) (n : ℕ) → n ≤ length p.connection.waiting
    → WentOn service now p (timed_after_write n now p)
wrote service now p n few =
    record { events = Wrote n ∷ []; can = (few, tt); from = tt; connection = refl; progress = written (n == 0) now p.progress; tried = refl }

-- ---- tables

of_some : {P Q : Timed → Type 0} (o : Option Timed) → ((p : Timed) → P p → Q p) → IsSomeAnd o P → IsSomeAnd o Q
of_some None f h = h
of_some (Some p) f h = f p h

on_by : (service : ServiceState) (now k : ℕ) (a b : Table) (r : Timed) (o : Option Timed) → timed_at k b ≡ o → AllWentOn service now a b
    → IsSomeAnd o (λ q. WentOn service now q r) → IsSomeAnd (timed_at k a) (λ p. WentOn service now p r)
on_by service now k a b r None is first next = absurd next
on_by service now k a b r (Some q) is first next =
    of_some (timed_at k a) (λ p went. went_on service now p q r went next) (first.each k q is)

-- where all went on at first, and then, all did
pub all_on : (service : ServiceState) (now : ℕ) (a b c : Table) → AllWentOn service now a b → AllWentOn service now b c
    → AllWentOn service now a c
all_on service now a b c first next = record {
  each = λ k r there. on_by service now k a b r (timed_at k b) refl first (next.each k r there);
}

-- who is there as it was went on by nothing
pub all_still : (service : ServiceState) (now : ℕ) (old new : Table)
    → ((k : ℕ) (p : Timed) → timed_at k new ≡ Some p → timed_at k old ≡ Some p) → AllWentOn service now old new
all_still service now old new same = record {
  each = λ k p there.
      subst (λ (o : Option Timed). IsSomeAnd o (λ before. WentOn service now before p)) (sym (same k p there)) (still service now p);
}

is_number : (k j : ℕ) → nat_eq k j ≡ true → j ≡ k
is_number k j e = grind (arith, nat_tests)

other_number : (k j : ℕ) → nat_eq k j ≡ false → j ≢ k
other_number k j e = grind (arith, nat_tests)

-- one went on, and the others stay
one_on : (service : ServiceState) (now k : ℕ) (old new : Table) → OthersStay k old new
    → ((p : Timed) → timed_at k new ≡ Some p → IsSomeAnd (timed_at k old) (λ before. WentOn service now before p))
    → AllWentOn service now old new
one_on service now k old new others here = record {
  each = λ j p there. elim (cases_Bool (nat_eq k j)) [
    | inl same ↦ (let is = is_number k j same in
        subst (λ (i : ℕ). IsSomeAnd (timed_at i old) (λ before. WentOn service now before p)) (sym is)
        (here p (subst (λ (i : ℕ). timed_at i new ≡ Some p) is there)))
    | inr other ↦ subst (λ (o : Option Timed). IsSomeAnd o (λ before. WentOn service now before p))
        (sym (sym (others j (other_number k j other)) ∙ there)) (still service now p)
  ];
}

changed_from : (service : ServiceState) (now : ℕ) (f : Timed → Timed) (o : Option Timed) (q : Timed) → option_map f o ≡ Some q
    → IfSome o (λ p. WentOn service now p (f p)) → IsSomeAnd o (λ p. WentOn service now p q)
changed_from service now f None q is went = absurd (none-some q is)
changed_from service now f (Some p) q is went = subst (λ (o : Option Timed). IsSomeAnd o (λ t. WentOn service now p t)) is went

changed : (service : ServiceState) (now k : ℕ) (f : Timed → Timed) (old new : Table) → Changes k f old new
    → IfSome (timed_at k old) (λ p. WentOn service now p (f p)) → AllWentOn service now old new
changed service now k f old new changes went =
    one_on service now k old new changes.others
    (λ q there. changed_from service now f (timed_at k old) q (sym changes.here ∙ there) went)

if_some : {P Q : Timed → Type 0} (o : Option Timed) → ((p : Timed) → P p → Q p) → IfSome o P → IfSome o Q
if_some None f h = h
if_some (Some p) f h = f p h

all_there : {Q : Timed → Type 0} (o : Option Timed) → ((p : Timed) → Q p) → IfSome o Q
all_there None f = tt
all_there (Some p) f = f p

-- nothing happens to any
pub none_on : (service : ServiceState) (now k : ℕ) (old new : Table) → Changes k (λ p. p) old new → AllWentOn service now old new
none_on service now k old new changes =
    changed service now k (λ p. p) old new changes (all_there (timed_at k old) (still service now))

-- bytes come on one, or its end
pub read_on : (service : ServiceState) (now k n : ℕ) (bytes : List ℕ) (old new : Table)
    → Changes k (λ p. record p { connection = after_read (take n bytes) p.connection }) old new → n ≤ length bytes
    → IfSome (timed_at k old) (λ p. n ≤ room_of p.connection) → AllWentOn service now old new
read_on service now k n bytes old new changes within room =
    let few = length-take-le n bytes within in
    changed service now k (λ p. record p { connection = after_read (take n bytes) p.connection }) old new changes
    (if_some (timed_at k old) (λ p fits. read service now p (take n bytes) (subst (λ (i : ℕ). i ≤ room_of p.connection) (sym few) fits)) room)

-- or the reading failed
pub read_or_not : {E : Type 0} (service : ServiceState) (now k : ℕ) (result : Result ℕ E) (bytes : List ℕ) (old new : Table)
    → IfOk result (λ n. n ≤ length bytes) → IfOk result (λ n. IfSome (timed_at k old) (λ p. n ≤ room_of p.connection))
    → IfOk result (λ n. Changes k (λ p. record p { connection = after_read (take n bytes) p.connection }) old new)
    → OnErr result (Changes k (λ p. p) old new) → AllWentOn service now old new
read_or_not service now k (Ok n) bytes old new within room came err = read_on service now k n bytes old new came within room
read_or_not service now k (Err e) bytes old new within room came err = none_on service now k old new err

-- bytes of one are written
pub written_on : (service : ServiceState) (now k n : ℕ) (old new : Table) → Changes k (timed_after_write n now) old new
    → IfSome (timed_at k old) (λ p. n ≤ length p.connection.waiting) → AllWentOn service now old new
written_on service now k n old new changes few =
    changed service now k (timed_after_write n now) old new changes
    (if_some (timed_at k old) (λ p fits. wrote service now p n fits) few)

-- it was tried to write, and none were taken
pub tried_on : (service : ServiceState) (now k : ℕ) (old new : Table) → Changes k (timed_after_write 0 now) old new
    → AllWentOn service now old new
tried_on service now k old new changes =
    written_on service now k 0 old new changes (all_there (timed_at k old) (λ p. omega arith))

mapped : (Q : Timed → Type 0) (f : Timed → Timed) (o r : Option Timed) → r ≡ option_map f o → ((p : Timed) → Q (f p)) → IfSome r Q
mapped Q f None r is all = subst (λ (x : Option Timed). IfSome x Q) (sym is) tt
mapped Q f (Some p) r is all = subst (λ (x : Option Timed). IfSome x Q) (sym is) (all p)

-- its socket was tried
pub tried_by : (now k n : ℕ) (old new : Table) → Changes k (timed_after_write n now) old new → IsTriedAt now k new
tried_by now k n old new changes =
    mapped (λ p. p.tried ≡ now) (timed_after_write n now) (timed_at k old) (timed_at k new) changes.here (λ p. refl)

mapped_open : (now : ℕ) (o r : Option Timed) → r ≡ option_map (timed_after_write 0 now) o
    → IsSomeAnd o (λ p. EndsBy p.connection None) → IsSomeAnd r (λ p. EndsBy p.connection None)
mapped_open now None r is h = absurd h
mapped_open now (Some p) r is h = subst (λ (x : Option Timed). IsSomeAnd x (λ t. EndsBy t.connection None)) (sym is) h

-- one that hasn't ended still hasn't, where none of its bytes were taken
pub open_still : (now k : ℕ) (old new : Table) → Changes k (timed_after_write 0 now) old new → IsOpenAt k old → IsOpenAt k new
open_still now k old new changes is = mapped_open now (timed_at k old) (timed_at k new) changes.here is

-- no connection is tried where there is none
pub none_tried : (now k : ℕ) (table : Table) → timed_at k table ≡ None → IsTriedAt now k table
none_tried now k table none = subst (λ (x : Option Timed). IfSome x (λ p. p.tried ≡ now)) (sym none) tt

becomes_on : (service : ServiceState) (now k : ℕ) (old new : Table) (p q : Timed) → timed_at k old ≡ Some p → Becomes k (Some q) old new
    → WentOn service now p q → AllWentOn service now old new
becomes_on service now k old new p q is becomes went =
    one_on service now k old new becomes.others
    (λ r there. subst (λ (o : Option Timed). IsSomeAnd o (λ before. WentOn service now before r)) (sym is)
    (subst (λ (o : Option Timed). IsSomeAnd o (λ t. WentOn service now p t)) (sym becomes.here ∙ there) went))

-- the next message of one is answered, or none is
answered_at : (service : ServiceState) (now k : ℕ) (old new : Table) (status : Option ℕ) (o : Option Timed) → timed_at k old ≡ o
    → GoesOnAt service k now o old new status → AllWentOn service now old new
answered_at service now k old new status None is h = all_still service now old new (λ j p there. ap (timed_at j) (sym h.1) ∙ there)
answered_at service now k old new (Some status) (Some p) is h =
    let e : Exchange = record { service = service; message = h.1.0; sent = h.1.1 } in
    becomes_on service now k old new p (record { connection = h.0; progress = now; tried = p.tried }) is h.2
    (record { events = Answered e ∷ []; can = (h.1.2, tt); from = (refl, tt); connection = h.1.3; progress = refl; tried = refl })
answered_at service now k old new None (Some p) is h =
    becomes_on service now k old new p (record { connection = h.0; progress = p.progress; tried = p.tried }) is h.2
    (record { events = []; can = tt; from = tt; connection = h.1.0; progress = refl; tried = refl })

pub answered_on : (service : ServiceState) (now k : ℕ) (old new : Table) (status : Option ℕ)
    → GoesOnAt service k now (timed_at k old) old new status → AllWentOn service now old new
answered_on service now k old new status h = answered_at service now k old new status (timed_at k old) refl h

-- what a step of a turn makes of the connections
pub ruleset steps = (none_on, written_on, tried_on, open_still, answered_on, all_on)

pub ruleset tries = (written_on, tried_on, tried_by)

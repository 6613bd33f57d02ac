use Rattle.std.proofs.Common.{◌≡◌, ◌∙◌, ◌+◌, ◌<◌, ◌≤◌, ℕ, true, false, ap, arith, le_trans, length, refl, subst, sym}
use Rattle.cog_server.specs.Additions.{ServiceState}
use Rattle.cog_server.specs.Service.{service_of}
use Rattle.server_connections.specs.Table.{timed_at}
use Rattle.server_sockets.specs.declared.serving.Limits.{Limits}
use Rattle.server_sockets.specs.declared.serving.Serving.{Serving}
use Rattle.server_sockets.specs.Closings.{ChangesOnly, ClosesOnly, IsOverdueAt, TriesAfterTurns, TriesAlone}
use Rattle.server_sockets.specs.Going.{AllWentOn}
use Rattle.server_sockets.specs.Slots.{KeepsBacklog, KeepsFreeing, NobodyComes, NoneChanges, accepted_of, ended_of, frees_of, limits_of, publications_of, ready_of, slots_of, slot_count}
use Rattle.server_sockets.proofs.ClosingLemmas.{Turned, changes_none, closing, queue_has_next, tries_none, turned_more}
use Rattle.server_sockets.proofs.GoingLemmas.{all_on, all_still}
use Rattle.server_sockets.proofs.SlotLemmas.{same_on, tries_still, went_still}
use Rattle.server_sockets.proofs.serving.Serving.turns.Given as given
use Rattle.server_sockets.proofs.serving.Serving.turns.Goals as goal
use Rattle.server_sockets.proofs.serving.Serving.turns.Goals.{After-end_drains, then-is_due, else-is_due, in-Some, in_default}

-- what became of the connections where a socket was tried, or none was
abbrev Tries : ServiceState → ℕ → Serving → Serving → Type 0
Tries service now turned tried =
    TriesAlone now turned tried × AllWentOn service now (slots_of turned) (slots_of tried) × (limits_of tried ≡ limits_of turned)

not_tried : (service : ServiceState) (now : ℕ) (turned : Serving) → Tries service now turned turned
not_tried service now turned = (tries_none now turned, all_still service now (slots_of turned) (slots_of turned) (λ k p there. there), refl)

-- where one is taken from the queue, and then has its turn, the same holds as behind a turn
popped_nobody : (a b popped c : Serving) → NobodyComes popped c → (slots_of popped ≡ slots_of b) × (accepted_of popped ≡ accepted_of b)
    × (slot_count popped ≡ slot_count b) × (limits_of popped ≡ limits_of b) × (ended_of popped ≡ ended_of b) → NobodyComes a b → NobodyComes a c
popped_nobody a b popped c then (slots, accepted, room, limits, ended) first = record {
  slots = λ k none. then.slots k (ap (timed_at k) slots ∙ first.slots k none);
  accepted = then.accepted ∙ accepted ∙ first.accepted;
  room = then.room ∙ room ∙ first.room;
  limits = then.limits ∙ limits ∙ first.limits;
  ended = le_trans first.ended (subst (λ n. n ≤ ended_of c) ended then.ended);
}

popped_backlog : (a b popped c : Serving) → KeepsBacklog popped c → (popped.accept_pending ≡ b.accept_pending)
    × (popped.out_of_descriptors ≡ b.out_of_descriptors) × (popped.is_barred ≡ b.is_barred) → KeepsBacklog a b → KeepsBacklog a c
popped_backlog a b popped c then (waits, starved, barred) first = record {
  waits = then.waits ∙ waits ∙ first.waits;
  starved = then.starved ∙ starved ∙ first.starved;
  barred = then.barred ∙ barred ∙ first.barred;
}

popped_freeing : (a b popped c : Serving) → KeepsFreeing popped c → (frees_of popped ≡ frees_of b) × (publications_of popped ≡ publications_of b)
    → KeepsFreeing a b → KeepsFreeing a c
popped_freeing a b popped c then (frees, publications) first = record {
  frees = then.frees ∙ frees ∙ first.frees;
  publications = then.publications ∙ publications ∙ first.publications;
}

pub loop-preserved : goal.loop-preserved
loop-preserved g c =
    let service = service_of c.args.service.now in
    let first = c.args.self.now in
    let before = c.loop.self in
    let is = c.loop.invariant in
    let so_far : Turned service c.args.now c.loop.counter first before = record {
      nobody = is.nobody;
      backlog = is.backlog;
      freeing = is.freeing;
      went = is.went;
      queue = is.queue;
      queued = is.queued;
      drains = is.drains;
    } in
    let within : c.loop.counter < length (ready_of first) = omega (arith, is.all, c.loop-test.true) in
    let turned : Turned service c.args.now (c.loop.counter + 1) first c.match-pop_front.self =
    elim c.match-pop_front.branch [
      | in-Some w ↦ subst (Turned service c.args.now (c.loop.counter + 1) first) (sym w.self-is)
          (turned_more service c.args.now c.loop.counter w.in-Some.number first before w.turn.new.self c.pop_front.new.self.items within so_far
          w.in-Some.ensures.items (popped_nobody first before _ w.turn.new.self w.turn.ensures.nobody (refl, refl, refl, refl, refl) is.nobody)
          (popped_backlog first before _ w.turn.new.self w.turn.ensures.backlog (refl, refl, refl) is.backlog)
          (popped_freeing first before _ w.turn.new.self w.turn.ensures.freeing (refl, refl) is.freeing) w.turn.ensures.went
          w.turn.ensures.others w.turn.ensures.queue w.turn.ensures.drains_only)
      | in_default w ↦ absurd (queue_has_next c.loop.counter (ready_of first) (ready_of before) within is.queue (sym before.ready.ok.0 ∙ w.in_default.ensures.cases.0))
    ] in
    record {
      nobody = turned.nobody;
      backlog = turned.backlog;
      freeing = turned.freeing;
      went = turned.went;
      all = is.all;
      queue = turned.queue;
      queued = turned.queued;
      drains = turned.drains;
    }

-- what became of the connections after turns, where a socket was tried, or none was
tried_then : (g : given.Over) (c : goal.After-end_drains g) → Tries (service_of c.args.service.now) c.args.now c.loop.self c.if-is_due.self
tried_then g c =
    let tries = Tries (service_of c.args.service.now) c.args.now c.loop.self in
    elim c.if-is_due.branch [
      | then-is_due w ↦ subst tries (sym w.self-is)
          (w.try_socket.ensures.alone, w.try_socket.ensures.went (service_of c.args.service.now), w.try_socket.ensures.nobody.limits)
      | else-is_due w ↦ subst tries (sym w.self-is) (not_tried (service_of c.args.service.now) c.args.now c.loop.self)
    ]

-- how they went on from there until drains had ended
drained_then : (g : given.Over) (c : goal.After-end_drains g)
    → AllWentOn (service_of c.args.service.now) c.args.now (slots_of c.loop.self) (slots_of c.end_drains.new.self)
drained_then g c =
    went_still (service_of c.args.service.now) c.args.now c.loop.self c.if-is_due.self c.end_drains.new.self (tried_then g c).1 c.end_drains.ensures.same

-- how they went on from the start, where some are closed at last, and why
went_then : (g : given.Over) (c : goal.After-end_drains g) (last : Serving) → NoneChanges c.end_drains.new.self last
    → AllWentOn (service_of c.args.service.now) c.args.now (slots_of c.args.self.now) (slots_of last)
went_then g c last same =
    let service = service_of c.args.service.now in
    all_on service c.args.now (slots_of c.args.self.now) (slots_of c.loop.self) (slots_of last) c.loop.invariant.went
    (went_still service c.args.now c.loop.self c.end_drains.new.self last (drained_then g c) same)

closed_then : (g : given.Over) (c : goal.After-end_drains g) (last : Serving) → NoneChanges c.end_drains.new.self last
    → ChangesOnly (IsOverdueAt (service_of c.args.service.now).catalogue c.args.now (limits_of c.end_drains.new.self).patience
    (slots_of c.end_drains.new.self)) (slots_of c.end_drains.new.self) (slots_of last)
    → ClosesOnly (service_of c.args.service.now) c.args.now c.args.self.now last
closed_then g c last same freed =
    let service = service_of c.args.service.now in
    let is = c.loop.invariant in
    let tries = tried_then g c in
    closing service c.args.now c.args.self.now c.loop.self c.if-is_due.self c.end_drains.new.self last is.nobody.limits is.queued is.drains tries.0
    c.end_drains.ensures.closes (c.end_drains.ensures.nobody.limits ∙ tries.2 ∙ is.nobody.limits) freed is.went
    (went_still service c.args.now c.loop.self c.end_drains.new.self last (drained_then g c) same)

-- after the turns a socket was tried, where that was due
tries_then : (g : given.Over) (c : goal.After-end_drains g) → c.is_due-is_due.result ≡ true → (last : Serving) → NoneChanges c.end_drains.new.self last
    → TriesAfterTurns (service_of c.args.service.now) c.args.now c.args.self.now last
tries_then g c due last same =
    let is = c.loop.invariant in
    record {
      turned = slots_of c.loop.self;
      went = is.went;
      queued = is.queued;
      tries = elim c.if-is_due.branch [
        | then-is_due w ↦
            tries_still c.args.now (limits_of c.loop.self).patience (limits_of c.args.self.now).patience (slots_of c.loop.self) w.try_socket.new.self last
            (ap (λ (l : Limits). l.patience) is.nobody.limits) w.try_socket.ensures.tried
            (same_on w.try_socket.new.self c.end_drains.new.self last
            (subst (λ (x : Serving). NoneChanges x c.end_drains.new.self) w.self-is c.end_drains.ensures.same) same)
        | else-is_due w ↦ (let clash : true ≡ false = sym due ∙ w.if-is_due.false in cc)
      ];
    }

pub returns-then-may_keep_old-clause-tried : goal.returns-then-may_keep_old-clause-tried
returns-then-may_keep_old-clause-tried g c waits more =
    tries_then g (goal.at.returns-then-may_keep_old-clause-tried g c).After-end_drains (c.is_due-is_due.ensures.awaited waits more)
    c.free_old_files.new.self c.free_old_files.ensures.same

pub returns-else-may_keep_old-clause-tried : goal.returns-else-may_keep_old-clause-tried
returns-else-may_keep_old-clause-tried g c waits more =
    tries_then g (goal.at.returns-else-may_keep_old-clause-tried g c).After-end_drains (c.is_due-is_due.ensures.awaited waits more)
    c.end_drains.new.self (λ k p there. there)

pub returns-then-may_keep_old-clause-tried_old : goal.returns-then-may_keep_old-clause-tried_old
returns-then-may_keep_old-clause-tried_old g c keeps =
    tries_then g (goal.at.returns-then-may_keep_old-clause-tried_old g c).After-end_drains (c.is_due-is_due.ensures.old c.if-may_keep_old.true)
    c.free_old_files.new.self c.free_old_files.ensures.same

pub returns-else-may_keep_old-clause-went : goal.returns-else-may_keep_old-clause-went
returns-else-may_keep_old-clause-went g c =
    went_then g (goal.at.returns-else-may_keep_old-clause-went g c).After-end_drains c.end_drains.new.self (λ k p there. there)

pub returns-then-may_keep_old-clause-went : goal.returns-then-may_keep_old-clause-went
returns-then-may_keep_old-clause-went g c =
    went_then g (goal.at.returns-then-may_keep_old-clause-went g c).After-end_drains c.free_old_files.new.self c.free_old_files.ensures.same

pub returns-else-may_keep_old-clause-closes : goal.returns-else-may_keep_old-clause-closes
returns-else-may_keep_old-clause-closes g c =
    let drained = c.end_drains.new.self in
    closed_then g (goal.at.returns-else-may_keep_old-clause-closes g c).After-end_drains drained (λ k p there. there)
    (changes_none (IsOverdueAt (service_of c.args.service.now).catalogue c.args.now (limits_of drained).patience (slots_of drained)) (slots_of drained))

pub returns-then-may_keep_old-clause-closes : goal.returns-then-may_keep_old-clause-closes
returns-then-may_keep_old-clause-closes g c =
    closed_then g (goal.at.returns-then-may_keep_old-clause-closes g c).After-end_drains c.free_old_files.new.self c.free_old_files.ensures.same
    c.free_old_files.ensures.closes

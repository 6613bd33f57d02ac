use Rattle.std.proofs.Common.{None, ◌++◌, length, drop, refl, sym, ap, ◌∙◌, subst, arith, length-append, length-take}
use Rattle.cog_server.specs.Serve.{read_failed, write_failed}
use Rattle.cog_server.specs.Status.{EndsBy, Status}
use Rattle.cog_server.proofs.EndLemmas.{ends, ends_memory, ends_unread, ends_unsent, ends_with, told_by, unsent_flag}
use Rattle.cog_server.proofs.ServeLemmas.{answered, begins, less_to_answer, less_to_read, nothing_waits, reads, rested, sent_whole, some_room, stands, stays, still_silent, went}
use Rattle.cog_server.proofs.server.Server.serve.Goals as goal

pub returns-in_err-buffers-clause-served : goal.returns-in_err-buffers-clause-served
returns-in_err-buffers-clause-served g c =
    let none = begins c.args.self.now.catalogue (g.R.Inlet.given c.args.r.now) (g.W.Outlet.taken c.args.w.now) (g.R.Inlet.is_over c.args.r.now) in
    ends_with _ _ _ _ _ _ _ _ _ c.from_residual.ensures.1 refl
    (ends_memory (g.R.Inlet.is_over c.args.r.now) c.law_messages_stay.ensures.messages none refl refl)

pub answers-init : goal.answers-init
answers-init g c =
    let over = g.R.Inlet.is_over c.args.r.now in
    let none = begins c.args.self.now.catalogue (g.R.Inlet.given c.args.r.now) (g.W.Outlet.taken c.args.w.now) over in
    record {
      going = stays c.new-connection.result c.new-connection.ensures none;
      silent = ap (λ (x : Status). x.waiting) c.new-connection.ensures;
      room = c.in_ok-buffers.ensures;
      reads = c.requires.reads;
      writes = c.requires.writes;
    }

pub returns-in_err-go_on-clause-served : goal.returns-in_err-go_on-clause-served
returns-in_err-go_on-clause-served g c =
    ends_with _ _ _ _ _ _ _ _ _ c.from_residual-in_err-go_on.ensures.1 refl
    (ends_memory (g.R.Inlet.is_over c.answers.r) c.law_messages_stay.ensures.messages c.answers.invariant.going c.answers.invariant.silent refl)

pub returns-in_err-send_waiting-clause-served : goal.returns-in_err-send_waiting-clause-served
returns-in_err-send_waiting-clause-served g c =
    let s = c.answers.connection in
    let law = c.law_messages_stay.ensures.messages in
    let goes = answered c.args.self.now.catalogue s c.go_on.new.self c.in_ok-go_on.field-0 c.is_some.result c.is_some.ensures c.if-is_some.true c.in_ok-go_on.ensures.ok in
    ends_with _ _ _ _ _ _ _ _ _ c.from_residual-in_err-send_waiting.ensures.1 refl
    (ends_unsent _ c.in_err-send_waiting.field-0.0 law c.answers.invariant.going c.answers.invariant.silent
    (went law c.go_on.new.self goes.0 c.answers.invariant.going goes.1) c.in_err-send_waiting.ensures.sent)

pub returns-in_err-send_waiting-clause-read : goal.returns-in_err-send_waiting-clause-read
returns-in_err-send_waiting-clause-read g c =
    c.answers.invariant.reads ∙ sym (told_by read_failed c.from_residual-in_err-send_waiting.result c.in_err-send_waiting.field-0.0 c.from_residual-in_err-send_waiting.ensures.1
    ∙ (unsent_flag _ _ _ _ c.in_err-send_waiting.field-0.0 c.in_err-send_waiting.ensures.sent).1)

pub returns-in_err-send_waiting-clause-write : goal.returns-in_err-send_waiting-clause-write
returns-in_err-send_waiting-clause-write g c =
    (unsent_flag _ _ _ _ c.in_err-send_waiting.field-0.0 c.in_err-send_waiting.ensures.sent).0
    ∙ sym (told_by write_failed c.from_residual-in_err-send_waiting.result c.in_err-send_waiting.field-0.0 c.from_residual-in_err-send_waiting.ensures.1)

pub answers-smaller-then-is_some : goal.answers-smaller-then-is_some
answers-smaller-then-is_some g c =
    let goes = answered c.args.self.now.catalogue c.answers.connection c.go_on.new.self c.in_ok-go_on.field-0 c.is_some.result c.is_some.ensures c.if-is_some.true c.in_ok-go_on.ensures.ok in
    less_to_answer c.go_on.new.self c.send_waiting.new.connection goes.0 c.answers.invariant.going goes.1 c.in_ok-send_waiting.ensures.written

pub answers-preserved-then-is_some : goal.answers-preserved-then-is_some
answers-preserved-then-is_some g c =
    let law = c.law_messages_stay.ensures.messages in
    let t = c.send_waiting.new.connection in
    let goes = answered c.args.self.now.catalogue c.answers.connection c.go_on.new.self c.in_ok-go_on.field-0 c.is_some.result c.is_some.ensures c.if-is_some.true c.in_ok-go_on.ensures.ok in
    let sent = c.in_ok-send_waiting.ensures in
    record {
      going = sent_whole t (went law c.go_on.new.self goes.0 c.answers.invariant.going goes.1) sent.sent sent.written;
      silent = nothing_waits c.go_on.new.self t sent.written;
      room = c.answers.invariant.room;
      reads = c.answers.invariant.reads;
      writes = sent.sent.unfailed;
    }

pub returns-in-Some-clause-served : goal.returns-in-Some-clause-served
returns-in-Some-clause-served g c =
    let goes = rested c.args.self.now.catalogue c.answers.connection c.go_on.new.self c.in_ok-go_on.field-0 c.is_some.result c.is_some.ensures c.if-is_some.false c.in_ok-go_on.ensures.ok in
    ends c.law_messages_stay.ensures.messages c.in-Some.ended c.answers-answers.result (stays c.go_on.new.self goes.0 c.answers.invariant.going)
    c.in-Some.ensures c.answers-answers.ensures

pub receive-requires-clause-some : goal.receive-requires-clause-some
receive-requires-clause-some g c =
    let s = c.answers.connection in
    let s' = c.go_on.new.self in
    let law = c.law_messages_stay.ensures.messages in
    let goes = rested c.args.self.now.catalogue s s' c.in_ok-go_on.field-0 c.is_some.result c.is_some.ensures c.if-is_some.false c.in_ok-go_on.ensures.ok in
    let none : EndsBy s' None = rw c.in_default.is at c.ended.ensures in
    some_room law s' (stands c.args.self.now.catalogue s s' law goes c.answers.invariant.silent none)

pub receive-requires-clause-buffer : goal.receive-requires-clause-buffer
receive-requires-clause-buffer g c = omega (arith, c.answers.invariant.room, ap length c.deref_mut.ensures.value)

pub answers-smaller : goal.answers-smaller
answers-smaller g c =
    let s = c.answers.connection in
    let s' = c.go_on.new.self in
    let law = c.law_messages_stay.ensures.messages in
    let goes = rested c.args.self.now.catalogue s s' c.in_ok-go_on.field-0 c.is_some.result c.is_some.ensures c.if-is_some.false c.in_ok-go_on.ensures.ok in
    let none : EndsBy s' None = rw c.in_default.is at c.ended.ensures in
    less_to_read s s' c.receive.new.connection law goes.0 (stands c.args.self.now.catalogue s s' law goes c.answers.invariant.silent none)
    c.in_ok-receive.ensures

pub answers-preserved : goal.answers-preserved
answers-preserved g c =
    let s = c.answers.connection in
    let s' = c.go_on.new.self in
    let t = c.receive.new.connection in
    let law = c.law_messages_stay.ensures.messages in
    let goes = rested c.args.self.now.catalogue s s' c.in_ok-go_on.field-0 c.is_some.result c.is_some.ensures c.if-is_some.false c.in_ok-go_on.ensures.ok in
    let none : EndsBy s' None = rw c.in_default.is at c.ended.ensures in
    let is = stands c.args.self.now.catalogue s s' law goes c.answers.invariant.silent none in
    let silent = ap (λ (x : Status). x.waiting) goes.0 ∙ c.answers.invariant.silent in
    let buffer = c.receive.new.buffer in
    let old = c.answers.buffers.room in
    let rest = drop (length buffer) old.items in
    record {
      going = reads (g.R.Inlet.is_over c.receive.new.r) t (stays s' goes.0 c.answers.invariant.going) is c.in_ok-receive.ensures;
      silent = still_silent s' t silent is c.in_ok-receive.ensures;
      room = (let full = c.answers.invariant.room in
          omega (arith, length-take old.len (buffer ++ rest), length-append buffer rest, ap length c.deref_mut.ensures.value));
      reads = c.in_ok-receive.ensures.gives.unfailed;
      writes = c.answers.invariant.writes;
    }

pub returns-in_err-receive-clause-served : goal.returns-in_err-receive-clause-served
returns-in_err-receive-clause-served g c =
    let s = c.answers.connection in
    let s' = c.go_on.new.self in
    let law = c.law_messages_stay.ensures.messages in
    let goes = rested c.args.self.now.catalogue s s' c.in_ok-go_on.field-0 c.is_some.result c.is_some.ensures c.if-is_some.false c.in_ok-go_on.ensures.ok in
    let none : EndsBy s' None = rw c.in_default.is at c.ended.ensures in
    let silent = ap (λ (x : Status). x.waiting) goes.0 ∙ c.answers.invariant.silent in
    ends_with _ _ _ _ _ _ _ _ _ c.from_residual-in_err-receive.ensures.1 refl
    (ends_unread (g.R.Inlet.is_over c.receive.new.r) c.receive.new.connection _ c.in_err-receive.field-0.0 law (stays s' goes.0 c.answers.invariant.going) silent
    (stands c.args.self.now.catalogue s s' law goes c.answers.invariant.silent none) c.in_err-receive.ensures)

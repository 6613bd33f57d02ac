use Rattle.std.proofs.Common.{◌≡◌, ◌∙◌, ◌++◌, ◌-◌, ℕ, List, Result, Ok, ap, arith, length, subst, take}
use Rattle.http_range.specs.declared.frame.Frame.{Frame}
use Rattle.http_range.specs.declared.reading.Why.{Why}
use Rattle.http_range.specs.Frame.{ReadsFrame}
use Rattle.client_connection.specs.Answers.{IsUndecided}
use Rattle.client_connection.specs.Status.{Status, TakesHead}
use Rattle.client_connection.proofs.HeadLemmas.{IsEnd, head_end, take_taken, takes_head}
use Rattle.client_connection.proofs.connection.ClientConnection.try_head.Goals as goal

-- before the frame is taken, and after
begins : (c : goal.After-struct_known-1) → IsEnd c.args.self.now.head c.args.bytes.now c.in_ok-head.head.items (length c.as_slice-before.result.now) c.in-Ok.frame
begins c =
    let opens = ap (λ (t : Status). t.is_open) c.self.view_is ∙ c.requires.opens in
    let none = ap (λ (t : Status). t.left) c.self.view_is ∙ c.requires.none in
    let long : length c.as_slice-before.result.now ≡ length c.args.self.now.head =
    ap length (c.as_slice-before.ensures.value ∙ ap (λ (t : Status). t.head) c.self.view_is) in
    let reads : ReadsFrame c.in_ok-head.head.items (Ok c.in-Ok.frame) =
    subst (λ (t : List ℕ). ReadsFrame t (Ok c.in-Ok.frame)) c.deref.ensures.value
    (subst (λ (r : Result Frame Why). ReadsFrame c.deref.result.now r) c.in-Ok.is c.read_frame.ensures) in
    head_end c.law_frames_grow.ensures c.args.self.now.head c.args.bytes.now c.in_ok-head.head.items c.min.result (length c.as_slice-before.result.now)
    c.in-Ok.frame long
    (subst IsUndecided (ap (λ (t : Status). t.head) c.self.view_is) (c.self.invariant.undecided opens none)) c.in_ok-head.ensures reads

ends : (c : goal.After-take_frame) → IsEnd c.args.self.now.head c.args.bytes.now c.in_ok-head.head.items (length c.as_slice-before.result.now) c.in-Ok.frame
ends c =
    let opens = ap (λ (t : Status). t.is_open) c.self.view_is ∙ c.requires.opens in
    let none = ap (λ (t : Status). t.left) c.self.view_is ∙ c.requires.none in
    let long : length c.as_slice-before.result.now ≡ length c.args.self.now.head =
    ap length (c.as_slice-before.ensures.value ∙ ap (λ (t : Status). t.head) c.self.view_is) in
    let reads : ReadsFrame c.in_ok-head.head.items (Ok c.in-Ok.frame) =
    subst (λ (t : List ℕ). ReadsFrame t (Ok c.in-Ok.frame)) c.deref.ensures.value
    (subst (λ (r : Result Frame Why). ReadsFrame c.deref.result.now r) c.in-Ok.is c.read_frame.ensures) in
    head_end c.law_frames_grow.ensures c.args.self.now.head c.args.bytes.now c.in_ok-head.head.items c.min.result (length c.as_slice-before.result.now)
    c.in-Ok.frame long
    (subst IsUndecided (ap (λ (t : Status). t.head) c.self.view_is) (c.self.invariant.undecided opens none)) c.in_ok-head.ensures reads

pub overflow_sub-result : goal.overflow_sub-result
overflow_sub-result c = let above = (begins c).above in omega (arith, above)

pub returns-in-Ok-clause-some : goal.returns-in-Ok-clause-some
returns-in-Ok-clause-some c = let above = (ends c).above in omega (arith, above)

pub returns-in-Ok-clause-few : goal.returns-in-Ok-clause-few
returns-in-Ok-clause-few c = (ends c).few

pub returns-in-Ok-clause-takes : goal.returns-in-Ok-clause-takes
returns-in-Ok-clause-takes c =
    let taken = take (c.in-Ok.frame.size - (length c.as_slice-before.result.now)) c.args.bytes.now in (
      c.take_frame.ensures.0,
      takes_head c.take_frame.result taken c.args.self.now c.take_frame.new.self c.take_frame.ensures.0 c.requires.none
          (subst (λ (t : List ℕ). TakesHead c.take_frame.result t c.args.self.now c.take_frame.new.self) (ends c).own c.take_frame.ensures.1),
    )

pub returns-in-Err-clause-takes : goal.returns-in-Err-clause-takes
returns-in-Err-clause-takes c =
    let more = take c.min.result c.args.bytes.now in
    let taken = take (length more) c.args.bytes.now in (
      c.take_front.ensures.0,
      takes_head c.take_front.result taken c.args.self.now c.take_front.new.self c.take_front.ensures.0 c.requires.none
          (subst (λ (t : List ℕ). TakesHead c.take_front.result t c.args.self.now c.take_front.new.self)
          (c.in_ok-head.ensures ∙ ap (λ (t : List ℕ). c.args.self.now.head ++ t) (take_taken c.min.result c.args.bytes.now))
          c.take_front.ensures.1),
    )

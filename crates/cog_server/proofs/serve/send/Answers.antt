use Rattle.std.proofs.Common.{◌-◌, ℕ, List, refl, ap, ◌∙◌, length, take, drop, arith, length-take, length-drop, take-append-drop}
use Rattle.std.specs.Io.KnownBytes.{append_known}
use Rattle.std.proofs.lemmas.List.{take_rest}
use Rattle.cog_server.proofs.SentLemmas.{failed_now, stopped, took_both, went_on}
use Rattle.cog_server.proofs.ServeLemmas.{known_none}
use Rattle.cog_server.proofs.serve.send.Goals as goal

pub loop-sent-preserved : goal.loop-sent-preserved
loop-sent-preserved g c =
    let bytes = c.args.bytes.now in
    let sent = c.loop-sent.sent in
    let n = c.in-Ok.n in
    record {
      within = omega (arith, c.in-Ok.ensures.bound);
      took = took_both (g.W.Outlet.taken c.args.w.now) (g.W.Outlet.taken c.loop-sent.w) (g.W.Outlet.taken c.write.new.self) bytes sent n
          c.loop-sent.invariant.took
          (c.in-Ok.ensures.bytes ∙ ap (λ (xs : List ℕ). append_known (g.W.Outlet.taken c.loop-sent.w) (take n xs)) (take_rest bytes sent));
      unfailed = went_on _ _ n (length (take (length bytes - sent) (drop sent bytes))) c.in-Ok.ensures.failed c.loop-sent.invariant.unfailed (omega arith);
    }

pub returns-then-n-eq0-clause-err : goal.returns-then-n-eq0-clause-err
returns-then-n-eq0-clause-err g c =
    let bytes = c.args.bytes.now in
    let sent = c.loop-sent.sent in
    let left = take (length bytes - sent) (drop sent bytes) in (
      refl,
      record {
        written = take sent bytes;
        front = (drop sent bytes, take-append-drop sent bytes);
        took = c.in-Ok.ensures.bytes ∙ ap (λ (k : ℕ). append_known (g.W.Outlet.taken c.loop-sent.w) (take k left)) c.if-n-eq0.true ∙ known_none _
            ∙ c.loop-sent.invariant.took;
        failed = stopped _ _ c.in-Ok.n (length left) c.in-Ok.ensures.failed c.if-n-eq0.true
            (omega (arith, length-take (length bytes - sent) (drop sent bytes), length-drop sent bytes));
      },
    )

pub returns-in-Err-clause-err : goal.returns-in-Err-clause-err
returns-in-Err-clause-err g c =
    let bytes = c.args.bytes.now in
    let sent = c.loop-sent.sent in (
      refl,
      record {
        written = take sent bytes;
        front = (drop sent bytes, take-append-drop sent bytes);
        took = c.in-Err.ensures.bytes ∙ known_none _ ∙ c.loop-sent.invariant.took;
        failed = failed_now _ _ c.in-Err.ensures.failed;
      },
    )

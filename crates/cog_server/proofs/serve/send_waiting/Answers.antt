use Rattle.std.proofs.Common.{◌≡◌, ◌++◌, List, ℕ, ap, ◌∙◌}
use Rattle.cog_server.proofs.SentLemmas.{then_broken, writes_broken}
use Rattle.cog_server.proofs.serve.send_waiting.Goals as goal

pub returns-in_err-send-2-clause-sent : goal.returns-in_err-send-2-clause-sent
returns-in_err-send-2-clause-sent g c =
    let text = c.deref.result.now in
    let rest = c.in_ok-rest.rest.now in
    let waiting = c.args.connection.now.waiting in
    let whole : text ++ rest ≡ waiting =
    ap (λ (t : List ℕ). t ++ rest) c.deref.ensures.value ∙ c.in_ok-rest.ensures.whole ∙ c.waiting.ensures in
    writes_broken (g.W.Outlet.taken c.args.w.now) (g.W.Outlet.taken c.send-2.new.w) (g.W.Outlet.has_failed c.send-2.new.w) waiting _ _
    c.from_residual-in_err-send-2.ensures.1 c.in_err-send-2.ensures.err.0
    (then_broken (g.W.Outlet.taken c.args.w.now) (g.W.Outlet.taken c.send.new.w) (g.W.Outlet.taken c.send-2.new.w) (g.W.Outlet.has_failed c.send.new.w)
    (g.W.Outlet.has_failed c.send-2.new.w) text rest waiting whole c.in_ok-send.ensures.ok c.in_err-send-2.ensures.err.1)

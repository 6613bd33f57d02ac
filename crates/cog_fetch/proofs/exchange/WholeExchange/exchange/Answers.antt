use Rattle.std.proofs.Common.{ℕ, List, sym, subst}
use Rattle.cog_client.specs.Transport.{IsTrueToAll}
use Rattle.cog_fetch.proofs.TakeLemmas.{keeps_whole}
use Rattle.cog_fetch.proofs.exchange.WholeExchange.exchange.Goals as goal

pub returns-in_err-deliver-in-Ok-clause-keeps : goal.returns-in_err-deliver-in-Ok-clause-keeps
returns-in_err-deliver-in-Ok-clause-keeps g c =
    let speaks = g.T.Transport.speaks_for c.args.source.now in
    let P : List ℕ → Type 0 = λ text. IsTrueToAll speaks text in
    let e = c.in_err-deliver-in-Ok.ensures.err in
    keeps_whole speaks (g.T.Transport.speaks_for c.exchange.new.self) c.args.client.now c.deliver.new.self c.deref.result.now
    c.in-Ok.ensures.speaks (subst P (sym c.deref.ensures.value) c.in-Ok.ensures.shows) e.same e.agrees

pub returns-in_ok-deliver-in-Ok-clause-keeps : goal.returns-in_ok-deliver-in-Ok-clause-keeps
returns-in_ok-deliver-in-Ok-clause-keeps g c =
    let speaks = g.T.Transport.speaks_for c.args.source.now in
    let P : List ℕ → Type 0 = λ text. IsTrueToAll speaks text in
    let e = c.in_ok-deliver-in-Ok.ensures.ok in
    keeps_whole speaks (g.T.Transport.speaks_for c.exchange.new.self) c.args.client.now c.deliver.new.self c.deref.result.now
    c.in-Ok.ensures.speaks (subst P (sym c.deref.ensures.value) c.in-Ok.ensures.shows) e.seen.same e.agrees

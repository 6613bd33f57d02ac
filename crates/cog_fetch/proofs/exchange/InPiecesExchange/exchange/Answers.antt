use Rattle.std.proofs.Common.{◌≡◌, Bool, Some, sym, subst, true}
use Rattle.cog_client.specs.Transport.{TakesOrLoses}
use Rattle.cog_fetch.specs.Takes.{StopsWithin, TakenOf}
use Rattle.cog_fetch.proofs.FetchLemmas.{takes_as}
use Rattle.cog_fetch.proofs.TakeLemmas.{keeps_later, refused, taken_on}
use Rattle.cog_fetch.proofs.exchange.InPiecesExchange.exchange.Goals as goal

pub returns-in_err-exchange_in_pieces-clause-keeps : goal.returns-in_err-exchange_in_pieces-clause-keeps
returns-in_err-exchange_in_pieces-clause-keeps g c =
    keeps_later (g.P.Pieces.speaks_for c.args.source.now) (g.P.Pieces.speaks_for c.exchange_begins.new.self)
    (g.P.Pieces.speaks_for c.exchange_in_pieces.new.source) c.args.client.now c.exchange_in_pieces.new.client c.exchange_begins.ensures.speaks
    c.exchange_in_pieces.ensures.keeps

pub returns-in_err-exchange_in_pieces-clause-stops : goal.returns-in_err-exchange_in_pieces-clause-stops
returns-in_err-exchange_in_pieces-clause-stops g c =
    let speaks = g.P.Pieces.speaks_for c.args.source.now in
    let answers = g.P.Pieces.answers c.args.source.now in
    let begun = c.exchange_begins.new.self in
    let t = c.in_err-exchange_in_pieces.ensures.stops in
    let on = taken_on speaks (g.P.Pieces.speaks_for begun) answers (g.P.Pieces.answers begun) c.exchange_begins.ensures.speaks c.exchange_begins.ensures.goes_on true in
    refused c.from_residual.result (StopsWithin (TakenOf speaks answers true) c.args.request.now c.args.client.now c.exchange_in_pieces.new.client)
    (t.0, on c.args.request.now (Some t.0) t.1, t.2)

pub returns-in_err-exchange_in_pieces-clause-goes_on : goal.returns-in_err-exchange_in_pieces-clause-goes_on
returns-in_err-exchange_in_pieces-clause-goes_on g c =
    let begun = c.exchange_begins.ensures in
    let made = c.exchange_in_pieces.ensures in
    taken_on (g.P.Pieces.speaks_for c.args.source.now) (g.P.Pieces.speaks_for c.exchange_in_pieces.new.source) (g.P.Pieces.answers c.args.source.now)
    (g.P.Pieces.answers c.exchange_in_pieces.new.source) (λ p spoken. made.speaks p (begun.speaks p spoken))
    (λ request came is. begun.goes_on request came (made.goes_on request came is))

pub returns-clause-takes : goal.returns-clause-takes
returns-clause-takes g c =
    let speaks = g.P.Pieces.speaks_for c.args.source.now in
    let answers = g.P.Pieces.answers c.args.source.now in
    let begun = c.exchange_begins.new.self in
    let lost = g.P.Pieces.has_lost c.exchange_in_pieces.new.source in
    let on = taken_on speaks (g.P.Pieces.speaks_for begun) answers (g.P.Pieces.answers begun) c.exchange_begins.ensures.speaks c.exchange_begins.ensures.goes_on lost in
    subst (λ (b : Bool). TakesOrLoses (TakenOf speaks answers b) c.args.request.now c.args.client.now c.exchange_in_pieces.new.client) (sym c.exchange_ends.ensures.kept)
    (takes_as (TakenOf speaks answers lost) (TakenOf (g.P.Pieces.speaks_for begun) (g.P.Pieces.answers begun) lost) on c.args.request.now c.args.client.now
    c.exchange_in_pieces.new.client c.in_ok-exchange_in_pieces.ensures.takes)

pub returns-clause-goes_on : goal.returns-clause-goes_on
returns-clause-goes_on g c =
    let begun = c.exchange_begins.ensures in
    let made = c.exchange_in_pieces.ensures in
    let ended = c.exchange_ends.ensures in
    taken_on (g.P.Pieces.speaks_for c.args.source.now) (g.P.Pieces.speaks_for c.exchange_ends.new.self) (g.P.Pieces.answers c.args.source.now)
    (g.P.Pieces.answers c.exchange_ends.new.self) (λ p spoken. ended.speaks p (made.speaks p (begun.speaks p spoken)))
    (λ request came is. begun.goes_on request came (made.goes_on request came (ended.goes_on request came is)))

use Rattle.std.proofs.Common.{true, inr, sym, subst}
use Rattle.cog_client.specs.Transport.{IsTrueToAll}
use Rattle.cog_fetch.specs.Takes.{StopsWithin, TakenOf}
use Rattle.cog_fetch.proofs.TakeLemmas.{keeps_taking, refused, stops_of, taken_of}
use Rattle.cog_fetch.proofs.exchange.exchange_in_pieces.Goals as goal

pub returns-in_err-take_answer-in-Ok-clause-keeps : goal.returns-in_err-take_answer-in-Ok-clause-keeps
returns-in_err-take_answer-in-Ok-clause-keeps g c =
    let speaks = g.P.Pieces.speaks_for c.args.source.now in
    let told = c.foresee.ensures in
    keeps_taking speaks (g.P.Pieces.speaks_for c.foresee.new.source) (g.P.Pieces.speaks_for c.take_answer.new.pieces) (g.P.Pieces.rest c.foresee.new.source)
    c.args.client.now c.take_answer.new.client (λ p spoken. told.speaks p (c.in-Ok.ensures.speaks p spoken)) c.take_answer.ensures.speaks
    (subst (IsTrueToAll speaks) (sym told.rest) c.in-Ok.ensures.shows) c.take_answer.ensures.takes

pub returns-in_ok-take_answer-in-Ok-clause-keeps : goal.returns-in_ok-take_answer-in-Ok-clause-keeps
returns-in_ok-take_answer-in-Ok-clause-keeps g c =
    let speaks = g.P.Pieces.speaks_for c.args.source.now in
    let told = c.foresee.ensures in
    keeps_taking speaks (g.P.Pieces.speaks_for c.foresee.new.source) (g.P.Pieces.speaks_for c.take_answer.new.pieces) (g.P.Pieces.rest c.foresee.new.source)
    c.args.client.now c.take_answer.new.client (λ p spoken. told.speaks p (c.in-Ok.ensures.speaks p spoken)) c.take_answer.ensures.speaks
    (subst (IsTrueToAll speaks) (sym told.rest) c.in-Ok.ensures.shows) c.take_answer.ensures.takes

pub returns-in_ok-take_answer-in-Ok-clause-takes : goal.returns-in_ok-take_answer-in-Ok-clause-takes
returns-in_ok-take_answer-in-Ok-clause-takes g c =
    let told = c.foresee.ensures in
    let t = c.in_ok-take_answer-in-Ok.ensures.ok in
    inr (
      t.0,
      t.2,
      taken_of (g.P.Pieces.speaks_for c.args.source.now) (g.P.Pieces.speaks_for c.foresee.new.source) (g.P.Pieces.answers c.args.source.now)
          (g.P.Pieces.has_lost c.take_answer.new.pieces) c.args.request.now (g.P.Pieces.rest c.start.new.self) (g.P.Pieces.rest c.foresee.new.source) t.0
          (λ p spoken. told.speaks p (c.in-Ok.ensures.speaks p spoken)) c.in-Ok.ensures.answered told.rest t.1,
      t.3,
    )

pub returns-in_err-take_answer-in-Ok-clause-stops : goal.returns-in_err-take_answer-in-Ok-clause-stops
returns-in_err-take_answer-in-Ok-clause-stops g c =
    let speaks = g.P.Pieces.speaks_for c.args.source.now in
    let answers = g.P.Pieces.answers c.args.source.now in
    let told = c.foresee.ensures in
    let t = c.in_err-take_answer-in-Ok.ensures.err in
    refused c.from_residual.result (StopsWithin (TakenOf speaks answers true) c.args.request.now c.args.client.now c.take_answer.new.client)
    (stops_of speaks (g.P.Pieces.speaks_for c.foresee.new.source) answers c.args.request.now (g.P.Pieces.rest c.start.new.self) (g.P.Pieces.rest c.foresee.new.source) t.0
    c.args.client.now c.take_answer.new.client (λ p spoken. told.speaks p (c.in-Ok.ensures.speaks p spoken)) c.in-Ok.ensures.answered told.rest t.1 t.2)

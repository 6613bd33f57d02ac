use Rattle.std.proofs.Common.{ℕ, List, []}
use Rattle.cog_client.specs.Keeps.{StopsDelivery}
use Rattle.cog_fetch.specs.Takes.{IsNextOf}
use Rattle.cog_fetch.proofs.TakeLemmas.{refused}
use Rattle.cog_fetch.proofs.taking.take_answer.Goals as goal

pub returns-in_err-take_pieces-clause-takes : goal.returns-in_err-take_pieces-clause-takes
returns-in_err-take_pieces-clause-takes g c =
    let s = c.in_err-take_pieces.ensures.err in
    let e = s.stops c.args.client.now [] c.begin.ensures in
    record { bytes = s.bytes; next = s.next; same = e.same; agrees = e.agrees }

pub returns-in_err-take_pieces-clause-err : goal.returns-in_err-take_pieces-clause-err
returns-in_err-take_pieces-clause-err g c =
    let s = c.in_err-take_pieces.ensures.err in
    refused c.from_residual.result ((bytes : List ℕ) × IsNextOf (g.P.Pieces.speaks_for c.args.pieces.now) (g.P.Pieces.rest c.args.pieces.now) bytes
    × StopsDelivery c.args.client.now bytes c.take_pieces.new.client)
    (s.bytes, s.next, s.stops c.args.client.now [] c.begin.ensures)

pub returns-in_err-end-clause-err : goal.returns-in_err-end-clause-err
returns-in_err-end-clause-err g c =
    let t = c.in_ok-take_pieces.ensures.ok.takes in
    refused c.from_residual-in_err-end.result ((bytes : List ℕ) × IsNextOf (g.P.Pieces.speaks_for c.args.pieces.now) (g.P.Pieces.rest c.args.pieces.now) bytes
    × StopsDelivery c.args.client.now bytes c.end.new.self)
    (t.bytes, t.next, c.in_err-end.ensures.err c.args.client.now t.bytes (t.fed c.args.client.now [] c.begin.ensures))

pub returns-in_err-end-clause-takes : goal.returns-in_err-end-clause-takes
returns-in_err-end-clause-takes g c =
    let t = c.in_ok-take_pieces.ensures.ok.takes in
    let e = c.in_err-end.ensures.err c.args.client.now t.bytes (t.fed c.args.client.now [] c.begin.ensures) in
    record { bytes = t.bytes; next = t.next; same = e.same; agrees = e.agrees }

pub returns-clause-takes : goal.returns-clause-takes
returns-clause-takes g c =
    let t = c.in_ok-take_pieces.ensures.ok.takes in
    let e = c.in_ok-end.ensures.ok c.args.client.now t.bytes (t.fed c.args.client.now [] c.begin.ensures) in
    record { bytes = t.bytes; next = t.next; same = e.seen.same; agrees = e.agrees }

pub returns-clause-ok : goal.returns-clause-ok
returns-clause-ok g c =
    let all = c.in_ok-take_pieces.ensures.ok in
    let t = all.takes in (
      t.bytes,
      record { front = t.next; all = all.all },
      c.in_ok-end.field-0,
      c.in_ok-end.ensures.ok c.args.client.now t.bytes (t.fed c.args.client.now [] c.begin.ensures),
    )

use Rattle.std.proofs.Common.{List, [], refl, sym, subst, arith, length-append, length-take}
use Rattle.std.proofs.lemmas.List.{append-nil}
use Rattle.cog_client.specs.FedClient.{Fed}
use Rattle.cog_fetch.specs.Takes.{Stops}
use Rattle.cog_fetch.proofs.TakeLemmas.{all_of_most, all_to_end, leaves_on, refused, stops_on, takes_on}
use Rattle.cog_fetch.proofs.taking.take_pieces.Goals as goal

pub loop-left-init : goal.loop-left-init
loop-left-init g c = record {
  takes = record {
    bytes = [];
    next = λ p spoken. (g.P.Pieces.rest c.args.pieces.now, refl);
    fed = λ s p fed. subst (λ (t : List _). Fed s t c.args.client.now) (sym (append-nil p)) fed;
  };
  leaves = λ p spoken. refl;
  size = refl;
  told = λ is. is;
  goes_on = λ request came is. is;
  speaks = λ p spoken. spoken;
  counted = refl;
}

pub returns-in_err-count-clause-err : goal.returns-in_err-count-clause-err
returns-in_err-count-clause-err g c =
    let before = g.P.Pieces.speaks_for c.args.pieces.now in
    let rest = g.P.Pieces.rest c.args.pieces.now in
    let i = c.loop-left.invariant in
    refused c.from_residual.result (Stops before rest c.args.client.now c.take_piece.new.client)
    (stops_on before (g.P.Pieces.speaks_for c.loop-left.pieces) rest (g.P.Pieces.rest c.loop-left.pieces) c.args.client.now c.loop-left.client c.take_piece.new.client
    i.speaks i.takes i.leaves c.in_err-count.ensures.err)

pub returns-then-count-eq0-clause-ok : goal.returns-then-count-eq0-clause-ok
returns-then-count-eq0-clause-ok g c =
    let before = g.P.Pieces.speaks_for c.args.pieces.now in
    let after = g.P.Pieces.speaks_for c.loop-left.pieces in
    let rest = g.P.Pieces.rest c.args.pieces.now in
    let left = g.P.Pieces.rest c.loop-left.pieces in
    let i = c.loop-left.invariant in
    let piece = c.in_ok-count.ensures.ok in
    record {
      takes = takes_on before after rest left c.args.client.now c.loop-left.client c.take_piece.new.client i.speaks i.takes i.leaves piece.takes;
      all = all_to_end before after rest left (g.P.Pieces.has_lost c.take_piece.new.pieces) c.in_ok-count.count (g.P.Pieces.rest c.take_piece.new.pieces)
          c.args.client.now c.loop-left.client c.take_piece.new.client i.speaks i.takes i.leaves piece (omega arith) (omega (arith, i.size));
    }

pub returns-clause-ok : goal.returns-clause-ok
returns-clause-ok g c =
    let i = c.loop-left.invariant in
    record {
      takes = i.takes;
      all = λ kept p spoken. all_of_most (g.P.Pieces.rest c.args.pieces.now) i.takes.bytes (g.P.Pieces.rest c.loop-left.pieces) (i.leaves p spoken) (omega (arith, i.size));
    }

pub loop-left-preserved : goal.loop-left-preserved
loop-left-preserved g c =
    let before = g.P.Pieces.speaks_for c.args.pieces.now in
    let after = g.P.Pieces.speaks_for c.loop-left.pieces in
    let rest = g.P.Pieces.rest c.args.pieces.now in
    let left = g.P.Pieces.rest c.loop-left.pieces in
    let i = c.loop-left.invariant in
    let on = c.in_ok-count.ensures in
    let piece = on.ok in
    record {
      takes = takes_on before after rest left c.args.client.now c.loop-left.client c.take_piece.new.client i.speaks i.takes i.leaves piece.takes;
      leaves = leaves_on before after rest left (g.P.Pieces.rest c.take_piece.new.pieces) i.takes.bytes piece.takes.bytes i.speaks i.leaves (piece.goes (omega arith));
      size = omega (arith, length-append i.takes.bytes piece.takes.bytes, length-take c.min-most.result c.loop-left.room, piece.size, i.size);
      told = λ is. on.told (i.told is);
      goes_on = λ request came is. i.goes_on request came (on.goes_on request came is);
      speaks = λ p spoken. on.speaks p (i.speaks p spoken);
      counted = omega arith;
    }

use Rattle.std.proofs.Common.{◌≡◌, ◌+◌, length}
use Rattle.std.specs.Prelude.{IsTrue}
use Rattle.cog_client.specs.Transport.{AnswersOn, OrLost, SpeaksOn}
use Rattle.cog_fetch.specs.declared.taking.TheConstants.{ANSWER_LIMIT}
use Rattle.cog_fetch.specs.Takes.{LeavesOf, Takes}
use Rattle.cog_fetch.proofs.taking.take_pieces.Given as goal

-- the pieces so far were taken, and the source goes on behind them
abbrev pub invariant-loop-left : goal.invariant-loop-left
invariant-loop-left g l = record {
  takes : Takes (g.P.Pieces.speaks_for l.fn.pieces) (g.P.Pieces.rest l.fn.pieces) l.fn.client l.client;
  leaves : LeavesOf (g.P.Pieces.speaks_for l.fn.pieces) (g.P.Pieces.rest l.fn.pieces) takes.bytes (g.P.Pieces.rest l.pieces);
  size : length takes.bytes + l.left ≡ ANSWER_LIMIT;
  told : IsTrue (g.P.Pieces.has_lost l.fn.pieces) → IsTrue (g.P.Pieces.has_lost l.pieces);
  goes_on : AnswersOn (OrLost (g.P.Pieces.answers l.fn.pieces)) (OrLost (g.P.Pieces.answers l.pieces));
  speaks : SpeaksOn (g.P.Pieces.speaks_for l.fn.pieces) (g.P.Pieces.speaks_for l.pieces);
  counted : g.P.Pieces.count l.pieces ≡ g.P.Pieces.count l.fn.pieces;
}

abbrev pub decreases-loop-left : goal.decreases-loop-left
decreases-loop-left g l = l.left

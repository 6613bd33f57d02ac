use Rattle.std.proofs.Common.{◌≡◌, ◌<◌, ◌++◌, ℕ, List}
use Rattle.cog_client.specs.FedClient.{Fed}
use Rattle.world.proofs.handing.deliver_pieces.Given as goal

-- the pieces so far were fed, and the others are still to come
abbrev pub invariant-loop-piece : goal.invariant-loop-piece
invariant-loop-piece l = record {
  came : List ℕ;
  fed : Fed l.fn.client came l.client;
  joins : came ++ l.piece-iterator.rest.now ≡ l.fn.text;
  some : 0 < l.piece-iterator.size;
}

use Rattle.std.proofs.Common.{◌≡◌, ◌≤◌, false, [], length}
use Rattle.http_fields.specs.declared.limits.TheConstants.{MESSAGE_LIMIT}
use Rattle.cog_server.proofs.ServeLemmas.{Going, left}
use Rattle.cog_server.proofs.server.Server.serve.Given as goal

abbrev pub invariant-answers : goal.invariant-answers
invariant-answers g l = record {
  going : Going l.self.catalogue (g.R.Inlet.given l.fn.r) (g.R.Inlet.given l.r) (g.W.Outlet.taken l.fn.w) (g.W.Outlet.taken l.w) (g.R.Inlet.is_over l.r)
      l.connection;
  silent : l.connection.waiting ≡ [];
  room : MESSAGE_LIMIT ≤ length l.buffers.room.items;
  reads : g.R.Inlet.has_failed l.r ≡ false;
  writes : g.W.Outlet.has_failed l.w ≡ false;
}

abbrev pub decreases-answers : goal.decreases-answers
decreases-answers g l = left l.connection

use Rattle.std.proofs.Common.{◌≡◌, ◌-◌, ◌≤◌, false, length, take}
use Rattle.std.specs.Io.KnownBytes.{append_known}
use Rattle.cog_server.proofs.serve.send.Given as goal

abbrev pub invariant-loop-sent : goal.invariant-loop-sent
invariant-loop-sent g l = record {
  within : l.sent ≤ length l.bytes;
  took : g.W.Outlet.taken l.w ≡ append_known (g.W.Outlet.taken l.fn.w) (take l.sent l.bytes);
  unfailed : g.W.Outlet.has_failed l.w ≡ false;
}

abbrev pub decreases-loop-sent : goal.decreases-loop-sent
decreases-loop-sent g l = length l.bytes - l.sent

use Rattle.std.proofs.Common.{◌≡◌}
use Rattle.cog_server.specs.Service.{added_of}
use Rattle.server_files.specs.Publishing.{ArePublishedAgain, KeepsOthersThan, names, settings}
use Rattle.server_files.specs.Rounds.{KeepsLimits, WentRound}
use Rattle.server_files.proofs.rounds.serve_rounds.Given as goal

abbrev pub invariant-loop : goal.invariant-loop
invariant-loop g l = record {
  same : names l.files ≡ names l.fn.files;
  settings : settings l.files ≡ settings l.fn.files;
  limits : KeepsLimits l.fn.serving l.serving;
  went : WentRound g.R.File.Read.remaining l.fn.files (added_of l.additions) l.fn.server l.fn.serving l.server l.serving l.files;
  anew : ArePublishedAgain g.R.File.Read.remaining (names l.fn.files) l.fn.server l.server;
  others : KeepsOthersThan (names l.fn.files) l.fn.server l.server;
}

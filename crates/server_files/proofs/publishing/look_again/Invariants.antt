use Rattle.std.proofs.Common.{◌≡◌, drop, length}
use Rattle.cog_server.specs.Server.{ServerState}
use Rattle.server_files.specs.Publishing.{ArePublishedAnew, KeepsOthersThan, names, settings}
use Rattle.server_files.proofs.LookingLemmas.{Completes}
use Rattle.server_files.proofs.publishing.look_again.Given as goal

-- what is published of the names from k on completes what was published so far
abbrev pub invariant-loop-k : goal.invariant-loop-k
invariant-loop-k g l = record {
  end : l.k-end ≡ length l.files;
  same : names l.files ≡ names l.fn.files;
  settings : settings l.files ≡ settings l.fn.files;
  others : KeepsOthersThan (names l.fn.files) l.fn.server l.server;
  anew : (t : ServerState) → ArePublishedAnew g.R.File.Read.remaining (drop l.k (names l.fn.files)) l.server t → ArePublishedAnew g.R.File.Read.remaining (names l.fn.files) l.fn.server t;
  rest : drop l.k l.files ≡ drop l.k l.fn.files;
  looked : Completes l.k l.fn.files l.files;
}

use Rattle.std.proofs.Common.{◌≡◌, ◌<◌, ℕ, List, drop, length, slice_index_or, take}
use Rattle.std.specs.List.{AllZip}
use Rattle.disk_files.specs.Watching.{IsLookedAt}
use Rattle.server_files.specs.Publishing.{ArePublished, IsServed, KeepsOthersThan, names, settings}
use Rattle.server_files.proofs.publishing.publish_all.Given as goal

abbrev pub invariant-loop-k : goal.invariant-loop-k
invariant-loop-k g l = record {
  end : l.k-end ≡ length l.files;
  same : names l.files ≡ names l.fn.files;
  settings : settings l.files ≡ settings l.fn.files;
  served : (i : ℕ) (e : List ℕ) → i < l.k → IsServed l.server (slice_index_or (names l.fn.files) i e);
  each : ArePublished g.R.File.Read.remaining (take l.k (names l.fn.files)) l.fn.server l.server;
  others : KeepsOthersThan (names l.fn.files) l.fn.server l.server;
  rest : drop l.k l.files ≡ drop l.k l.fn.files;
  looked : AllZip IsLookedAt (take l.k l.fn.files) (take l.k l.files);
}

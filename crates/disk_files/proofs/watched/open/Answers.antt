use Rattle.disk_files.specs.Watching.{IsOfDisk}
use Rattle.disk_files.proofs.WatchLemmas.{handed_on}
use Rattle.disk_files.proofs.watched.open.Goals as goal

pub returns-in_err-seen : goal.returns-in_err-seen
returns-in_err-seen g c = record {
  refused = λ s name. handed_on c.from_residual-in_err-seen.result _ _ (c.in_err-seen.ensures.refused s name) c.from_residual-in_err-seen.ensures.1;
  disk = handed_on c.from_residual-in_err-seen.result IsOfDisk _ c.in_err-seen.ensures.disk c.from_residual-in_err-seen.ensures.1;
}

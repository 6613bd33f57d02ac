use Rattle.std.proofs.Common.{◌≡◌, ℕ, ◌≤◌, List}
use Rattle.text_description.proofs.NoDataLemmas.{masks_below}
use Rattle.text_description.proofs.no_data.count_masks.Given as goal

-- the masks among the directories so far
abbrev pub invariant-loop-directory : goal.invariant-loop-directory
invariant-loop-directory g l = record {
  few : l.count ≤ l.directory;
  counted : (f : List ℕ) → g.B.KnownBytes.is_of l.bytes f → l.count ≡ masks_below f l.directory;
}

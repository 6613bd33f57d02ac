use Rattle.tiff_dir.proofs.Ends.{draft_bounds, read_in}
use Rattle.tiff_dir.proofs.level_steps.read_level.Goals as goal

pub returns-clause-read : goal.returns-clause-read
returns-clause-read c = read_in _ _ c.draft.result c.in_ok-check_profile.ensures c.in_ok-compression.ensures c.in_ok-check_counts.ensures c.draft.ensures.draft

pub returns-clause-bounded : goal.returns-clause-bounded
returns-clause-bounded c = draft_bounds _ c.draft.result c.in_ok-check_profile.ensures c.in_ok-compression.ensures c.draft.ensures.draft c.draft.ensures.bounded

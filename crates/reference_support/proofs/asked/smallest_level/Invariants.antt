use Rattle.std.proofs.Common.{◌≡◌, None}
use Rattle.std.specs.Prelude.{unwrap_or}
use Rattle.std.specs.List.{filter, last_or, range_with_len}
use Rattle.tiff_dir.specs.Query.{has_columns}
use Rattle.reference_support.proofs.asked.smallest_level.Given as goal

-- the greatest of the levels so far
abbrev pub invariant-loop-n : goal.invariant-loop-n
invariant-loop-n l = l.level ≡ unwrap_or (last_or None (filter (has_columns l.file l.columns l.w) (range_with_len 0 l.n))) 0

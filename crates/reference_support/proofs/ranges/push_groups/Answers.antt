use Rattle.std.proofs.Common.{arith}
use Rattle.tiff_dir.specs.Query.{tile_range}
use Rattle.reference_support.proofs.RangeLemmas.{all_grouped}
use Rattle.reference_support.proofs.ranges.push_groups.Goals as goal

pub returns : goal.returns
returns c = all_grouped c.push_some.result (tile_range c.args.file.now c.args.n) c.args.tiles.now c.loop-t.t-index _ _ _ _ (omega arith) c.loop-t.invariant c.push_some.ensures

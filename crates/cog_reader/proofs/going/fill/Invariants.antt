use Rattle.std.proofs.Common.{◌≤◌, length}
use Rattle.std.specs.Prelude.{max}
use Rattle.extents.specs.declared.limits.TheConstants.{MAX_RANGE_BYTES}
use Rattle.cog_reader.specs.Reader.{steps_of}
use Rattle.cog_reader.specs.Going.{work, ReaderGoesOn}
use Rattle.cog_reader.proofs.going.fill.Given as goal

abbrev pub invariant-loop-span : goal.invariant-loop-span
invariant-loop-span l = record {
  goes : ReaderGoesOn (work l.fn.reader l.fn.cache) (work l.reader l.cache);
  room : length l.buffer.items ≤ max (length l.fn.buffer.items) MAX_RANGE_BYTES;
}

abbrev pub decreases-loop-span : goal.decreases-loop-span
decreases-loop-span l = steps_of l.reader

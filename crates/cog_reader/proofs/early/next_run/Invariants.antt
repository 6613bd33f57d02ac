use Rattle.cog_reader.specs.Going.{work}
use Rattle.cog_reader.specs.Early.{ArePassed}
use Rattle.cog_reader.proofs.early.next_run.Given as goal

abbrev pub invariant-loop-index : goal.invariant-loop-index
invariant-loop-index l = record {
  passed : ArePassed (work l.reader l.cache) l.last.index l.index l.last.least l.last.to;
}

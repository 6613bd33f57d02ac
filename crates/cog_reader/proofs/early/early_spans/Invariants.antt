use Rattle.std.proofs.Common.{◌≡◌, ◌*◌, ◌<◌, ◌^◌, length}
use Rattle.std.specs.List.{All}
use Rattle.extents.specs.declared.limits.TheConstants.{BLOCK_SIZE}
use Rattle.cog_reader.specs.Going.{work}
use Rattle.cog_reader.specs.Early.{AreApart, IsEarly, LeavesNothing}
use Rattle.cog_reader.proofs.EarlyLemmas.{AreBefore, ArePassedBy, AreSeenTo, Begins}
use Rattle.cog_reader.proofs.early.early_spans.Given as goal

abbrev pub invariant-loop : goal.invariant-loop
invariant-loop l = record {
  early : All (IsEarly (work l.reader l.cache) l.fn.ahead l.fn.asked) l.spans.items;
  apart : AreApart l.spans.items;
  before : AreBefore (l.last.to * BLOCK_SIZE) l.spans.items;
  few : length l.spans.items ≡ l.counter;
  behind : l.fn.asked.last < l.last.to * BLOCK_SIZE;
  order : All (LeavesNothing (work l.reader l.cache) l.fn.asked l.spans.items) l.spans.items;
  passed : ArePassedBy (work l.reader l.cache) l.fn.asked l.spans.items l.last.index;
  seen : AreSeenTo (work l.reader l.cache) l.fn.asked l.spans.items l.last.least l.last.to;
  begins : Begins (work l.reader l.cache) l.last.index l.last.least;
  small : l.last.to < 2 ^ 60;
}

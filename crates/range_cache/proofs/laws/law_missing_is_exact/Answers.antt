use Rattle.range_cache.proofs.Fronts.{missing-same}
use Rattle.range_cache.proofs.LawLemmas.{found_there, one_gap, missing-few, missing-run, missing-some}
use Rattle.range_cache.proofs.Stored.{missing-fewer, missing-less}
use Rattle.range_cache.proofs.laws.law_missing_is_exact.Goals as goal

pub returns : goal.returns
returns c = record {
  unique = one_gap;
  same = missing-same;
  few = missing-few;
  some = missing-some;
  run = missing-run;
  less = missing-less;
  fewer = missing-fewer;
  there = found_there;
}

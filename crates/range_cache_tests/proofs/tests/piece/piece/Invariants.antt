use Rattle.std.proofs.Common.{◌≡◌, vec_len}
use Rattle.range_cache_tests.proofs.tests.piece.piece.Given as goal

abbrev pub invariant-loop-i : goal.invariant-loop-i
invariant-loop-i l = vec_len l.bytes ≡ l.i

use Rattle.http_range.specs.Stream.{HasNoMessage}
use Rattle.http_range.proofs.stream.message_length.Given as goal

abbrev pub invariant-loop-n : goal.invariant-loop-n
invariant-loop-n l = HasNoMessage l.bytes l.n

use Rattle.http_range.specs.Announced.{announced}
use Rattle.http_range.proofs.reading.read_head.Goals as goal

pub returns-in-Ok-clause-there : goal.returns-in-Ok-clause-there
returns-in-Ok-clause-there c =
    c.law_heads_grow.ensures.fits c.args.bytes.now (announced c.in-Ok.head) c.in-Ok.ensures.reads

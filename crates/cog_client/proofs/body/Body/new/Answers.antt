use Rattle.std.proofs.Common.{refl}
use Rattle.http_range.specs.Announced.{announced}
use Rattle.cog_client.proofs.FeedLemmas.{body_begins}
use Rattle.cog_client.proofs.body.Body.new.Goals as goal

pub returns-clause-begins : goal.returns-clause-begins
returns-clause-begins c = λ start part.
    body_begins c.law_parts_bring_blocks.ensures.beside (announced c.args.head.now) _ part start refl refl refl refl refl

use Rattle.std.proofs.Common.{subst}
use Rattle.cog_client.specs.PartialAnswer.{IsBounded}
use Rattle.cog_client.proofs.PartialAnswerLemmas.{bounded}
use Rattle.cog_client.proofs.partial_answer.PartialAnswer.is_bounded.Goals as goal

pub returns : goal.returns
returns c =
    let i = c.self.inside in
    subst IsBounded c.self.view_is (bounded i.phase i.head.items i.part.items c.self.invariant)

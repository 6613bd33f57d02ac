use Rattle.cog_client.proofs.FeedLemmas.{kept_is_part}
use Rattle.cog_client.proofs.body.law_parts_are_kept.Goals as goal

pub returns : goal.returns
returns c = λ head start body b part now. kept_is_part head start body part b now

use Rattle.cog_client.proofs.ProgressLemmas.{asking_left, cost_left, goes_left, opening_left}
use Rattle.cog_client.proofs.laws.law_left_never_grows.Goals as goal

pub returns : goal.returns
returns c =
    let m = c.law_missing_is_exact.ensures in
    record { cost = cost_left m.few c.law_end_is_needed.ensures; opening = opening_left m.few; goes = goes_left m.there m.few m.same; asks = asking_left }

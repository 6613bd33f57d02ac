use Rattle.cog_client.proofs.ProgressLemmas.{delivery_reports, request_reports}
use Rattle.cog_client.proofs.laws.law_nothing_left_is_reported.Goals as goal

pub returns : goal.returns
returns c =
    let lengths = c.law_lengths_are_known.ensures in
    let some = c.law_missing_is_exact.ensures.some in
    record { request = request_reports lengths some; delivery = delivery_reports lengths some }

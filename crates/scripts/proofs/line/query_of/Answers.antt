use Rattle.scripts.specs.Line.{texts}
use Rattle.scripts.proofs.EventLemmas.{query_from_window, texts-six}
use Rattle.scripts.proofs.line.query_of.Goals as goal

pub returns-in_ok-pick_of-in-len6-clause-read : goal.returns-in_ok-pick_of-in-len6-clause-read
returns-in_ok-pick_of-in-len6-clause-read c =
    let words = c.args.words.now in
    query_from_window (texts words) _ _ _ _ _ _ c.in_ok-pick_of-in-len6.field-0 c.window.result
    (texts-six words _ c.in-len6.len_at_least c.in-len6.len_below) c.in_ok-pick_of-in-len6.ensures.read c.window.ensures.read

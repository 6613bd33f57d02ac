use Rattle.std.proofs.Common.{Some}
use Rattle.text_description.proofs.description.levels_of.Goals as goal

-- the levels are those that the client lends
pub returns-in_ok-facts_of-in-Some : goal.returns-in_ok-facts_of-in-Some
returns-in_ok-facts_of-in-Some c = (
  Some c.in-Some.levels.now,
  record { known = c.in-Some.ensures.known; of_file = c.in-Some.ensures.levels },
  c.in_ok-facts_of-in-Some.ensures,
)

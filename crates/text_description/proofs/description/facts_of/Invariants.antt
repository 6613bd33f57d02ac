use Rattle.std.proofs.Common.{take}
use Rattle.std.specs.List.{AllZip}
use Rattle.text_description.specs.Description.{IsFactsBy}
use Rattle.text_description.proofs.description.facts_of.Given as goal

-- the facts of the levels so far
abbrev pub invariant-loop-level : goal.invariant-loop-level
invariant-loop-level l = AllZip (IsFactsBy l.client) (take l.level-index l.levels) l.facts.items

use Rattle.cog_client.proofs.FedLemmas.{case_is_of_head, end_tells, leaves_by_head, edges_are_stored, cuts_are_stored, parts_are_not_stored}
use Rattle.cog_client.proofs.laws.law_answers_come_in_pieces.Goals as goal

pub returns-clause-head : goal.returns-clause-head
returns-clause-head c = case_is_of_head

pub returns-clause-leaves : goal.returns-clause-leaves
returns-clause-leaves c = leaves_by_head c.law_parts_bring_blocks.ensures.beside

pub returns-clause-told : goal.returns-clause-told
returns-clause-told c = end_tells

pub returns-clause-edges : goal.returns-clause-edges
returns-clause-edges c =
    let l = c.law_parts_bring_blocks.ensures in edges_are_stored l.cuts l.edges l.none l.stored l.counted

pub returns-clause-cuts : goal.returns-clause-cuts
returns-clause-cuts c =
    let l = c.law_parts_bring_blocks.ensures in cuts_are_stored l.cuts l.edges l.none l.stored l.counted

pub returns-clause-parts : goal.returns-clause-parts
returns-clause-parts c =
    let l = c.law_parts_bring_blocks.ensures in parts_are_not_stored l.cuts l.edges l.none l.stored l.counted

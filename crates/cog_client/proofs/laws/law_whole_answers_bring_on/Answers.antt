use Rattle.cog_client.proofs.OwnFrontLemmas.{own_fronts_are_served}
use Rattle.cog_client.proofs.OwnLemmas.{own_are_served, served_bring_on}
use Rattle.cog_client.proofs.laws.law_whole_answers_bring_on.Goals as goal

pub returns-clause-served : goal.returns-clause-served
returns-clause-served c =
    let missing = c.law_missing_is_exact.ensures in
    let brought = c.law_pieces_bring_blocks.ensures in
    served_bring_on c.law_lengths_are_known.ensures missing.there missing.same
    (record {
      stay = c.law_stored_stay.ensures;
      brought = brought.brought;
      only = brought.only;
      whole = brought.few;
      few = missing.few;
      fewer = missing.fewer;
    })

pub returns-clause-own : goal.returns-clause-own
returns-clause-own c =
    own_are_served c.law_lengths_are_known.ensures c.law_clients_are_answered.ensures.requests c.law_fronts_are_read.ensures.answers c.law_publications_replace.ensures.named

pub returns-clause-fronts : goal.returns-clause-fronts
returns-clause-fronts c =
    own_fronts_are_served c.law_clients_are_answered.ensures.requests c.law_fronts_are_read.ensures.answers c.law_heads_grow.ensures c.law_publications_replace.ensures.named c.law_lengths_are_known.ensures

use Rattle.std.proofs.Common.{List, subst, sym, ℕ}
use Rattle.scripts.specs.Line.{ReadsWords}
use Rattle.scripts.proofs.EventLemmas.{publishes, publishes_not, words_of_no_verb, words_of_verb}
use Rattle.scripts.proofs.line.event_of.Goals as goal

pub returns-then-eq-clause-event : goal.returns-then-eq-clause-event
returns-then-eq-clause-event g c =
    let words = publishes c.args.words.now _ c.eq.result _ c.as_slice.ensures c.eq.ensures c.if-eq.true c.in-len1-up.len_at_least in
    subst (λ (ws : List (List ℕ)). ReadsWords (g.S.Source.finds c.args.source.now) ws c.publication.result) (sym words) c.publication.ensures.event

pub returns-in-Some-clause-event : goal.returns-in-Some-clause-event
returns-in-Some-clause-event g c =
    let other = publishes_not c.args.words.now _ c.eq.result _ c.as_slice.ensures c.eq.ensures c.if-eq.false in
    words_of_verb (g.S.Source.finds c.args.source.now) c.args.words.now _ c.in-Some.verb c.event_without_file.result c.in-len1-up.len_at_least c.in-Some.ensures other c.event_without_file.ensures

pub returns-in-None-clause-event : goal.returns-in-None-clause-event
returns-in-None-clause-event g c =
    let other = publishes_not c.args.words.now _ c.eq.result _ c.as_slice.ensures c.eq.ensures c.if-eq.false in
    words_of_no_verb c.args.words.now _ c.in-len1-up.len_at_least other c.in-None.ensures

use Rattle.std.proofs.Common.{ℕ, List, Option, subst}
use Rattle.transports.specs.InMemory.{IsAbout}
use Rattle.transports.proofs.TransportLemmas.{shown_answer}
use Rattle.transports.proofs.in_memory.answer_about.Goals as goal

pub returns-clause-answered : goal.returns-clause-answered
returns-clause-answered c =
    let a = c.in-Ok.ensures in
    let P : Option (List ℕ) → Type 0 = λ carried. IsAbout c.args.name.now carried in
    record { response = a.response; answers = a.answers; about = subst P a.shows.name (c.is_about.ensures.0 c.if-not-is_about.false); shown = a.shows.text }

pub returns-clause-shows : goal.returns-clause-shows
returns-clause-shows c =
    let a = c.in-Ok.ensures in
    let P : Option (List ℕ) → Type 0 = λ carried. IsAbout c.args.name.now carried in
    shown_answer c.law_fronts_are_read.ensures.answers c.args.server.now.catalogue c.args.name.now c.args.request.now c.in-Ok.answer.text.items a.response a.answers a.shows.text
    (subst P a.shows.name (c.is_about.ensures.0 c.if-not-is_about.false))

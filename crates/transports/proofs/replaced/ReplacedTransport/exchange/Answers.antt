use Rattle.std.proofs.Common.{◌≡◌, subst}
use Rattle.http_range.specs.Book.{Book, Catalogue}
use Rattle.transports.specs.InMemory.{StandsIn}
use Rattle.transports.specs.Transports.{StandInBoth}
use Rattle.transports.proofs.TransportLemmas.{shown_more}
use Rattle.transports.proofs.replaced.ReplacedTransport.exchange.Goals as goal
use Rattle.transports.proofs.replaced.ReplacedTransport.exchange.Goals.{then-self-eq0, else-self-eq0}

pub returns-clause-shows : goal.returns-clause-shows
returns-clause-shows c =
    let s = c.args.self.now in
    let r = c.answer_about-answer.result in
    let shown = shown_more r (λ text. text.items) (StandsIn c.if-self-eq0.server.now.catalogue s.name.now) (StandInBoth s) in
    let has : Book → Catalogue → Type 0 = λ book k. StandsIn k s.name.now book in
    elim c.if-self-eq0.branch [
      | then-self-eq0 w ↦
          let same : s.after.now.catalogue ≡ c.if-self-eq0.server.now.catalogue = let is = w.server-is in cc in
          shown (λ book spoken. subst (has book) same spoken.1) c.answer_about-answer.ensures.shows
      | else-self-eq0 w ↦
          let same : s.before.now.catalogue ≡ c.if-self-eq0.server.now.catalogue = let is = w.server-is in cc in
          shown (λ book spoken. subst (has book) same spoken.0) c.answer_about-answer.ensures.shows
    ]

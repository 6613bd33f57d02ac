use Rattle.std.proofs.Common.{◌≡◌, ℕ, List, Option, Some, None, IfSome, IsSomeAnd, Ok, Err, refl, sym, ap, subst, ◌∙◌}
use Rattle.std.specs.Prelude.{if◌then◌else◌}
use Rattle.std.proofs.lemmas.Bool.{false≢true}
use Rattle.std.proofs.lemmas.Slice.Eq.{bytes_eq-Decides}
use Rattle.http_range.specs.Book.{Publication, In, published}
use Rattle.cog_client.specs.declared.delivered.Current.TheVariants.{Same, Other, Unknown}
use Rattle.cog_client.specs.declared.delivered.Unknown.TheVariants.{NotUsed}
use Rattle.cog_client.specs.Client.{ClientState, tag_of}
use Rattle.cog_client.specs.Check.{IsCurrent}
use Rattle.cog_client.proofs.ClientLemmas.{tag_is}
use Rattle.cog_client.proofs.client.Client.current.Goals as goal

same_tag : (o : Option Publication) (mine seen : List ℕ) (tag : Option (List ℕ)) → tag ≡ Some mine → mine ≡ seen
    → IsSomeAnd o (λ p. seen ≡ p.tag) → IsSomeAnd o (λ p. tag ≡ Some p.tag)
same_tag None mine seen tag is equal there = there
same_tag (Some p) mine seen tag is equal there = is ∙ ap Some (equal ∙ there)

carried : (name : List ℕ) (o : Option (List ℕ)) (Q : Type 0) → IfSome o (λ n. (n ≡ name) × Q) → (o ≡ None → ⊥) → o ≡ Some name
carried name None Q is some = absurd (some refl)
carried name (Some n) Q is some = ap Some is.0

pub returns-in-NotUsed-clause-current : goal.returns-in-NotUsed-clause-current
returns-in-NotUsed-clause-current c =
    let tag : tag_of c.args.self.now ≡ Some c.in-Some.source.tag = tag_is c.args.self.now c.in-Some.source (ap (λ (k : ClientState). k.source) (sym c.self.view_is) ∙ c.in-Some.is) in
    subst (λ t. IsCurrent t c.args.answer.now (Unknown (NotUsed c.in-NotUsed.why))) (sym tag) (Err c.in-NotUsed.why, c.in-NotUsed.ensures, refl)

pub returns-then-eq-clause-current : goal.returns-then-eq-clause-current
returns-then-eq-clause-current c =
    let tag : tag_of c.args.self.now ≡ Some c.in-Some.source.tag = tag_is c.args.self.now c.in-Some.source (ap (λ (k : ClientState). k.source) (sym c.self.view_is) ∙ c.in-Some.is) in
    subst (λ t. IsCurrent t c.args.answer.now Same) (sym tag) (Ok c.in-Seen.tag, c.in-Seen.ensures, ap (λ b. if b then Same else Other) c.if-eq.ensures)

pub returns-then-eq-clause-same : goal.returns-then-eq-clause-same
returns-then-eq-clause-same c _ =
    let tag : tag_of c.args.self.now ≡ Some c.in-Some.source.tag = tag_is c.args.self.now c.in-Some.source (ap (λ (k : ClientState). k.source) (sym c.self.view_is) ∙ c.in-Some.is) in
    let law = c.law_fronts_are_read.ensures.checks in
    let equal = (bytes_eq-Decides c.in-Some.source.tag c.in-Seen.tag).0 (sym c.if-eq.ensures) in
    λ name book honest. (
      carried name honest.response.name (IsSomeAnd (published name honest.catalogue) (λ p. In p book)) honest.named
          (λ none. false≢true (law.nameless c.args.answer.now name book (Ok c.in-Seen.tag) honest none c.in-Seen.ensures)),
      same_tag (published name honest.catalogue) c.in-Some.source.tag c.in-Seen.tag (tag_of c.args.self.now) tag equal
          (law.honest c.args.answer.now name book (Ok c.in-Seen.tag) honest c.in-Seen.ensures),
    )

pub returns-else-eq-clause-current : goal.returns-else-eq-clause-current
returns-else-eq-clause-current c =
    let tag : tag_of c.args.self.now ≡ Some c.in-Some.source.tag = tag_is c.args.self.now c.in-Some.source (ap (λ (k : ClientState). k.source) (sym c.self.view_is) ∙ c.in-Some.is) in
    subst (λ t. IsCurrent t c.args.answer.now Other) (sym tag) (Ok c.in-Seen.tag, c.in-Seen.ensures, ap (λ b. if b then Same else Other) c.if-eq.ensures)

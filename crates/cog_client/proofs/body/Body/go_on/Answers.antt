use Rattle.std.proofs.Common.{◌≡◌, true, false, ℕ, ◌+◌, ◌++◌, length, sym, ap, ◌∙◌, subst, inl, inr, min}
use Rattle.std.proofs.lemmas.Bool.{eq-eqb}
use Rattle.cog_client.specs.declared.body.Body.{Body}
use Rattle.cog_client.specs.Body.{IsBody, KeepsTail, Stops}
use Rattle.cog_client.proofs.BodyLemmas.{edge_goes, edge_stops, few_stored}
use Rattle.cog_client.proofs.GoingLemmas.{refused}
use Rattle.cog_client.proofs.body.Body.go_on.Goals as goal

pub returns-in_err-count-clause-err : goal.returns-in_err-count-clause-err
returns-in_err-count-clause-err c =
    let a = c.args in
    let l = c.law_parts_bring_blocks.ensures in
    let bytes = a.bytes.now in
    let e = c.in_err-count.ensures.err in
    let stops : Stops a.self.now a.part.now a.cache.now bytes c.store.new.cache =
    elim c.requires.seam [
      | inl edge ↦ λ head start body is.
          edge_stops l.edges l.stored l.counted head start body bytes a.part.now a.self.now a.cache.now is c.requires.all edge.0 edge.1
          c.store.new.cache e.0 e.1 e.2
      | inr none ↦ absurd (let wrong : true ≡ false = sym (eq-eqb (length bytes) 0 none) ∙ sym c.is_empty.ensures ∙ c.if-is_empty.false in cc)
    ] in
    refused c.from_residual.result (Stops a.self.now a.part.now a.cache.now bytes c.store.new.cache) stops

pub returns-clause-ok : goal.returns-clause-ok
returns-clause-ok c =
    let a = c.args in
    let l = c.law_parts_bring_blocks.ensures in
    let bytes = a.bytes.now in
    let e = c.in_ok-count.ensures.ok in
    let same = c.keep.ensures.same in
    let sums = c.saturating_add-self.ensures ∙ ap (λ (k : ℕ). min (a.self.now.count + k) 4294967295) e.1 in
    elim c.requires.seam [
      | inl edge ↦ λ head start body is.
          let few = few_stored c.law_stores_are_counted.ensures.few c.law_pieces_bring_blocks.ensures.few head a.self.now.span start (body ++ bytes) c.requires.sound.few in
          subst (λ (b : Body). IsBody head start (body ++ bytes) b c.keep.new.part c.store.new.cache) (sym same)
          (edge_goes l.edges l.stored l.counted head start body bytes a.part.now a.self.now a.cache.now is c.requires.all edge.0 edge.1
          c.saturating_add-self.result c.keep.new.self.keeps c.keep.new.part c.store.new.cache
          (subst (λ (b : Body). KeepsTail bytes b c.keep.new.part c.store.new.cache) same c.keep.ensures.tail) e.0 sums few)
      | inr none ↦ absurd (let wrong : true ≡ false = sym (eq-eqb (length bytes) 0 none) ∙ sym c.is_empty.ensures ∙ c.if-is_empty.false in cc)
    ]

use Rattle.std.proofs.Common.{◌≡◌, ℕ, ◌+◌, ◌-◌, ◌<◌, ◌≤◌, ◌/◌, ◌%◌, ◌++◌, List, length, take, drop, refl, sym, ap, ◌∙◌, subst, arith, inl, inr, append-nil, length-drop, min}
use Rattle.std.proofs.lemmas.Bool.{cases_lt}
use Rattle.cog_client.specs.declared.body.Body.{Body}
use Rattle.cog_client.specs.Body.{IsBody, IsSeam, Stops}
use Rattle.cog_client.proofs.BodyLemmas.{few_stored, finish_stops, finishes, keeps_on, skips}
use Rattle.cog_client.proofs.GoingLemmas.{refused}
use Rattle.cog_client.proofs.body.Body.finish.Goals as goal
use Rattle.cog_client.proofs.body.Body.finish.Goals.{then-count-lacking+in_ok-stored, else-count-lacking}

-- where the block that is begun is passed, another begins, or nothing follows
seam : (next complete left m : ℕ) (bytes : List ℕ) → length bytes ≤ left → next + left ≤ complete → 0 < next % 16384
    → m ≡ min (min (16384 - next % 16384) (complete - next)) (length bytes) → IsSeam (next + m) (drop m bytes)
seam next complete left m bytes fits inside mid size = elim (cases_lt m (length bytes)) [
  | inl more ↦ inl (next / 16384 + 1, omega (arith, more, size, mid, fits, inside))
  | inr all ↦ inr (omega (arith, all, length-drop m bytes))
]

pub returns-then-begun-eq0-clause-ok : goal.returns-then-begun-eq0-clause-ok
returns-then-begun-eq0-clause-ok c =
    let a = c.args in (
      0,
      refl,
      c.requires.all,
      inl (a.self.now.next / 16384, omega (arith, c.if-begun-eq0.true)),
      λ head start body is. subst (λ (xs : List ℕ). IsBody head start xs a.self.now a.part.now a.cache.now) (sym (append-nil body)) is,
    )

pub returns-then-not-self-clause-ok : goal.returns-then-not-self-clause-ok
returns-then-not-self-clause-ok c =
    let a = c.args in
    let l = c.law_parts_bring_blocks.ensures in
    let m = c.min-count.result in
    let bytes = a.bytes.now in
    let mid : 0 < a.self.now.next % 16384 = omega (arith, c.if-begun-eq0.false) in
    let size = c.min-count.ensures ∙ ap (λ (k : ℕ). min k (length bytes)) c.min-lacking.ensures in
    let rest = c.split_at.ensures.back in (
      m,
      rest,
      omega (arith, ap length rest, length-drop m bytes, c.requires.all),
      subst (IsSeam (a.self.now.next + m)) (sym rest)
          (seam a.self.now.next a.self.now.complete a.self.now.left m bytes c.requires.all c.requires.sound.inside mid size),
      λ head start body is.
          skips l.cuts l.edges l.none l.beside l.stored l.counted l.unwanted head start body bytes a.part.now a.self.now a.cache.now m is
          c.requires.all mid size c.if-not-self.true,
    )

pub returns-in_err-stored-clause-err : goal.returns-in_err-stored-clause-err
returns-in_err-stored-clause-err c =
    let a = c.args in
    let l = c.law_parts_bring_blocks.ensures in
    let m = c.min-count.result in
    let bytes = a.bytes.now in
    let mid : 0 < a.self.now.next % 16384 = omega (arith, c.if-begun-eq0.false) in
    let size = c.min-count.ensures ∙ ap (λ (k : ℕ). min k (length bytes)) c.min-lacking.ensures in
    let copied = subst (λ (xs : List ℕ). take (a.self.now.next % 16384 + length xs) c.copy.new.room ≡ take (a.self.now.next % 16384) a.part.now ++ xs)
    c.split_at.ensures.front c.copy.ensures.copied in
    let e = c.in_err-stored.ensures.err in
    refused c.from_residual.result (Stops a.self.now a.part.now a.cache.now bytes c.store.new.cache) (λ head start body is.
    finish_stops l.cuts l.edges l.none l.beside l.stored l.counted l.unwanted head start body bytes a.part.now a.self.now a.cache.now m is
    c.requires.all mid size c.if-not-self.false c.copy.new.room copied (c.if-count-lacking.true ∙ c.min-lacking.ensures) c.store.new.cache e.0 e.1 e.2)

pub returns-clause-ok : goal.returns-clause-ok
returns-clause-ok c =
    let a = c.args in
    let l = c.law_parts_bring_blocks.ensures in
    let m = c.min-count.result in
    let bytes = a.bytes.now in
    let rest = c.split_at.ensures.back in
    let mid : 0 < a.self.now.next % 16384 = omega (arith, c.if-begun-eq0.false) in
    let size = c.min-count.ensures ∙ ap (λ (k : ℕ). min k (length bytes)) c.min-lacking.ensures in
    let copied = subst (λ (xs : List ℕ). take (a.self.now.next % 16384 + length xs) c.copy.new.room ≡ take (a.self.now.next % 16384) a.part.now ++ xs)
    c.split_at.ensures.front c.copy.ensures.copied in
    let next : IsSeam (a.self.now.next + m) c.split_at.result.1.now = subst (IsSeam (a.self.now.next + m)) (sym rest)
    (seam a.self.now.next a.self.now.complete a.self.now.left m bytes c.requires.all c.requires.sound.inside mid size) in
    let fits : length c.split_at.result.1.now ≤ a.self.now.left - m = omega (arith, ap length rest, length-drop m bytes, c.requires.all) in
    elim c.if-count-lacking.branch [
      | then-count-lacking+in_ok-stored w ↦
          let e = w.in_ok-stored.ensures.ok in
          let sums = w.saturating_add-self.ensures ∙ ap (λ (k : ℕ). min (a.self.now.count + k) 4294967295) e.1 in (
            m,
            rest,
            subst (λ (b : Body). length c.split_at.result.1.now ≤ b.left) (sym w.self-is) fits,
            subst (λ (b : Body). IsSeam b.next c.split_at.result.1.now) (sym w.self-is) next,
            λ head start body is.
                let few = few_stored c.law_stores_are_counted.ensures.few c.law_pieces_bring_blocks.ensures.few head a.self.now.span start (body ++ take m bytes) c.requires.sound.few in
                subst (λ (b : Body). IsBody head start (body ++ take m bytes) b c.copy.new.room c.if-count-lacking.cache) (sym w.self-is)
                (subst (IsBody head start (body ++ take m bytes) _ c.copy.new.room) (sym w.cache-is)
                (finishes l.cuts l.edges l.none l.beside l.stored l.counted l.unwanted head start body bytes a.part.now a.self.now a.cache.now m is
                c.requires.all mid size c.if-not-self.false c.copy.new.room copied (w.if-count-lacking.true ∙ c.min-lacking.ensures) w.store.new.cache
                w.saturating_add-self.result e.0 sums few)),
          )
      | else-count-lacking w ↦
          let short : m < min (16384 - a.self.now.next % 16384) (a.self.now.complete - a.self.now.next) =
          omega (arith, size, c.min-lacking.ensures, w.if-count-lacking.false) in (
            m,
            rest,
            subst (λ (b : Body). length c.split_at.result.1.now ≤ b.left) (sym w.self-is) fits,
            subst (λ (b : Body). IsSeam b.next c.split_at.result.1.now) (sym w.self-is) next,
            λ head start body is.
                subst (λ (b : Body). IsBody head start (body ++ take m bytes) b c.copy.new.room c.if-count-lacking.cache) (sym w.self-is)
                (subst (IsBody head start (body ++ take m bytes) _ c.copy.new.room) (sym w.cache-is)
                (keeps_on l.cuts l.edges l.none l.beside l.stored l.counted l.unwanted head start body bytes a.part.now a.self.now a.cache.now m is
                c.requires.all mid size c.if-not-self.false c.copy.new.room copied short)),
          )
    ]

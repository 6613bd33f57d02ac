use Rattle.std.proofs.Common.{◌≡◌, ℕ, ◌+◌, ◌-◌, ◌/◌, ◌<◌, ◌≤◌, ◌==◌, List, length, ap, sym, ◌∙◌, arith, inl, inr}
use Rattle.std.proofs.lemmas.Bool.{true_from_ne_false}
use Rattle.std.proofs.lemmas.Bool.Decides.{eqb_tells}
use Rattle.extents.specs.Block.{first_block, blocks}
use Rattle.range_cache.specs.Numbers.{missing}
use Rattle.range_cache.specs.Cache.{bytes_at, numbers, Holds}
use Rattle.range_cache.proofs.Bytes.{blocks-some, bytes_of}
use Rattle.range_cache.proofs.LawLemmas.{missing-some}
use Rattle.range_cache.proofs.cache.Cache.copy_present.Goals as goal

-- as many of the range's blocks are looked for as it touches
all_of : (first len : ℕ) → 0 < len → (first + len - 1) / 16384 + 1 - first / 16384 ≡ blocks first len
all_of first len some = omega (arith, blocks-some first len some)

pub returns-then-present-to-clause-exact : goal.returns-then-present-to-clause-exact
returns-then-present-to-clause-exact c =
    let first = c.args.first in
    let len = length c.args.out.now in
    let ns = numbers c.args.self.now.entries in
    let all = ap (missing ns (first_block first)) (all_of first len c.requires.some) in
    elim (eqb_tells (missing ns (first_block first) (blocks first len)) 0) [
      | inl e ↦ absurd (let none = e.1 in omega (arith, c.if-present-to.true, c.present.ensures, all, none))
      | inr e ↦ sym e.0
    ]

-- where all are present, none is missing
none : (ns : List ℕ) (first len present : ℕ) → 0 < len → (first + len - 1) / 16384 + 1 - first / 16384 ≤ present
    → present + missing ns (first / 16384) ((first + len - 1) / 16384 + 1 - first / 16384) ≡ (first + len - 1) / 16384 + 1 - first / 16384
    → missing ns (first_block first) (blocks first len) ≡ 0
none ns first len present some enough counted = omega (arith, enough, counted, ap (missing ns (first_block first)) (all_of first len some))

pub returns-clause-exact : goal.returns-clause-exact
returns-clause-exact c = sym (ap (λ n. n == 0)
    (none (numbers c.args.self.now.entries) c.args.first (length c.args.out.now) c.present.result c.requires.some c.if-present-to.false c.present.ensures))

pub returns-clause-slice : goal.returns-clause-slice
unfolding Holds bytes_at
returns-clause-slice c = λ t f within held.
    let first = c.args.first in
    let len = length c.args.out.now in
    let ns = numbers c.args.self.now.entries in
    c.copy_at.ensures
    ∙ bytes_of f first len c.args.self.now.entries within c.requires.some held
    (λ k low high. true_from_ne_false _ (λ gone.
    omega (
      arith,
      none ns first len c.present.result c.requires.some c.if-present-to.false c.present.ensures,
      missing-some ns (first_block first) (blocks first len) k low high gone,
    )))

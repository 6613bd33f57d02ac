use Rattle.std.proofs.Common.{◌≡◌, true, false, cond, refl, sym, ap, ◌∙◌, ℕ}
use Rattle.range_cache.specs.Cache.{blocks_in, put_one}
use Rattle.range_cache.proofs.Entries.{told, blocks_in-put}
use Rattle.range_cache.proofs.blocks.store_one.Goals as goal

pub returns-then-contains-clause-ok : goal.returns-then-contains-clause-ok
returns-then-contains-clause-ok c =
    let there = told c.args.number c.args.blocks.now.entries c.contains.result c.contains.ensures ∙ c.if-contains.true in
    rw there (refl, refl)

pub returns-clause-ok : goal.returns-clause-ok
returns-clause-ok c =
    let n = c.args.number in
    let gone = told n c.args.blocks.now.entries c.contains.result c.contains.ensures ∙ c.if-contains.false in
    let one = ap (λ t. cond {A = ℕ} t 0 1) gone in (
      ap (λ v. blocks_in v.entries) c.in_ok-put.ensures.entries ∙ blocks_in-put c.args.blocks.now n c.in_ok-block.block gone
          ∙ ap (λ bytes. put_one c.args.blocks.now.cap (blocks_in c.args.blocks.now.entries) (n, bytes)) c.in_ok-block.ensures.items,
      sym one,
    )

pub returns-in_err-block-clause-sure : goal.returns-in_err-block-clause-sure
returns-in_err-block-clause-sure c = λ there.
    let gone = told c.args.number c.args.blocks.now.entries c.contains.result c.contains.ensures ∙ c.if-contains.false in
    absurd (let both : true ≡ false = sym there ∙ gone in cc)

pub returns-in_err-put-clause-sure : goal.returns-in_err-put-clause-sure
returns-in_err-put-clause-sure c = λ there.
    let gone = told c.args.number c.args.blocks.now.entries c.contains.result c.contains.ensures ∙ c.if-contains.false in
    absurd (let both : true ≡ false = sym there ∙ gone in cc)

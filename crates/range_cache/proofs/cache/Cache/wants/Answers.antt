use Rattle.std.proofs.Common.{◌&&◌, ◌+◌, not, ap, sym, ◌∙◌, arith}
use Rattle.std.proofs.lemmas.Bool.{false_from_ne_true, and_left, lt-leb}
use Rattle.range_cache.specs.Numbers.{has}
use Rattle.range_cache.specs.Cache.{Blocks, numbers}
use Rattle.range_cache.specs.Piece.{is_wanted}
use Rattle.range_cache.proofs.Entries.{told}
use Rattle.range_cache.proofs.Whole.{LiesIn, lies_in, lies_whole}
use Rattle.range_cache.proofs.cache.Cache.wants.Goals as goal
use Rattle.range_cache.proofs.cache.Cache.wants.Goals.{then-block-div_ceil-via-then-block-div_ceil, then-block-div_ceil-via-else-block-div_ceil+then-block-wanted}

pub returns-then-block-div_ceil : goal.returns-then-block-div_ceil
unfolding is_wanted
returns-then-block-div_ceil c = sym (and_left _ _ (false_from_ne_true _ (λ t.
    let lies = lies_in c.args.file_length c.args.wanted.first (c.args.wanted.last + 1) c.args.block t in
    elim c.then-block-div_ceil.branch [
      | then-block-div_ceil-via-then-block-div_ceil w ↦ omega (arith, w.if-block-div_ceil.true, c.div_ceil.ensures, lies.there)
      | then-block-div_ceil-via-else-block-div_ceil+then-block-wanted w ↦ omega (arith, w.if-block-wanted.true, lies.begins)
    ])))

pub returns-else-last_of-wanted : goal.returns-else-last_of-wanted
unfolding is_wanted
returns-else-last_of-wanted c =
    lt-leb c.last_of.result c.args.wanted.last c.if-last_of-wanted.false
    ∙ sym (and_left _ _ (false_from_ne_true _ (λ t.
    let lies = lies_in c.args.file_length c.args.wanted.first (c.args.wanted.last + 1) c.args.block t in
    omega (arith, lies.ends, c.last_of.ensures, c.if-last_of-wanted.false))))

pub returns-then-last_of-wanted : goal.returns-then-last_of-wanted
unfolding is_wanted
returns-then-last_of-wanted c =
    let lies : LiesIn c.args.file_length c.args.wanted.first (c.args.wanted.last + 1) c.args.block = record {
      there = omega (arith, c.if-block-div_ceil.false, c.div_ceil.ensures);
      begins = omega (arith, c.if-block-wanted.false);
      ends = omega (arith, c.last_of.ensures, c.if-last_of-wanted.true);
    } in
    let whole = lies_whole c.args.file_length c.args.wanted.first (c.args.wanted.last + 1) c.args.block lies in
    let there = told c.args.block c.self.inside.blocks.entries c.contains.result c.contains.ensures in
    let seen = ap (λ (v : Blocks). has c.args.block (numbers v.entries)) c.self.view_is in
    ap not (sym there ∙ seen)
    ∙ sym (ap (λ t. t && not (has c.args.block (numbers c.args.self.now.entries))) whole)

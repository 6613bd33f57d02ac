use Rattle.std.proofs.Common.{◌+◌, ◌-◌, ◌≡◌, ◌++◌, ◌∙◌, ap, sym, append-nil, arith}
use Rattle.fixtures_support.specs.Files.{even_tiles}
use Rattle.fixtures_support.proofs.Pieces.{even_tiles_next}
use Rattle.fixtures_support.proofs.files.push_falling_tiles.Goals as goal

pub loop-t-init : goal.loop-t-init
unfolding even_tiles
loop-t-init c = sym (append-nil c.args.out.now.items)

pub loop-t-preserved : goal.loop-t-preserved
loop-t-preserved c =
    even_tiles_next 256 (λ t. 255 - t) c.loop-t.t c.args.out.now.items c.loop-t.out.items c.extend_from_slice.new.self.items
    c.loop-t.invariant c.in_ok-extend_from_slice.ensures.items

pub returns-in_ok-extend_from_slice : goal.returns-in_ok-extend_from_slice
returns-in_ok-extend_from_slice c =
    let last : c.loop-t.t + 1 ≡ 256 = omega arith in
    even_tiles_next 256 (λ t. 255 - t) c.loop-t.t c.args.out.now.items c.loop-t.out.items c.extend_from_slice.new.self.items
    c.loop-t.invariant c.in_ok-extend_from_slice.ensures.items
    ∙ ap (λ n. c.args.out.now.items ++ even_tiles 256 (λ t. 255 - t) n) last

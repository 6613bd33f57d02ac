use Rattle.std.proofs.Common.{◌≡◌, ◌<◌, ◌≤◌, ◌+◌, ◌*◌, ◌/◌, ◌%◌, sym, arith, subst, map}
use Rattle.std.specs.List.{range_with_len}
use Rattle.tiff_dir.specs.Level.{across}
use Rattle.tiff_dir.specs.declared.limits.TheConstants.{MAX_TILES}
use Rattle.tiff_dir.specs.Profile.{tiles_along}
use Rattle.tiff_dir.specs.Described.{grid_of}
use Rattle.tile_plan.specs.Levels.{rectangle_of}
use Rattle.tile_plan.specs.Plan.{tiles_of}
use Rattle.tile_plan.proofs.BlockLemmas.{IsBlock, HasRoom, in_level, block_few, block_room, block_tiles, below_total}
use Rattle.tile_plan.proofs.block.Block.of.Goals as goal

pub touched-top-requires-clause-fits : goal.touched-top-requires-clause-fits
touched-top-requires-clause-fits c = omega (arith, (in_level c.args.level.now c.args.rect c.requires).fits_y)

pub invariant_of-result : goal.invariant_of-result
invariant_of-result c =
    let l = c.args.level.now in
    let r = c.args.rect in
    let left = c.touched-left.result.0 in
    let top = c.touched-top.result.0 in
    let C = c.touched-left.result.1 in
    let R = c.touched-top.result.1 in
    let is : IsBlock (grid_of l) (rectangle_of r) left top C R =
    record { left_is = c.touched-left.ensures.0; top_is = c.touched-top.ensures.0; columns = c.touched-left.ensures.1; rows = c.touched-top.ensures.1 } in
    let room : HasRoom (across (grid_of l)) (tiles_along l.length l.tile_length) left top C R = block_room (grid_of l) (rectangle_of r) left top C R (in_level l r c.requires) is in
    record {
      some = (room.some, room.more);
      side = omega (arith, room.wide, c.tiles_across-across.ensures.count);
      few = subst (λ A. (top + R) * A ≤ MAX_TILES) (sym c.tiles_across-across.ensures.count) (block_few l top R room.tall);
    }

pub returns-clause-tiles : goal.returns-clause-tiles
returns-clause-tiles c =
    let l = c.args.level.now in
    let r = c.args.rect in
    let left = c.touched-left.result.0 in
    let top = c.touched-top.result.0 in
    let C = c.touched-left.result.1 in
    let R = c.touched-top.result.1 in
    let is : IsBlock (grid_of l) (rectangle_of r) left top C R =
    record { left_is = c.touched-left.ensures.0; top_is = c.touched-top.ensures.0; columns = c.touched-left.ensures.1; rows = c.touched-top.ensures.1 } in
    subst (λ A. map (λ n. (top + n / C) * A + left + n % C) (range_with_len 0 (C * R)) ≡ tiles_of l r) (sym c.tiles_across-across.ensures.count)
    (block_tiles (grid_of l) (rectangle_of r) left top C R (in_level l r c.requires) is)

pub returns-clause-within : goal.returns-clause-within
returns-clause-within c n less =
    let l = c.args.level.now in
    let r = c.args.rect in
    let left = c.touched-left.result.0 in
    let top = c.touched-top.result.0 in
    let C = c.touched-left.result.1 in
    let R = c.touched-top.result.1 in
    let is : IsBlock (grid_of l) (rectangle_of r) left top C R =
    record { left_is = c.touched-left.ensures.0; top_is = c.touched-top.ensures.0; columns = c.touched-left.ensures.1; rows = c.touched-top.ensures.1 } in
    let room : HasRoom (across (grid_of l)) (tiles_along l.length l.tile_length) left top C R = block_room (grid_of l) (rectangle_of r) left top C R (in_level l r c.requires) is in
    let below = below_total (across (grid_of l)) left top C R (tiles_along l.length l.tile_length) n room.some room.wide room.tall less in
    subst (λ A. (top + n / C) * A + left + n % C < across (grid_of l) * tiles_along l.length l.tile_length) (sym c.tiles_across-across.ensures.count) below

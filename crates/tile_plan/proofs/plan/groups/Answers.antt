use Rattle.std.proofs.Common.{◌≡◌, ◌*◌, ◌<◌, ◌++◌, ◌∷◌, [], map, below_more, sym, subst, ap, ◌∙◌, arith}
use Rattle.std.specs.List.{range_with_len}
use Rattle.tiff_dir.specs.Level.{tile_total}
use Rattle.tiff_dir.specs.Described.{grid_of}
use Rattle.extents.specs.Extent.{extent_of_span}
use Rattle.tiff_dir.specs.declared.fault.WalkError.TheVariants.{File}
use Rattle.tile_plan.specs.Block.{tile_of_block}
use Rattle.tile_plan.specs.Groups.{grouped}
use Rattle.tile_plan.specs.Plan.{range_in, group_of, tiles_of, IsRangeOf, IsTileFault, IsPlanError, IsErrorOf}
use Rattle.tile_plan.specs.Adding.{added}
use Rattle.tile_plan.proofs.AskedLemmas.{passed_on}
use Rattle.tile_plan.proofs.BlockLemmas.{counted_all}
use Rattle.tile_plan.proofs.GroupLemmas.{grouped_more, grouped_none, among_counted}
use Rattle.tile_plan.proofs.PlanLemmas.{IsKnown, planned, needed, stands}
use Rattle.tile_plan.proofs.plan.groups.Goals as goal

pub loop-n-init : goal.loop-n-init
loop-n-init c =
    let range = range_in c.args.order c.args.level.now c.args.offsets.now c.args.counts.now in
    record { groups = ap (map group_of) c.new-groups.ensures.items ∙ sym (grouped_none range); known = λ k less. absurd (omega arith) }

pub returns-in_err-span-clause-refused : goal.returns-in_err-span-clause-refused
returns-in_err-span-clause-refused c =
    let b = c.of-block.result in
    let l = c.args.level.now in
    let range = range_in c.args.order l c.args.offsets.now c.args.counts.now in
    let fault = c.in_err-span.field-0.0 in
    let less : c.loop-n.n < b.columns * b.rows = omega (arith, c.loop-n-test.true, c.count-n-end.ensures, c.loop-n.auto.n-end) in
    passed_on c.from_residual.result (File fault) (IsPlanError range l c.args.rect c.args.file_length) c.from_residual.ensures.1 (record {
      tile = tile_of_block b c.loop-n.n;
      among = among_counted (tile_of_block b) (b.columns * b.rows) (tiles_of l c.args.rect) c.loop-n.n c.of-block.ensures.tiles less;
      wrong = subst (λ t. IsTileFault l c.args.file_length (range t) fault) c.tile-tile.ensures c.in_err-span.ensures.refused;
    })

pub returns-in_err-span-clause-stands : goal.returns-in_err-span-clause-stands
returns-in_err-span-clause-stands c f q p =
    let b = c.of-block.result in
    let l = c.args.level.now in
    let range = range_in c.args.order l c.args.offsets.now c.args.counts.now in
    let fault = c.in_err-span.field-0.0 in
    let less : c.loop-n.n < b.columns * b.rows = omega (arith, c.loop-n-test.true, c.count-n-end.ensures, c.loop-n.auto.n-end) in
    let t = tile_of_block b c.loop-n.n in
    let among = among_counted (tile_of_block b) (b.columns * b.rows) (tiles_of l c.args.rect) c.loop-n.n c.of-block.ensures.tiles less in
    let wrong = subst (λ t. IsTileFault l c.args.file_length (range t) fault) c.tile-tile.ensures c.in_err-span.ensures.refused in
    passed_on c.from_residual.result (File fault) (IsErrorOf f q) c.from_residual.ensures.1
    (stands f q c.args.order l c.args.rect c.args.file_length c.args.offsets.now c.args.counts.now t fault p among
    (subst (λ t. IsRangeOf f c.args.rect.level t (range t)) c.tile-tile.ensures (c.in_err-span.ensures.values f c.args.rect.level p.order_is p.layout_is p.offsets_are p.counts_are)) wrong)

pub loop-n-preserved : goal.loop-n-preserved
loop-n-preserved c =
    let b = c.of-block.result in
    let n = c.loop-n.n in
    let l = c.args.level.now in
    let range = range_in c.args.order l c.args.offsets.now c.args.counts.now in
    let tile = c.tile-tile.result in
    let before = map (tile_of_block b) (range_with_len 0 n) in
    record {
      groups = c.in_ok-add_tile.ensures ∙ ap (λ gs. added gs tile (extent_of_span c.in_ok-span.span)) c.loop-n.invariant.groups
          ∙ ap (added (grouped range before) tile) c.in_ok-span.ensures.range ∙ sym (grouped_more range before tile)
          ∙ ap (λ t. grouped range (before ++ t ∷ [])) c.tile-tile.ensures ∙ ap (grouped range) (counted_all (tile_of_block b) n);
      known = below_more (λ k. IsKnown c.args.order l c.args.file_length c.args.offsets.now c.args.counts.now (tile_of_block b k)) n c.loop-n.invariant.known
          (subst (IsKnown c.args.order l c.args.file_length c.args.offsets.now c.args.counts.now) c.tile-tile.ensures (record { within = subst (λ t. t < tile_total (grid_of l)) (sym c.tile-tile.ensures) (c.of-block.ensures.within n (omega (arith, c.loop-n-test.true, c.count-n-end.ensures, c.loop-n.auto.n-end))); sound = c.in_ok-span.ensures.sound; values = c.in_ok-span.ensures.values }));
    }

pub returns-clause-groups : goal.returns-clause-groups
returns-clause-groups c =
    let b = c.of-block.result in
    let l = c.args.level.now in
    let all : c.loop-n.n ≡ b.columns * b.rows = omega (arith, c.loop-n-test.false, c.count-n-end.ensures, c.loop-n.auto.n-end) in
    let tiles = ap (λ k. map (tile_of_block b) (range_with_len 0 k)) all ∙ c.of-block.ensures.tiles in
    planned c.args.order l c.args.rect c.args.file_length c.args.offsets.now c.args.counts.now (tile_of_block b) c.loop-n.n c.loop-n.groups.items tiles c.loop-n.invariant.known c.loop-n.invariant.groups

pub returns-clause-needed : goal.returns-clause-needed
returns-clause-needed c f q p =
    let b = c.of-block.result in
    let l = c.args.level.now in
    let all : c.loop-n.n ≡ b.columns * b.rows = omega (arith, c.loop-n-test.false, c.count-n-end.ensures, c.loop-n.auto.n-end) in
    let tiles = ap (λ k. map (tile_of_block b) (range_with_len 0 k)) all ∙ c.of-block.ensures.tiles in
    needed f q c.args.order l c.args.rect c.args.file_length c.args.offsets.now c.args.counts.now (tile_of_block b) c.loop-n.n c.loop-n.groups.items p tiles c.loop-n.invariant.known
    (planned c.args.order l c.args.rect c.args.file_length c.args.offsets.now c.args.counts.now (tile_of_block b) c.loop-n.n c.loop-n.groups.items tiles c.loop-n.invariant.known c.loop-n.invariant.groups)

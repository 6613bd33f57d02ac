use Rattle.std.proofs.Common.{sym}
use Rattle.std.proofs.lemmas.Bool.{and_parts, eqb-true, ltb-true, leb-true}
use Rattle.std.specs.Prelude.{nat_lt}
use Rattle.tiff_dir.proofs.Ends.{tiles_parts, arrays_parts}
use Rattle.tiff_dir.proofs.level_steps.level_of.Goals as goal

pub invariant_of-result : goal.invariant_of-result
invariant_of-result c =
    let d = c.args.draft in
    let some = and_parts (nat_lt 0 d.width) (nat_lt 0 d.length) c.requires.sides in
    let tiles = tiles_parts d c.args.bits c.requires.tiles in
    let arrays = arrays_parts d c.requires.arrays in
    record {
      sides = (ltb-true 0 d.width some.0, ltb-true 0 d.length some.1);
      tile_sides = (tiles.0, tiles.1);
      one_or_three = c.requires.draft.samples;
      depth = c.requires.depth;
      plain = leb-true _ _ tiles.2;
      tiles = leb-true _ _ arrays.0;
      offset_of_each = sym (eqb-true _ _ arrays.1);
      count_of_each = sym (eqb-true _ _ arrays.2);
      kinds = (c.requires.draft.long, c.requires.draft.whole);
      lens = (c.requires.draft.bounded.offsets.0, c.requires.draft.bounded.counts.0);
      near = (c.requires.draft.bounded.offsets.1, c.requires.draft.bounded.counts.1);
    }

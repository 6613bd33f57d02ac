use Rattle.std.proofs.Common.{◌≡◌, ◌+◌, drop, length, slice_range, arith, ◌∙◌}
use Rattle.tiff_dir.specs.Packets.{Copied}
use Rattle.reference_support.proofs.UnpackingLemmas.{copied_begins, has_room, slice_length}
use Rattle.reference_support.proofs.packets.push_copied.Goals as goal

pub returns : goal.returns
returns c =
    let size : length (slice_range c.args.bytes.now 1 (c.args.count + 1)) ≡ c.args.count = slice_length c.args.bytes.now 1 (c.args.count + 1) (omega arith) (omega arith) ∙ omega arith in
    let same : c.len.result ≡ length c.args.out.now.items = omega (arith, c.len.ensures, c.args.out.now.ok) in
    record {
      packet = Copied (slice_range c.args.bytes.now 1 (c.args.count + 1));
      after = drop (c.args.count + 1) c.args.bytes.now;
      lawful = (omega (arith, size), omega (arith, size));
      begins = copied_begins c.args.bytes.now c.args.count (c.args.count + 1) c.requires.head size (omega arith);
      size = omega (arith, size);
      fits = has_room _ _ _ _ _ same size (c.has_room.ensures.0 c.if-not-has_room.false);
      added = c.in_ok-extend_from_slice.ensures.items;
    }

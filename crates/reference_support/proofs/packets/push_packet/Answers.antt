use Rattle.std.proofs.Common.{sym, drop, length, refl, append-nil, arith}
use Rattle.tiff_dir.specs.Packets.{Passed}
use Rattle.reference_support.proofs.UnpackingLemmas.{first_one, has_room}
use Rattle.reference_support.proofs.packets.push_packet.Goals as goal

pub returns-then-has_room : goal.returns-then-has_room
returns-then-has_room c =
    let first = c.in-Some.ensures.item.3 in
    record {
      packet = Passed;
      after = drop 1 c.args.bytes.now;
      lawful = tt;
      begins = first_one c.args.bytes.now 128 first.0 (λ d. omega (arith, first.1 d));
      size = refl;
      fits = has_room c.len.result (length c.args.out.now.items) 0 0 c.args.row (omega (arith, c.len.ensures)) refl (c.has_room.ensures.0 c.if-has_room.true);
      added = sym (append-nil c.args.out.now.items);
    }

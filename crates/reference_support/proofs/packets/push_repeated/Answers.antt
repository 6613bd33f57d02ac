use Rattle.std.proofs.Common.{◌≡◌, ◌+◌, drop, length, refl, sym, ap, ◌∙◌, arith}
use Rattle.std.proofs.lemmas.List.{length-replicate}
use Rattle.tiff_dir.specs.Packets.{Repeated}
use Rattle.reference_support.proofs.UnpackingLemmas.{first_two, has_room, resized}
use Rattle.reference_support.proofs.packets.push_repeated.Goals as goal

pub returns : goal.returns
returns c =
    let same : c.len.result ≡ length c.args.out.now.items = omega (arith, c.len.ensures) in
    let again : c.len-2.result ≡ length c.args.out.now.items = omega (arith, c.len-2.ensures) in
    let second = c.in-Some.ensures.lookup.3 in
    record {
      packet = Repeated c.args.times c.in-Some.byte.now;
      after = drop 2 c.args.bytes.now;
      lawful = (c.requires.some, c.requires.few);
      begins = first_two c.args.bytes.now _ _ c.requires.head second.0 second.1;
      size = refl;
      fits = has_room _ _ _ _ _ same (length-replicate c.args.times c.in-Some.byte.now) (c.has_room.ensures.0 c.if-not-has_room.false);
      added = resized c.args.out.now.items c.resize.new.self.items (c.len-2.result + c.args.times) c.args.times _ c.in-Some.byte.now (ap (λ n. n + c.args.times) again) (sym c.len-2.ensures ∙ again) c.in_ok-resize.ensures.items;
    }

use Rattle.std.proofs.Common.{◌≡◌, ◌-◌, length, take, drop, min, refl, sym, subst, arith, length-drop}
use Rattle.std.proofs.lemmas.List.{take_all, take_rest, length-take-le}
use Rattle.tiff_dir.specs.Packets.{Packs}
use Rattle.packbits.specs.Unpacking.{HasNoFirst}
use Rattle.packbits.proofs.PacketLemmas.{HasRoom, room_left, room_next, unpacked_on, not_packed, not_filled}
use Rattle.packbits.proofs.unpacking.unpack.Goals as goal

pub returns-in_default-clause-refused : goal.returns-in_default-clause-refused
returns-in_default-clause-refused c =
    let seg = c.args.seg.now in
    let out = c.loop-at.out in
    let done = c.loop-at.done in
    let room = c.loop-at.room in
    let kept = c.loop-at.invariant in
    let size : length (take done out) ≡ done = length-take-le done out kept.fits in
    let left : length (drop done out) ≡ length c.args.out.now - length (take done out) = omega (arith, length-drop done out, size, c.loop-at.auto.out) in (
      refl,
      not_packed c.law_one_text.ensures.packet c.args.row seg (take done out) c.loop-at.at room (length c.args.out.now) kept.packs
          (subst (λ n. HasRoom c.args.row n room) (sym size) kept.has) c.loop-at-test.true
          (subst (λ n. HasNoFirst (drop c.loop-at.at seg) (min room n)) left
          (subst (λ l. HasNoFirst (drop c.loop-at.at seg) (min room (length l))) (take_rest out done)
          (subst (λ l. HasNoFirst l (min room (length (take (length out - done) (drop done out))))) (take_rest seg c.loop-at.at) c.in_default.ensures.none))),
    )

pub loop-at-preserved-then-count-room : goal.loop-at-preserved-then-count-room
loop-at-preserved-then-count-room c =
    let l = c.loop-at in
    unpacked_on c.args.row c.args.seg.now l.out c.unpack_first.new.out l.at c.in-Some.len l.done l.room _ c.in-Some.count l.invariant c.in-Some.ensures.first c.unpack_first.auto.out
    (room_left c.args.row l.done l.room c.in-Some.count l.invariant.has c.if-count-room.true)

pub loop-at-preserved : goal.loop-at-preserved
loop-at-preserved c =
    let l = c.loop-at in
    let first = c.in-Some.ensures.first in
    unpacked_on c.args.row c.args.seg.now l.out c.unpack_first.new.out l.at c.in-Some.len l.done l.room _ c.in-Some.count l.invariant first c.unpack_first.auto.out
    (room_next c.args.row l.done l.room c.in-Some.count l.invariant.has first.1 c.if-count-room.false)

pub returns-then-done-out-clause-refused : goal.returns-then-done-out-clause-refused
returns-then-done-out-clause-refused c =
    let seg = c.args.seg.now in
    let out = c.loop-at.out in
    let done = c.loop-at.done in
    let kept = c.loop-at.invariant in
    let size : length (take done out) ≡ done = length-take-le done out kept.fits in
    let whole : take c.loop-at.at seg ≡ seg = take_all c.loop-at.at seg c.loop-at-test.false in (
      refl,
      not_filled c.law_one_text.ensures.text c.args.row seg (take done out) (length c.args.out.now) (subst (λ b. Packs c.args.row b (take done out)) whole kept.packs)
          (omega (arith, size, c.if-done-out.true, c.loop-at.auto.out)),
    )

use Rattle.std.proofs.Common.{arith, subst, drop}
use Rattle.reference_support.specs.Unpacking.{PushesNext}
use Rattle.reference_support.proofs.UnpackingLemmas.{rest_of, unpacked_more}
use Rattle.reference_support.proofs.PacketLemmas.{not_packed}
use Rattle.reference_support.proofs.packets.unpack.Goals as goal

pub loop-at-preserved : goal.loop-at-preserved
loop-at-preserved c = unpacked_more c.args.row c.args.bytes.now c.loop-at.at c.in-Some.len _ _ c.loop-at.invariant
    (subst (PushesNext c.args.row (drop c.loop-at.at c.args.bytes.now) c.loop-at.out.items c.push_packet.new.out.items) c.in-Some.is
    (subst (λ bs. PushesNext c.args.row bs c.loop-at.out.items c.push_packet.new.out.items c.in_ok-len.field-0) (rest_of c.args.bytes.now c.loop-at.at) c.in_ok-len.ensures))

pub returns-in-None-clause-refused : goal.returns-in-None-clause-refused
returns-in-None-clause-refused c = not_packed c.law_one_text.ensures.packet c.args.row c.loop-at.at c.args.bytes.now c.loop-at.out.items c.loop-at.invariant (omega (arith, c.loop-at-test.true))
    (subst (PushesNext c.args.row (drop c.loop-at.at c.args.bytes.now) c.loop-at.out.items c.push_packet.new.out.items) c.in-None.is
    (subst (λ bs. PushesNext c.args.row bs c.loop-at.out.items c.push_packet.new.out.items c.in_ok-len.field-0) (rest_of c.args.bytes.now c.loop-at.at) c.in_ok-len.ensures))

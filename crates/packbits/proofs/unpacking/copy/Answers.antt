use Rattle.std.proofs.Common.{◌∙◌, sym, arith}
use Rattle.std.proofs.lemmas.List.{take-take, length-take-le}
use Rattle.packbits.proofs.AtOnce.{front}
use Rattle.packbits.proofs.unpacking.copy.Goals as goal

pub copy_from_slice-requires : goal.copy_from_slice-requires
copy_from_slice-requires c =
    length-take-le 16 c.args.out.now (omega (arith, c.requires.room)) ∙ sym (length-take-le 16 c.args.bytes.now (omega (arith, c.requires.there)))

pub returns-then-len-le-AT_ONCE : goal.returns-then-len-le-AT_ONCE
returns-then-len-le-AT_ONCE c =
    let few = c.if-len-le-AT_ONCE.true in
    let done = c.copy_from_slice in
    front c.args.len 16 c.args.out.now done.new.self _ few (omega (arith, c.requires.room)) done.ensures.len done.ensures.after
    ∙ take-take c.args.len 16 c.args.bytes.now few

pub returns-else-len-le-AT_ONCE : goal.returns-else-len-le-AT_ONCE
returns-else-len-le-AT_ONCE c =
    let few = c.requires.few in
    let done = c.copy_from_slice-else-len-le-AT_ONCE in
    front c.args.len 128 c.args.out.now done.new.self _ few c.requires.room done.ensures.len done.ensures.after
    ∙ take-take c.args.len 128 c.args.bytes.now few

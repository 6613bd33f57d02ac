use Rattle.std.proofs.Common.{◌∙◌, arith}
use Rattle.std.proofs.lemmas.List.{take-replicate}
use Rattle.packbits.proofs.AtOnce.{front}
use Rattle.packbits.proofs.unpacking.repeat.Goals as goal

pub returns-then-times-le-AT_ONCE : goal.returns-then-times-le-AT_ONCE
returns-then-times-le-AT_ONCE c =
    let few = c.if-times-le-AT_ONCE.true in
    front c.args.times 16 c.args.out.now c.copy_from_slice.new.self _ few (omega (arith, c.requires.room)) c.copy_from_slice.ensures.len c.copy_from_slice.ensures.after
    ∙ take-replicate c.args.times 16 c.args.byte few

pub returns-else-times-le-AT_ONCE : goal.returns-else-times-le-AT_ONCE
returns-else-times-le-AT_ONCE c =
    let done = c.copy_from_slice-else-times-le-AT_ONCE in
    front c.args.times 128 c.args.out.now done.new.self _ c.requires.few c.requires.room done.ensures.len done.ensures.after
    ∙ take-replicate c.args.times 128 c.args.byte c.requires.few

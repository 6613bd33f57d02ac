use Rattle.std.proofs.Common.{◌+◌, take, sym, ap, ◌∙◌, arith}
use Rattle.std.proofs.lemmas.List.{take_rest}
use Rattle.packbits.proofs.First.{copied_first, repeated_first}
use Rattle.packbits.proofs.unpacking.unpack_next.Goals as goal

pub returns-else-len-room-clause-first : goal.returns-else-len-room-clause-first
returns-else-len-room-clause-first c =
    let head = c.from-head.result in
    let low = c.if-head-lt-NO_OP.true in (
      omega (arith, c.requires.there, low),
      omega (arith, c.if-len-room.false),
      omega (arith, c.requires.fits, low),
      copied_first c.args.bytes.now _ head (sym c.from-head.ensures) low (omega (arith, c.requires.there, low))
          (c.copy.ensures ∙ ap (take (head + 1)) (take_rest c.args.bytes.now 1)),
    )

pub returns-else-times-room-clause-first : goal.returns-else-times-room-clause-first
returns-else-times-room-clause-first c =
    let head = c.from-head.result in
    let high = c.if-head-gt-NO_OP.true in (
      omega (arith, c.requires.there),
      omega (arith, c.if-times-room.false),
      omega (arith, c.requires.fits, high),
      repeated_first c.args.bytes.now _ head (sym c.from-head.ensures) high (omega (arith, c.type_inv.bytes 0, c.from-head.ensures)) (omega (arith, c.requires.there))
          c.repeat.ensures,
    )

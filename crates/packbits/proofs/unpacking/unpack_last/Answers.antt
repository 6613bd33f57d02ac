use Rattle.std.proofs.Common.{◌+◌, ◌-◌, ◌≤◌, length, take, sym, ap, ◌∙◌, arith}
use Rattle.std.proofs.lemmas.List.{take_rest}
use Rattle.packbits.proofs.First.{copied_first, repeated_first}
use Rattle.packbits.proofs.unpacking.unpack_last.Goals as goal

pub returns-else-len-bytes-clause-first : goal.returns-else-len-bytes-clause-first
returns-else-len-bytes-clause-first c =
    let head = c.from-head.result in
    let room : head + 1 ≤ length c.args.out.now = omega (arith, c.min-room.ensures, c.if-len-room.false) in (
      omega (arith, c.if-len-bytes.false),
      omega (arith, c.min-room.ensures, c.if-len-room.false),
      room,
      copied_first c.args.bytes.now _ head (sym c.from-head.ensures) c.if-head-lt-NO_OP.true c.if-len-bytes.false
          (c.copy_last.ensures ∙ ap (take (head + 1)) (take_rest c.args.bytes.now 1)),
    )

pub returns-else-bytes-lt2-clause-first : goal.returns-else-bytes-lt2-clause-first
returns-else-bytes-lt2-clause-first c =
    let head = c.from-head.result in
    let room : 257 - head ≤ length c.args.out.now = omega (arith, c.min-room.ensures, c.if-times-room.false) in (
      c.if-bytes-lt2.false,
      omega (arith, c.min-room.ensures, c.if-times-room.false),
      room,
      repeated_first c.args.bytes.now _ head (sym c.from-head.ensures) c.if-head-gt-NO_OP.true (omega (arith, c.type_inv.bytes 0, c.from-head.ensures)) c.if-bytes-lt2.false
          c.repeat_last.ensures,
    )

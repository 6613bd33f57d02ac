use Rattle.std.proofs.Common.{sym, ◌∙◌}
use Rattle.known_fields.proofs.NumberLemmas.{order_read, order_unknown}
use Rattle.known_fields.proofs.numbers.order_in.Goals as goal

pub returns-then-not-copy_known : goal.returns-then-not-copy_known
returns-then-not-copy_known g c =
    order_unknown (g.B.KnownBytes.is_of c.args.bytes.now) (g.B.KnownBytes.is_known c.args.bytes.now) (sym c.copy_known.ensures.exact ∙ c.if-not-copy_known.true)

pub returns : goal.returns
returns g c =
    order_read (g.B.KnownBytes.is_of c.args.bytes.now) (g.B.KnownBytes.is_known c.args.bytes.now) c.copy_known.new.out _
    (sym c.copy_known.ensures.exact ∙ c.if-not-copy_known.false) (c.copy_known.ensures.slice c.if-not-copy_known.false) c.order_named.ensures

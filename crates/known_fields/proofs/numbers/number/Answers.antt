use Rattle.std.proofs.Common.{sym, ◌∙◌}
use Rattle.known_fields.proofs.NumberLemmas.{front, number_read, number_unknown}
use Rattle.known_fields.proofs.numbers.number.Goals as goal

pub returns-then-not-copy_known-clause-number : goal.returns-then-not-copy_known-clause-number
returns-then-not-copy_known-clause-number g c =
    number_unknown (g.B.KnownBytes.is_of c.args.bytes.now) (g.B.KnownBytes.is_known c.args.bytes.now) c.args.at c.args.size _
    (sym c.copy_known.ensures.exact ∙ c.if-not-copy_known.true) (front c.args.size _ c.requires.few) c.requires.some

pub returns-clause-number : goal.returns-clause-number
returns-clause-number g c =
    number_read (g.B.KnownBytes.is_of c.args.bytes.now) (g.B.KnownBytes.is_known c.args.bytes.now) c.args.order c.args.at c.args.size _ _ c.copy_known.new.out c.requires.named
    (c.copy_known.ensures.slice c.if-not-copy_known.false) (front c.args.size _ c.requires.few) c.copy_known.auto.out c.number_in.ensures.number

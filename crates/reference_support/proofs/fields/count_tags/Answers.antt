use Rattle.std.proofs.Common.{◌+◌, ◌*◌, ◌-◌, ◌∙◌, sym, arith}
use Rattle.reference_support.proofs.EntryLemmas.{counted, not_counted, no_fields, seen_some}
use Rattle.reference_support.proofs.fields.count_tags.Goals as goal
use Rattle.reference_support.proofs.fields.count_tags.Goals.{then-is_some, else-is_some}

pub loop-i-preserved : goal.loop-i-preserved
loop-i-preserved c =
    let at = c.args.first + 12 * c.loop-i.i in
    let n = c.args.entries - c.loop-i.i in
    elim c.if-is_some.branch [
      | then-is_some w ↦
          (let one = counted at (c.args.first + 12 * (c.loop-i.i + 1)) n (c.args.entries - (c.loop-i.i + 1)) c.args.file.now _ (omega arith) (omega arith) c.entry_at-entry.ensures.entry
          (seen_some c.entry_at-entry.result ∙ sym c.is_some.ensures ∙ w.if-is_some.true) in
          (omega (arith, c.loop-i.invariant.0), omega (arith, one, c.loop-i.invariant.1)))
      | else-is_some w ↦
          (let none = not_counted at (c.args.first + 12 * (c.loop-i.i + 1)) n (c.args.entries - (c.loop-i.i + 1)) c.args.file.now _ (omega arith) (omega arith) c.entry_at-entry.ensures.entry
          (seen_some c.entry_at-entry.result ∙ sym c.is_some.ensures ∙ w.if-is_some.false) in
          (omega (arith, c.loop-i.invariant.0), omega (arith, none, c.loop-i.invariant.1)))
    ]

pub returns : goal.returns
returns c = let none = no_fields (c.args.first + 12 * c.loop-i.i) (c.args.entries - c.loop-i.i) c.args.file.now (omega arith) in omega (arith, none, c.loop-i.invariant.1)

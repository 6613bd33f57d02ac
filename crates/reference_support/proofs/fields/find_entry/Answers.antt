use Rattle.std.proofs.Common.{◌+◌, ◌*◌, ◌-◌, ◌∙◌, sym, arith}
use Rattle.reference_support.proofs.EntryLemmas.{passed, here, none_of, seen_tag}
use Rattle.reference_support.proofs.fields.find_entry.Goals as goal

pub loop-i-preserved : goal.loop-i-preserved
loop-i-preserved c =
    let at = c.args.first + 12 * c.loop-i.i in
    passed at _ (c.args.entries - c.loop-i.i) _ c.args.tag c.args.file.now _ (omega arith) (omega arith) c.entry_at-entry.ensures.entry
    (seen_tag c.args.tag c.entry_at-entry.result ∙ sym c.has_tag.ensures ∙ c.if-has_tag.false) ∙ c.loop-i.invariant

pub returns-then-has_tag-clause-found : goal.returns-then-has_tag-clause-found
returns-then-has_tag-clause-found c =
    let at = c.args.first + 12 * c.loop-i.i in
    here at (c.args.entries - c.loop-i.i) c.args.tag c.args.file.now _ (c.args.entries - (c.loop-i.i + 1)) (omega arith) c.entry_at-entry.ensures.entry
    (seen_tag c.args.tag c.entry_at-entry.result ∙ sym c.has_tag.ensures ∙ c.if-has_tag.true) ∙ c.loop-i.invariant

pub returns-clause-found : goal.returns-clause-found
returns-clause-found c = sym (none_of _ _ c.args.tag c.args.file.now (omega arith)) ∙ c.loop-i.invariant

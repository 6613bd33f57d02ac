use Rattle.std.proofs.Common.{sym, ◌∙◌, arith}
use Rattle.http_fields.proofs.FieldLemmas.{get_here, get_later, get_other}
use Rattle.http_fields.proofs.fields.nth_value.Goals as goal
use Rattle.http_fields.proofs.fields.nth_value.Goals.{then-is_named+else-left-eq0, else-is_named}

pub returns-then-left-eq0 : goal.returns-then-left-eq0
returns-then-left-eq0 c =
    rw c.of.ensures (sym (c.loop-span.invariant ∙ get_here _ _ _ _ _ c.loop-span-test.true _ (sym c.is_named.ensures ∙ c.if-is_named.true) c.if-left-eq0.true))

pub loop-span-preserved : goal.loop-span-preserved
loop-span-preserved c =
    c.loop-span.invariant ∙ elim c.if-is_named.branch [
      | then-is_named+else-left-eq0 w ↦ rw w.left-is (get_later _ _ _ _ _ c.loop-span-test.true _ (sym c.is_named.ensures ∙ w.if-is_named.true) (omega arith))
      | else-is_named w ↦ rw w.left-is (get_other _ _ _ _ _ c.loop-span-test.true _ (sym c.is_named.ensures ∙ w.if-is_named.false))
    ]

use Rattle.http_fields.proofs.KeptLemmas.{written_more}
use Rattle.http_fields.proofs.request_fields.push_fields.Goals as goal

pub loop-field-preserved : goal.loop-field-preserved
loop-field-preserved c =
    written_more c.args.fields.now c.loop-field.field-index c.field-item.result _ _ _ c.loop-field-test.true c.field-item.is c.loop-field.invariant
    c.in_ok-push_field.ensures

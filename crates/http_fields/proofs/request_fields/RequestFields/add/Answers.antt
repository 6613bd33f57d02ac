use Rattle.std.proofs.Common.{◌≡◌, List, None, subst, sym}
use Rattle.http_fields.specs.Text.{FieldLine}
use Rattle.http_fields.specs.FieldRefusal.{field_refusal}
use Rattle.http_fields.specs.declared.request_fields.RequestField.{RequestField}
use Rattle.http_fields.proofs.KeptLemmas.{kept_more}
use Rattle.http_fields.proofs.request_fields.RequestFields.add.Goals as goal

pub invariant_of-self-2 : goal.invariant_of-self-2
invariant_of-self-2 c =
    let name = c.args.name.now in
    let value = c.args.value.now in
    let none = subst (λ (lines : List FieldLine). field_refusal lines (name, value) ≡ None) (sym c.self.view_is) c.requires in
    let field : RequestField = record { name = c.in_ok-from_slice.field-0; value = c.in_ok-from_slice-2.field-0 } in
    let both =
    kept_more c.self.inside.fields.items c.push.new.self.items field name value c.self.inside.size c.in_ok-push.ensures.items
    c.in_ok-from_slice.ensures.items c.in_ok-from_slice-2.ensures.items c.self.invariant.lines c.self.invariant.size none in
    record { lines = both.0; size = both.1 }

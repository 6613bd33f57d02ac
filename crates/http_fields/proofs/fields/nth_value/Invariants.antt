use Rattle.std.proofs.Common.{◌≡◌}
use Rattle.std.specs.Prelude.{slice_get}
use Rattle.http_fields.proofs.FieldLemmas.{values_from}
use Rattle.http_fields.proofs.fields.nth_value.Given as goal

abbrev pub invariant-loop-span : goal.invariant-loop-span
invariant-loop-span l =
    slice_get (values_from l.name l.bytes l.spans 0) l.i ≡ slice_get (values_from l.name l.bytes l.spans l.span-index) l.left

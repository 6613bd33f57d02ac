use Rattle.std.proofs.Common.{◌≡◌}
use Rattle.std.specs.List.{list_any}
use Rattle.http_fields.specs.Members.{has_member}
use Rattle.http_fields.proofs.FieldLemmas.{values_from}
use Rattle.http_fields.proofs.fields.any_has_member.Given as goal

abbrev pub invariant-loop-span : goal.invariant-loop-span
invariant-loop-span l =
    list_any (has_member l.word) (values_from l.name l.bytes l.spans 0) ≡ list_any (has_member l.word) (values_from l.name l.bytes l.spans l.span-index)

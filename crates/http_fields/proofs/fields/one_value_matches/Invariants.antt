use Rattle.std.proofs.Common.{◌≡◌}
use Rattle.std.specs.List.{list_any}
use Rattle.http_fields.specs.Conditional.{any_match}
use Rattle.http_fields.proofs.FieldLemmas.{values_from}
use Rattle.http_fields.proofs.fields.one_value_matches.Given as goal

abbrev pub invariant-loop-span : goal.invariant-loop-span
invariant-loop-span l =
    list_any (λ value. any_match value l.tag l.strong) (values_from l.name l.bytes l.spans 0) ≡ list_any (λ value. any_match value l.tag l.strong) (values_from l.name l.bytes l.spans l.span-index)

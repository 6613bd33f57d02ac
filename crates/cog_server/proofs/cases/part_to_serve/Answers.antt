use Rattle.std.proofs.Common.{sym, subst}
use Rattle.http_range.specs.declared.range.Resolved.{Resolved}
use Rattle.http_range.specs.Range.{range_spec}
use Rattle.cog_server.specs.Place.{IsInside}
use Rattle.cog_server.proofs.PlaceLemmas.{value_inside}
use Rattle.cog_server.proofs.cases.part_to_serve.Goals as goal

pub returns-in-Some-clause-inside : goal.returns-in-Some-clause-inside
returns-in-Some-clause-inside c =
    let text = c.in-Some.value.now in
    let P : Resolved → Type 0 = λ r. IsInside r c.args.length in
    subst P (sym (c.resolve.ensures.of_text text c.read_range.ensures.value))
    (value_inside text c.args.length (range_spec text) c.requires (λ spec is. (c.read_range.ensures.forms spec).0 is))

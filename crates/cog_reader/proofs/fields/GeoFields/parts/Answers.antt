use Rattle.std.proofs.Common.{ap, subst, ◌∙◌, length}
use Rattle.std.proofs.lemmas.List.{take_all}
use Rattle.std.proofs.Common.{arith}
use Rattle.cog_reader.specs.GeoFields.{FieldsState, present_in, total, AreFieldParts}
use Rattle.cog_reader.proofs.FieldLemmas.{all_parts}
use Rattle.cog_reader.proofs.fields.GeoFields.parts.Goals as goal

pub returns-clause-parts : goal.returns-clause-parts
returns-clause-parts c =
    let g = c.self.inside.places in
    let inv = c.self.invariant in
    let given = ap (λ (r : FieldsState). r.given) c.self.view_is ∙ c.requires in
    let whole = inv.whole ∙ ap total (take_all c.self.inside.given (present_in g) (omega (arith, given, ap (λ (r : FieldsState). length (present_in r.places)) c.self.view_is))) in
    subst (λ (r : FieldsState). AreFieldParts r.places r.bytes c.cut.result.0.now c.cut-2.result.0.now c.cut-3.result.0.now c.cut-4.result.0.now c.cut-5.result.0.now c.cut-6.result.0.now) c.self.view_is
    (subst (λ bytes. AreFieldParts g bytes c.cut.result.0.now c.cut-2.result.0.now c.cut-3.result.0.now c.cut-4.result.0.now c.cut-5.result.0.now c.cut-6.result.0.now) c.deref.ensures.value
    (all_parts g c.deref.result.now c.cut.result.0.now c.cut.result.1.now c.cut-2.result.0.now c.cut-2.result.1.now c.cut-3.result.0.now c.cut-3.result.1.now c.cut-4.result.0.now c.cut-4.result.1.now c.cut-5.result.0.now c.cut-5.result.1.now c.cut-6.result.0.now c.cut-6.result.1.now
    (ap length c.deref.ensures.value ∙ whole) c.cut.ensures.front c.cut.ensures.rest c.cut-2.ensures.front c.cut-2.ensures.rest c.cut-3.ensures.front c.cut-3.ensures.rest c.cut-4.ensures.front c.cut-4.ensures.rest c.cut-5.ensures.front c.cut-5.ensures.rest c.cut-6.ensures.front))

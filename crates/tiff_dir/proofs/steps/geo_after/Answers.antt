use Rattle.std.proofs.Common.{◌≡◌, ◌+◌, ◌*◌, length, subst}
use Rattle.tiff_dir.specs.declared.stage.Stage.{Stage}
use Rattle.tiff_dir.specs.Stage.{range_of}
use Rattle.std.specs.Prelude.{IsSomeAnd}
use Rattle.tiff_dir.proofs.GeoLemmas.{geo_taken}
use Rattle.tiff_dir.proofs.steps.geo_after.Goals as goal

pub returns-in-Table-clause-taken : goal.returns-in-Table-clause-taken
returns-in-Table-clause-taken c = λ first f here part.
    let w = c.in-Table in
    let P : Stage → Type 0 = λ s. IsSomeAnd (range_of s) (λ r. length c.args.bytes.now ≡ r.len) in
    let len : length c.args.bytes.now ≡ 12 * w.entries + 4 = subst P w.is c.requires.whole in
    geo_taken f c.args.bytes.now c.args.stage w.order w.index w.at w.entries c.of.result w.is c.if-index-eq0.true c.of.ensures.entries len here part

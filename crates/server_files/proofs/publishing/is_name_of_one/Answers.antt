use Rattle.std.proofs.Common.{◌∙◌, refl, sym}
use Rattle.std.proofs.lemmas.Slice.Eq.{bytes_eq-Decides}
use Rattle.server_files.proofs.PublishingLemmas.{name_below, name_there, none_then}
use Rattle.server_files.proofs.publishing.is_name_of_one.Goals as goal

pub returns-then-eq : goal.returns-then-eq
returns-then-eq c =
    let files = c.args.files.now in
    let k = c.loop-file.file-index in (
      (λ _. (
        k,
        name_below files k c.loop-file-test.true,
        name_there files k _ c.args.name.now c.loop-file-test.true ∙ (bytes_eq-Decides _ c.args.name.now).0 (sym c.if-eq.ensures),
      )),
      (λ _. refl),
    )

pub loop-file-preserved : goal.loop-file-preserved
loop-file-preserved c = record {
  files = refl;
  none = none_then c.args.files.now c.loop-file.file-index _ c.args.name.now c.loop-file-test.true c.if-eq.ensures c.loop-file.invariant.none;
}

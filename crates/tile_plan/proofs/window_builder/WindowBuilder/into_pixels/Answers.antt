use Rattle.std.proofs.Common.{◌≡◌, ◌+◌, ◌*◌, ◌≤◌, length, sym, subst, ap, ◌∙◌}
use Rattle.std.proofs.lemmas.List.{with_items_is}
use Rattle.tiff_dir.specs.Number.{number_in}
use Rattle.tiff_dir.specs.Profile.{sample_bytes}
use Rattle.tiff_dir.specs.Window.{HasSamples}
use Rattle.tile_plan.specs.Levels.{rectangle_of}
use Rattle.tile_plan.specs.WindowBuilder.{WindowState}
use Rattle.tile_plan.specs.Samples.{samples_in}
use Rattle.tile_plan.proofs.WindowSamples.{window_is}
use Rattle.tile_plan.proofs.window_builder.WindowBuilder.into_pixels.Goals as goal

pub returns-clause-samples : goal.returns-clause-samples
returns-clause-samples c f q u done =
    let a = c.args.arrays.now in
    let old = c.into_data-bytes.result in
    let new = c.big_first.new.bytes in
    let whole = with_items_is old new (c.big_first.ensures.len ∙ ap length c.deref_mut.ensures.value ∙ sym old.ok.0) in
    let bytes : c.deref_mut.result.now ≡ c.args.self.picture.bytes = c.deref_mut.ensures.value ∙ c.into_data-bytes.ensures ∙ ap (λ (w : WindowState). w.picture.bytes) c.self.view_is in
    subst (λ l. HasSamples f (rectangle_of c.args.self.picture.rectangle) (samples_in a.level.bits l)) (sym whole)
    (window_is f q a c.args.self new c.law_tiles_cover.ensures u done (c.big_first.ensures.len ∙ ap length bytes)
    (λ k fits. c.big_first.ensures.samples k (subst (λ l. k * sample_bytes a.level.bits + sample_bytes a.level.bits ≤ length l) (sym bytes) fits)
    ∙ ap (number_in a.order (k * sample_bytes a.level.bits) (sample_bytes a.level.bits)) bytes))

use Rattle.std.proofs.Common.{◌≡◌, ◌*◌, ap, sym, ◌∙◌}
use Rattle.tiff_dir.specs.Profile.{sample_bytes}
use Rattle.tile_plan.specs.declared.asked.Rectangle.{Rectangle}
use Rattle.tile_plan.specs.Levels.{rectangle_of}
use Rattle.tile_plan.specs.Samples.{samples_in}
use Rattle.cog_reader.proofs.SoundLemmas.{whole_window}
use Rattle.cog_reader.proofs.state.tiles.into_window.Goals as goal

pub returns-clause-window : goal.returns-clause-window
returns-clause-window c f q u done clean =
    let a = c.args.arrays.now in
    let m = c.args.builder in record {
      window = whole_window f q a m (samples_in a.level.bits c.into_pixels.result.items) u (c.law_all_are_painted.ensures f q a m u done) clean (c.into_pixels.ensures.samples f q u done);
      asked = rectangle_of m.picture.rectangle;
      asked_is = u.planned.rectangle_is;
      width = ap (λ (r : Rectangle). r.w) c.rectangle-w.ensures;
      height = ap (λ (r : Rectangle). r.h) c.rectangle-w.ensures;
      samples = u.planned.described.samples;
      bits = u.planned.described.bits;
      size = c.into_pixels.ensures.size f q u ∙ u.size ∙ ap (λ (r : Rectangle). r.w * r.h * (a.level.samples * sample_bytes a.level.bits)) (sym c.rectangle-w.ensures);
    }

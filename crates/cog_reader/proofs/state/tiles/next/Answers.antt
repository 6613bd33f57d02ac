use Rattle.std.proofs.Common.{refl}
use Rattle.cog_reader.specs.declared.kept_arrays.KeptArrays.TheVariants.{Both}
use Rattle.cog_reader.specs.declared.state.State.TheVariants.{Tiles}
use Rattle.cog_reader.proofs.FirstLemmas.{tiles_wanted}
use Rattle.cog_reader.proofs.StepLemmas.{becomes_same, becomes_window_done}
use Rattle.cog_reader.proofs.state.tiles.next.Goals as goal

pub returns-in-Some-clause-step : goal.returns-in-Some-clause-step
returns-in-Some-clause-step c file_length n w q ended plan =
    let a = c.args.arrays.now in (
      becomes_same file_length w (Both n a) q (Tiles c.args.builder) (ended, plan),
      tiles_wanted file_length w (Both n a) a c.args.builder c.in-Some.span plan c.in-Some.ensures,
    )

pub returns-in-None-clause-step : goal.returns-in-None-clause-step
returns-in-None-clause-step c file_length n w q ended plan =
    becomes_window_done file_length w (Both n c.args.arrays.now) n c.args.arrays.now q c.args.builder c.into_window.result refl c.in-None.ensures (λ f q u all clean. c.into_window.ensures.window f q u all clean)

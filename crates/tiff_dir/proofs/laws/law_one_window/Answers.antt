use Rattle.tiff_dir.proofs.WindowLemmas.{window_once}
use Rattle.tiff_dir.proofs.laws.law_one_window.Goals as goal

pub returns : goal.returns
returns c = record { window = window_once }

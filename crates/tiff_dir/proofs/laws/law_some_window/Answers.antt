use Rattle.tiff_dir.proofs.Existence.{law_some_window}
use Rattle.tiff_dir.proofs.laws.law_some_window.Goals as goal

pub returns : goal.returns
returns c = record { window = law_some_window }

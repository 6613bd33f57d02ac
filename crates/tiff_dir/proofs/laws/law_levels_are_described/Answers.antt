use Rattle.std.proofs.Common.{ap, ◌∙◌}
use Rattle.std.specs.Option.{option_map}
use Rattle.tiff_dir.specs.Described.{layout_of}
use Rattle.tiff_dir.proofs.Told.{layout_number}
use Rattle.tiff_dir.proofs.TileValues.{described_by}
use Rattle.tiff_dir.proofs.laws.law_levels_are_described.Goals as goal

pub returns : goal.returns
returns c = record { described = λ f levels n l are is. described_by f n l (layout_number f levels n are ∙ ap (option_map layout_of) is) }

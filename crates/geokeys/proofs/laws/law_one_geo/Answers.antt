use Rattle.geokeys.proofs.Unique.{law_one_geo}
use Rattle.geokeys.proofs.laws.law_one_geo.Goals as goal

pub returns : goal.returns
returns c = record { keys = law_one_geo }

use Rattle.tiff_dir.proofs.Told.{come_end, ended_come, ended_clean}
use Rattle.tiff_dir.proofs.laws.law_what_comes.Goals as goal

pub returns : goal.returns
returns c = record { end = come_end; over = ended_come; clean = λ w f told ended. ended_clean w f ended told }

use Rattle.programs.proofs.PrintedLemmas.{unwritten}
use Rattle.programs.proofs.cogworld.write_log.Goals as goal

pub returns-clause-err : goal.returns-clause-err
returns-clause-err g c = unwritten _ _ _ c.of_writing.ensures.kinds

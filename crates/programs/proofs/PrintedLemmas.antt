-- Why no log is printed.
use Rattle.std.proofs.Common.{ℕ, List}
use Rattle.scripts.specs.Script.{Finds}
use Rattle.programs.specs.declared.exit.Exit.{Exit}
use Rattle.programs.specs.declared.exit.Exit.TheVariants.{Script}
use Rattle.programs.specs.Printed.{IsUnprinted}
use Rattle.programs.specs.Status.{IsOfWriting}

-- nothing can be written
pub unwritten : (finds : Finds) (script : List ℕ) (fault : Exit) → IsOfWriting fault → IsUnprinted finds script fault
unwritten finds script (Script error) is = absurd is
unwritten finds script fault is = is

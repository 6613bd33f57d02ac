-- The names of the programs.
use Rattle.std.specs.Prelude.{◌≢◌, ℕ, List, codes}
use Rattle.programs.specs.declared.command.Program.{Program}
use Rattle.programs.specs.declared.command.Program.TheVariants.{Cogread, Cogserve, Cogworld}

abbrev pub name_of : Program → List ℕ
name_of Cogread = codes "cogread"
name_of Cogserve = codes "cogserve"
name_of Cogworld = codes "cogworld"

-- the text is no program's name
abbrev pub NamesNone : List ℕ → Type 0
NamesNone name = (program : Program) → name ≢ name_of program

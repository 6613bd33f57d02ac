-- A walk that is given the ranges of a whole file.
use Rattle.std.specs.Prelude.{ℕ, ◌<◌, List, length, Result, Ok, Err}
use Rattle.tiff_dir.specs.declared.walk.Walk.{Walk}
use Rattle.tiff_dir.specs.declared.fault.FileFault.{FileFault}
use Rattle.tiff_dir.specs.Fault.{IsFaultOfDirectories}
use Rattle.tiff_dir.specs.Walk.{WalkAgrees, HasEnded, to_come}
use Rattle.reference_support.specs.declared.course.Next.{Next}
use Rattle.reference_support.specs.declared.course.Next.TheVariants.{Went, Ended, Refused}

-- The walk went on by a range, has ended, or stopped at a fault of the file.
abbrev pub IsNext : List ℕ → Walk → Walk → Next → Type 0
IsNext f old new (Went span) = WalkAgrees new f × (length (to_come new f) < length (to_come old f))
IsNext f old new Ended = WalkAgrees new f × HasEnded new
IsNext f old new (Refused fault) = IsFaultOfDirectories f fault

-- The walk went over the whole file, or stopped at a fault of it.
abbrev pub IsWalked : List ℕ → Result Walk FileFault → Type 0
IsWalked f (Ok walk) = WalkAgrees walk f × HasEnded walk
IsWalked f (Err fault) = IsFaultOfDirectories f fault

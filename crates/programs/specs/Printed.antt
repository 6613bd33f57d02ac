-- What `cogworld` prints of a script.
use Rattle.std.specs.Prelude.{◌≡◌, ℕ, List, [], Result, OnErr, OnOk}
use Rattle.cog_client.specs.Client.{ClientState}
use Rattle.world.specs.declared.event.Event.{Event}
use Rattle.world.specs.declared.event.Entry.{Entry}
use Rattle.world.specs.Run.{IsBeginning, Runs}
use Rattle.world.specs.World.{AreAlike, AtEach, IsTrueEntry, start}
use Rattle.world.specs.Progress.{AllReport, IsNeededEntry}
use Rattle.scripts.specs.Line.{IsScriptFault}
use Rattle.scripts.specs.Script.{AreEvents, Finds, lines}
use Rattle.scripts.specs.LogText.{text_of_log}
use Rattle.programs.specs.declared.exit.Exit.{Exit}
use Rattle.programs.specs.declared.exit.Exit.TheVariants.{Script}
use Rattle.programs.specs.Status.{IsOfWriting}

-- The text is that of a log: of a run of the events that the script's lines are, with the files that were found. Each report in the log is
-- true of one file. Reports of one ETag and one query say the same. Each request is for what its query needs, and a report comes by its
-- cost. If memory ran out for the run, it is such a log of the first events.
pub record IsPrinted {A E : Type 0} (finds : Finds) (script : List ℕ) (ran : Result A E) (printed : List ℕ) : Type 0 where
  pub events : List Event
  pub entries : List Entry
  pub clients : List ClientState
  pub reads : AreEvents finds (lines script) events
  pub logged : OnOk ran (Runs start [] events entries clients)
  pub true_reports : OnOk ran (AtEach IsTrueEntry start events entries)
  pub alike : OnOk ran (AreAlike entries)
  pub needed : OnOk ran (AtEach IsNeededEntry start events entries)
  pub progress : OnOk ran (AllReport events entries)
  pub memory : OnErr ran (IsBeginning events entries clients)
  pub text : printed ≡ text_of_log entries

-- No log is printed. The script isn't read, for this fault of it, or nothing can be written, or memory ran out.
abbrev pub IsUnprinted : Finds → (script : List ℕ) → Exit → Type 0
IsUnprinted finds script (Script fault) = IsScriptFault finds script fault
IsUnprinted finds script fault = IsOfWriting fault

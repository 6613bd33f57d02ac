-- The exit statuses of faults.
use Rattle.std.specs.Prelude.{◌≡◌, ◌≢◌, ◌⊎◌, ℕ, Bool, true, false, Option, Some, None, ⊤}
use Rattle.std.specs.declared.io.Error.{Error}
use Rattle.clap.specs.Words.{kind_of}
use Rattle.clap.specs.declared.error.kind.ErrorKind.{ErrorKind}
use Rattle.clap.specs.declared.error.kind.ErrorKind.TheVariants as kind
use Rattle.scripts.specs.declared.line.ScriptError.TheVariants as script
use Rattle.read_command.specs.declared.error.ReadError.{ReadError}
use Rattle.read_command.specs.declared.error.ReadError.TheVariants as reading
use Rattle.read_progress.specs.declared.noted.Came.{Came}
use Rattle.read_progress.specs.declared.noted.Came.TheVariants as came
use Rattle.programs.specs.declared.exit.Exit.{Exit}
use Rattle.programs.specs.declared.exit.Exit.TheVariants.{NotText, NotAProgram, CommandLine, NotANumber, OutOfRange, Negative, NamesNoFile, NotACoordinate, NoRectangle, NoWindow, NoWorld, NotAFile, NotAnOrigin, OneName, NoClock, Script}
use Rattle.programs.specs.declared.exit.Exit.TheVariants.{RefusedClient, NotAFileUrl, RefusedUrl, NoFieldLine, NotAField, OfFile, Explained, NoReport, NoConnection, NoAnswer, TooFewRequests, NotUsed, CantRead, CantReadBy, Refused, CantListen, CantListenAt, CantAccept, CantWait, CantWrite, CantWriteFile, Memory, ReaderGone}

-- 0 if help or the version is asked for, and 2 if the words aren't those of the program
abbrev pub line_status : ErrorKind → ℕ
line_status kind.DisplayHelp = 0
line_status kind.DisplayVersion = 0
line_status k = 2

-- 1 for files, sockets, publications and memory. 2 for the command line and scripts. 3 for a fault of the file that is read. 4 if there
-- is no report. To ask for help is no fault.
abbrev pub HasStatus : Exit → ℕ → Type 0
HasStatus NotText n = n ≡ 2
HasStatus (NotAProgram word) n = n ≡ 2
HasStatus (CommandLine error) n = n ≡ line_status (kind_of error)
HasStatus (NotANumber word range) n = n ≡ 2
HasStatus (OutOfRange word range) n = n ≡ 2
HasStatus (Negative word) n = n ≡ 2
HasStatus (NamesNoFile word why) n = n ≡ 2
HasStatus (NotACoordinate word) n = n ≡ 2
HasStatus NoRectangle n = n ≡ 2
HasStatus (NoWindow why) n = n ≡ 2
HasStatus NoWorld n = n ≡ 2
HasStatus (NotAFile word) n = n ≡ 2
HasStatus (NotAnOrigin word) n = n ≡ 2
HasStatus (OneName name first second) n = n ≡ 2
HasStatus (RefusedClient refusal) n = n ≡ 2
HasStatus (NotAFileUrl word error) n = n ≡ 2
HasStatus (RefusedUrl word error) n = n ≡ 2
HasStatus NoFieldLine n = n ≡ 2
HasStatus (NotAField name error) n = n ≡ 2
HasStatus (OfFile fault) n = n ≡ 3
HasStatus (Explained fault) n = n ≡ 3
HasStatus NoReport n = n ≡ 4
HasStatus (NoConnection error) n = n ≡ 4
HasStatus NoAnswer n = n ≡ 4
HasStatus (TooFewRequests requests) n = n ≡ 4
HasStatus (NotUsed why) n = n ≡ 4
HasStatus (Script (script.NotAnEvent line)) n = n ≡ 2
HasStatus (Script (script.CantRead line)) n = n ≡ 1
HasStatus (Script script.Memory) n = n ≡ 1
HasStatus (CantRead path) n = n ≡ 1
HasStatus (CantReadBy path why) n = n ≡ 1
HasStatus (Refused refusal name) n = n ≡ 1
HasStatus NoClock n = n ≡ 1
HasStatus CantListen n = n ≡ 1
HasStatus (CantListenAt place error) n = n ≡ 1
HasStatus CantAccept n = n ≡ 1
HasStatus CantWait n = n ≡ 1
HasStatus CantWrite n = n ≡ 1
HasStatus ReaderGone n = n ≡ 1
HasStatus (CantWriteFile path) n = n ≡ 1
HasStatus Memory n = n ≡ 1

-- the exit status of a program that printed the fault: the fault's status, or 1 for help that was asked for
abbrev pub EndsWith : Exit → ℕ → Type 0
EndsWith fault n = HasStatus fault n ⊎ (HasStatus fault 0 × (n ≡ 1))

-- which of these it is, by whether the line of the fault, or that help, is printed
abbrev pub EndsBy : Bool → Exit → ℕ → Type 0
EndsBy true fault n = HasStatus fault n
EndsBy false fault n = (HasStatus fault n × (n ≢ 0)) ⊎ (HasStatus fault 0 × (n ≡ 1))

-- the fault is that nothing can be written, that nobody reads any more, or that memory ran out
abbrev pub IsOfWriting : Exit → Type 0
IsOfWriting CantWrite = ⊤
IsOfWriting ReaderGone = ⊤
IsOfWriting Memory = ⊤
IsOfWriting fault = ⊥

-- the fault that says why there is no text of a file
abbrev pub exit_of_reading : ReadError → Exit
exit_of_reading (reading.OfFile fault) = OfFile fault
exit_of_reading reading.NoReport = NoReport
exit_of_reading (reading.NotUsed why) = NotUsed why
exit_of_reading (reading.NoWindow why) = NoWindow why
exit_of_reading reading.NoWorld = NoWorld
exit_of_reading reading.Memory = Memory

-- The fault if no report came of all requests to a URL. It says why the last connection wasn't made, or else what the last request brought.
abbrev pub exit_of_last : Came → Option Error → ℕ → Exit
exit_of_last last (Some error) requests = NoConnection error
exit_of_last came.Unsent None requests = NoAnswer
exit_of_last came.Nothing None requests = NoAnswer
exit_of_last (came.NotUsed why) None requests = NotUsed why
exit_of_last (came.Brought head count) None requests = TooFewRequests requests

-- The fault of such an error. If a URL names the file, and there is no report, it goes by the last request.
abbrev pub exit_by_last : ReadError → Bool → Exit → Exit
exit_by_last reading.NoReport true last = last
exit_by_last error is_url last = exit_of_reading error

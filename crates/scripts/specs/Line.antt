-- What parts of lines are read as, which lines aren't read, by their numbers, and what is said of a file that isn't loaded.
use Rattle.std.specs.Prelude.{◌≡◌, ℕ, ⊤, List, [], ◌∷◌, map, codes, Some, None, Result, Ok, Err}
use Rattle.std.specs.Borrow.{Bor}
use Rattle.scripts.specs.declared.line.LineError.{LineError}
use Rattle.scripts.specs.declared.line.LineError.TheVariants as fault
use Rattle.scripts.specs.declared.line.ScriptError.{ScriptError}
use Rattle.scripts.specs.declared.source.LoadError.{LoadError}
use Rattle.scripts.specs.declared.source.LoadError.TheVariants as load
use Rattle.scripts.specs.declared.line.ScriptError.TheVariants.{NotAnEvent, CantRead, Memory}
use Rattle.scripts.specs.Script.{Anything, AreNumbers, number, Finds, IsEvent, IsEventOf, IsFirstRefused, IsNoEvent, IsUnreadable}
use Rattle.tiff_dir.specs.declared.query.Pick.{Pick}
use Rattle.tiff_dir.specs.declared.query.Query.{Query}
use Rattle.tiff_dir.specs.declared.query.Query.TheVariants.{Window, Info}
use Rattle.world.specs.declared.event.Event.{Event}

-- a source without any answer
abbrev pub NoFile : Finds
NoFile _ _ = ⊥

-- the words that are borrowed
abbrev pub texts : List (Bor (List ℕ)) → List (List ℕ)
texts words = map (λ word. word.now) words

-- A part of a line is read as what it is, and is no event only if it is nothing. A lack of memory says nothing.
abbrev pub Reads : {T : Type 0} → (T → Type 0) → Result T LineError → Type 0
Reads IsRead (Ok value) = IsRead value
Reads {T} IsRead (Err fault.NotAnEvent) = (value : T) → ¬ (IsRead value)
Reads IsRead (Err fault.CantRead) = ⊥
Reads IsRead (Err fault.Memory) = ⊤

-- one word, which is this number
abbrev pub IsOnlyNumber : List (List ℕ) → ℕ → Type 0
IsOnlyNumber words n = (N : List ℕ) × (words ≡ N ∷ []) × (number N ≡ Some n)

-- a window of the level that is picked
abbrev pub IsWindow : Pick → List (List ℕ) → Query → Type 0
IsWindow pick sides (Window x y w h chosen) = AreNumbers sides (x ∷ y ∷ w ∷ h ∷ []) × (chosen ≡ pick)
IsWindow pick sides Info = ⊥

-- the same for the words of a line, whose file may be missing
abbrev pub ReadsWords : Finds → List (List ℕ) → Result Event LineError → Type 0
ReadsWords finds words (Ok event) = IsEvent finds words event
ReadsWords finds words (Err fault.NotAnEvent) = (event : Event) → ¬ (IsEvent Anything words event)
ReadsWords finds words (Err fault.CantRead) =
    (NAME PATH : List ℕ) × (words ≡ codes "publish" ∷ NAME ∷ PATH ∷ []) × finds PATH None
ReadsWords finds words (Err fault.Memory) = ⊤

-- the same for a line
abbrev pub ReadsLine : Finds → List ℕ → Result Event LineError → Type 0
ReadsLine finds line (Ok event) = IsEventOf finds line event
ReadsLine finds line (Err fault.NotAnEvent) = IsNoEvent line
ReadsLine finds line (Err fault.CantRead) = IsUnreadable finds line
ReadsLine finds line (Err fault.Memory) = ⊤

-- why a script isn't read
abbrev pub IsScriptFault : Finds → List ℕ → ScriptError → Type 0
IsScriptFault finds text (NotAnEvent line) = IsFirstRefused finds text line IsNoEvent
IsScriptFault finds text (CantRead line) = IsFirstRefused finds text line (IsUnreadable finds)
IsScriptFault finds text Memory = ⊤

abbrev pub told_at : LineError → ℕ → ScriptError
told_at fault.NotAnEvent line = NotAnEvent line
told_at fault.CantRead line = CantRead line
told_at fault.Memory line = Memory

abbrev pub told_of : LoadError → LineError
told_of load.CantRead = fault.CantRead
told_of load.Memory = fault.Memory

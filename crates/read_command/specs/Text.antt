-- What `cogread` writes of a file, and when it is true.
use Rattle.std.specs.Prelude.{◌≡◌, ◌≤◌, max, ℕ, ◌⊎◌, Bool, true, false, List, [], ◌++◌, Option, Some, None, IfSome, IsSome, Result, Ok, Err, is_ok, ⊤}
use Rattle.tiff_dir.specs.declared.query.Query.{Query}
use Rattle.tiff_dir.specs.declared.query.Query.TheVariants.{Window, Info}
use Rattle.tiff_dir.specs.declared.query.Pick.TheVariants.{Level}
use Rattle.tiff_dir.specs.Fault.{sides}
use Rattle.tiff_dir.specs.File.{◌>>=◌}
use Rattle.tiff_dir.specs.Level.{level_directory}
use Rattle.http_range.specs.Book.{Publication, Book, In}
use Rattle.cog_reader.specs.declared.outcome.Info.{Info as Said}
use Rattle.cog_reader.specs.declared.outcome.Outcome.{Outcome}
use Rattle.cog_reader.specs.declared.outcome.Outcome.TheVariants as outcome
use Rattle.cog_reader.specs.Outcome.{IsInfoOf}
use Rattle.cog_client.specs.declared.report.Report.{Report}
use Rattle.cog_client.specs.Report.{IsTrueReport}
use Rattle.text_description.specs.Covering.{window_covering}
use Rattle.text_description.specs.Text.{IsJson, IsLine, NamesTag}
use Rattle.text_description.specs.declared.covering.Bounds.{Bounds}
use Rattle.text_description.specs.declared.description.Form.{Form}
use Rattle.text_description.specs.declared.description.Form.TheVariants.{Json, Words}
use Rattle.text_description.specs.World.{world_file}
use Rattle.text_description.specs.declared.world.WorldFile.{WorldFile}
use Rattle.text_report.specs.InfoText.{IsOfTag}
use Rattle.text_report.specs.Netpbm.{netpbm}
use Rattle.read_command.specs.declared.error.ReadError.{ReadError}
use Rattle.read_command.specs.declared.error.ReadError.TheVariants.{NoReport, NotUsed, NoWindow, NoWorld, OfFile, Memory}
use Rattle.read_command.specs.declared.part.Area.{Area}
use Rattle.read_command.specs.declared.part.Area.TheVariants as area
use Rattle.read_command.specs.declared.part.NotGiven.{NotGiven}
use Rattle.read_command.specs.declared.part.NotGiven.TheVariants as not_given
use Rattle.read_command.specs.declared.part.Part.{Part}
use Rattle.read_command.specs.declared.reading.Asked.{Asked}
use Rattle.read_command.specs.declared.reading.Asked.TheVariants as asked
use Rattle.read_command.specs.declared.text.Text.{Text}
use Rattle.read_command.specs.Part.{part_given}

-- the width and the length of a level, if the file has it
unfoldable pub sides_of_level : List ℕ → ℕ → Option (ℕ × ℕ)
sides_of_level f level = level_directory f level >>= sides f

-- The query is for the whole of a level. If the file doesn't have this level, it is for some window of it, which isn't there either.
pub record IsOfWhole (f : List ℕ) (level : ℕ) (q : Query) : Type 0 where
  pub width : ℕ
  pub height : ℕ
  pub window : q ≡ Window 0 0 width height (Level level)
  pub sides : IfSome (sides_of_level f level) (λ s. s ≡ (width, height))

-- The query is for the window of a level that covers a rectangle, by what Info says of this very file.
pub record IsOfBounds (f : List ℕ) (b : Bounds) (level : ℕ) (q : Query) : Type 0 where
  pub said : Said
  pub holds : IsInfoOf f said
  pub window : window_covering said b level ≡ Ok q

-- The query is for this area of a level of the file.
abbrev pub IsOfArea : List ℕ → Area → (level : ℕ) → Query → Type 0
IsOfArea f area.Whole level q = IsOfWhole f level q
IsOfArea f (area.Bounds b) level q = IsOfBounds f b level q
IsOfArea f (area.Pixels x y w h) level q = q ≡ Window x y w h (Level level)

-- The world file is the window's, by what Info says of this very file, and there is one.
pub record IsWorldFile (f : List ℕ) (q : Query) (world : Option WorldFile) : Type 0 where
  pub said : Said
  pub holds : IsInfoOf f said
  pub of_window : world_file said q ≡ world
  pub there : IsSome world

abbrev pub IsWorldOf : List ℕ → (has_world : Bool) → Query → Option WorldFile → Type 0
IsWorldOf f false q world = world ≡ None
IsWorldOf f true q world = IsWorldFile f q world

abbrev pub IsOfPart : List ℕ → Part → Query → Option WorldFile → Type 0
IsOfPart f part q world = IsOfArea f part.area part.level q × IsWorldOf f part.has_world q world

-- The query is one for what is asked of the file, and the world file is the one that is asked for. For a part of a level the query may
-- also be Info, which says which window the part is.
abbrev pub IsFor : List ℕ → Asked → Query → Option WorldFile → Type 0
IsFor f (asked.Query query) q world = (q ≡ query) × (world ≡ None)
IsFor f (asked.Part part) q world = (q ≡ Info) ⊎ IsOfPart f part q world
IsFor f (asked.Description form) q world = (q ≡ Info) × (world ≡ None)

-- a part of a level is asked for, and the outcome so far is Info, which gives its window
abbrev pub GivesWindow : Asked → Outcome → Type 0
GivesWindow (asked.Part part) (outcome.Info i) = is_ok (part_given i part) ≡ true
GivesWindow a o = ⊥

-- a part of a level is asked for, and the outcome is Info, which gives no window or no world file, for this reason
abbrev pub GivesNone : Asked → Outcome → NotGiven → Type 0
GivesNone (asked.Part part) (outcome.Info i) why = part_given i part ≡ Err why
GivesNone a o why = ⊥

-- A description as JSON is laid out as JSON is, with the end of a line after it. The first line of one in words names the ETag.
abbrev pub IsInForm : Form → (tag text : List ℕ) → Type 0
IsInForm form tag text = (form ≡ Json → IsLine IsJson text) × (form ≡ Words → NamesTag tag text)

-- What is written is what an outcome says of the file with this ETag. A window is written as a graymap or a pixmap. Of a part of a level
-- nothing else is written. The text of Info begins with the line of the ETag. A description has the form that was asked for. Neither has
-- samples. `NoReport` stands here only for a part of a level of which Info gave the window last. That a rectangle has no window, or a
-- window no world file, is what Info says of the file.
abbrev pub IsWritten : Asked → (tag : List ℕ) → Outcome → Result Text ReadError → Type 0
IsWritten a tag (outcome.Window v) (Ok text) = text.head.items ++ text.samples.now ≡ netpbm v.samples v.bits v.w v.h v.pixels.items
IsWritten (asked.Query query) tag (outcome.Info i) (Ok text) = IsOfTag tag text.head.items × (text.samples.now ≡ [])
IsWritten (asked.Part part) tag (outcome.Info i) (Ok text) = ⊥
IsWritten (asked.Description form) tag (outcome.Info i) (Ok text) = IsInForm form tag text.head.items × (text.samples.now ≡ [])
IsWritten a tag (outcome.Fault fault) written = written ≡ Err (OfFile fault)
IsWritten a tag o (Err NoReport) = GivesWindow a o
IsWritten a tag o (Err (NoWindow why)) = GivesNone a o (not_given.NoWindow why)
IsWritten a tag o (Err NoWorld) = GivesNone a o not_given.NoWorld
IsWritten a tag o (Err (OfFile fault)) = o ≡ outcome.Fault fault
IsWritten a tag o (Err (NotUsed why)) = ⊥
IsWritten a tag o (Err Memory) = ⊤

-- the query is for this part of the level, with its world file, in each file of the book that has this ETag
abbrev pub IsOfPartBy : Book → List ℕ → Part → Query → Option WorldFile → Type 0
IsOfPartBy book tag part q world = (p : Publication) → In p book → p.tag ≡ tag → IsOfPart p.file part q world

-- this is the world file that is written beside the text
abbrev pub HasWorld : Option WorldFile → Result Text ReadError → Type 0
HasWorld world (Ok text) = text.world ≡ world
HasWorld world (Err error) = ⊤

-- A report answers what is asked of one publication in the book: the one whose ETag it has. It is true of this publication, and it is what
-- is written.
pub record IsTrueOfBook (name : List ℕ) (book : Book) (a : Asked) (written : Result Text ReadError) : Type 0 where
  pub report : Report
  pub holds : IsTrueReport report name (Some report.query) book
  pub world : Option WorldFile
  pub asked : IsFor holds.source.file a report.query world
  pub beside : HasWorld world written
  pub says : IsWritten a report.tag report.outcome written

-- what is written is a text, a fault of the file, or that the file gives no window or no world file
abbrev pub IsOfFile : Result Text ReadError → Type 0
IsOfFile (Ok text) = ⊤
IsOfFile (Err (OfFile fault)) = ⊤
IsOfFile (Err (NoWindow why)) = ⊤
IsOfFile (Err NoWorld) = ⊤
IsOfFile (Err error) = ⊥

-- What is written of a file is true of one publication of the book.
abbrev pub WritesTrue : List ℕ → Book → Asked → Result Text ReadError → Type 0
WritesTrue name book a written = IsOfFile written → IsTrueOfBook name book a written

-- There is nothing to write: no report, or for a part of a level only one of Info that gives its window.
abbrev pub HasNothing : Asked → Option Report → Type 0
HasNothing a None = ⊤
HasNothing a (Some r) = GivesWindow a r.outcome

-- at most `most`, or at most as many as before
abbrev pub StaysWithin : (most before after : ℕ) → Type 0
StaysWithin most before after = after ≤ max most before

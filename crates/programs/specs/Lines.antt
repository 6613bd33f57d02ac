-- Lines of `cogread` in which a URL or a path names the file, and what becomes of their faults.
use Rattle.std.specs.Prelude.{◌≡◌, ◌∷◌, [], ⊤, ℕ, Bool, true, false, List, Some, codes, not, string_bytes}
use Rattle.std.specs.Option.{option_copied, option_or}
use Rattle.command_lines.specs.declared.read.ReadLine.{ReadLine}
use Rattle.command_lines.specs.declared.urls.FileUrl.{FileUrl}
use Rattle.read_progress.specs.declared.printing.Verbosity.{Verbosity}
use Rattle.read_progress.specs.declared.printing.Verbosity.TheVariants.{Each, Nothing, Progress}
use Rattle.tiff_dir.specs.declared.fault.FileFault.{FileFault}
use Rattle.programs.specs.declared.exit.Exit.{Exit}
use Rattle.programs.specs.declared.exit.Exit.TheVariants.{Explained, Memory, OfFile}

-- what a line prints of exchanges, by its options
abbrev pub verbosity : (verbose progress : Bool) → Verbosity
verbosity true progress = Each
verbosity false true = Progress
verbosity false false = Nothing

-- `made` is this line, but it keeps a connection unless the line says otherwise. It looks `blocks` ahead unless the line says how far.
pub record IsLineOfUrl (blocks : List ℕ) (line made : ReadLine) : Type 0 where
  pub keep : made.keep ≡ not line.close
  pub ahead : option_copied made.ahead ≡ option_or (option_copied line.ahead) (Some blocks)
  pub rest : made ≡ record line { keep = made.keep; ahead = made.ahead }

-- `made` is this line, but it looks `blocks` ahead unless the line says how far. It makes `most` requests unless the line says how many.
pub record IsLineOfPath (blocks most : List ℕ) (line made : ReadLine) : Type 0 where
  pub ahead : option_copied made.ahead ≡ option_or (option_copied line.ahead) (Some blocks)
  pub requests : option_copied made.requests ≡ option_or (option_copied line.requests) (Some most)
  pub rest : made ≡ record line { ahead = made.ahead; requests = made.requests }

-- the words that a URL stands for
abbrev pub words_of_url : (is_alone : Bool) → FileUrl → List (List ℕ)
words_of_url true url = codes "describe" ∷ string_bytes url.server ∷ string_bytes url.target ∷ []
words_of_url false url = string_bytes url.server ∷ string_bytes url.target ∷ []

-- it is this fault of a file with an explanation, or memory ran out
abbrev pub IsExplanation : FileFault → Exit → Type 0
IsExplanation fault (Explained explained) = explained.fault ≡ fault
IsExplanation fault Memory = ⊤
IsExplanation fault told = ⊥

-- A fault of a file is explained. Any other stays.
abbrev pub IsExplained : (fault told : Exit) → Type 0
IsExplained (OfFile fault) told = IsExplanation fault told
IsExplained fault told = told ≡ fault

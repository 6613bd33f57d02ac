-- The two forms of a line of `cogserve`, and what the words of the form without required options give.
use Rattle.std.specs.Prelude.{◌≡◌, ◌&&◌, ◌==◌, if◌then◌else◌, true, false, ℕ, Bool, List, [], ◌∷◌, Some, codes, map, option_map}
use Rattle.std.specs.List.{before_first}
use Rattle.std.specs.Str.{bytes_eq}
use Rattle.clap.specs.Words.{App, Row, all_of, first_of, matches_of, one_of}
use Rattle.command_lines.specs.ServeLine.{HasValues, Tells, serve_app, serve_app_of}
use Rattle.command_lines.specs.declared.quick.QuickLine.{QuickLine}
use Rattle.command_lines.specs.declared.quick.StartLine.{StartLine}
use Rattle.command_lines.specs.declared.quick.StartLine.TheVariants.{Full, Quick}

-- the part of a word before its first `=` (61), or the whole word
abbrev pub option_name : List ℕ → List ℕ
option_name word = before_first (λ b. b == 61) word

-- an option of this name stands before the first word `--`, after which all words are files
abbrev pub has_option : (name : List ℕ) → List (List ℕ) → Bool
has_option name [] = false
has_option name (word ∷ words) = if bytes_eq word (codes "--") then false else if bytes_eq (option_name word) name then true else has_option name words

-- the words are of the full form
abbrev pub is_full : List (List ℕ) → Bool
is_full words = has_option (codes "--listen") words && (has_option (codes "--epoch") words && has_option (codes "--connections") words)

-- the command of the other form
abbrev pub quick_app : App
quick_app = serve_app_of false

-- the command that reads these words
abbrev pub start_app : List (List ℕ) → App
start_app words = if is_full words then serve_app else quick_app

-- the line has the values of these matches
pub record HasQuickValues (matches : List Row) (line : QuickLine) : Type 0 where
  pub listen : first_of (codes "listen") matches ≡ option_map (λ word. word.now) line.listen
  pub epoch : first_of (codes "epoch") matches ≡ option_map (λ word. word.now) line.epoch
  pub connections : first_of (codes "connections") matches ≡ option_map (λ word. word.now) line.connections
  pub at_once : first_of (codes "at-once") matches ≡ option_map (λ word. word.now) line.at_once
  pub patience : first_of (codes "patience") matches ≡ option_map (λ word. word.now) line.patience
  pub allow_origin : first_of (codes "allow-origin") matches ≡ option_map (λ word. word.now) line.allow_origin
  pub announce_last : Tells (one_of (codes "announce-last") matches) line.announce_last
  pub verify : first_of (codes "verify") matches ≡ option_map (λ word. word.now) line.verify
  pub log : Tells (one_of (codes "log") matches) line.log
  pub files : all_of (codes "files") matches ≡ Some (map (λ file. file.now) line.files.items)

-- The line is of the form of its words, and has what that form's command gives.
abbrev pub HasStart : List (List ℕ) → StartLine → Type 0
HasStart words (Full line) = (is_full words ≡ true) × HasValues (matches_of serve_app words) line
HasStart words (Quick line) = (is_full words ≡ false) × HasQuickValues (matches_of quick_app words) line

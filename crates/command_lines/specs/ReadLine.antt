-- What the words of `cogread` give, by the rows of a subcommand's matches.
use Rattle.std.specs.Prelude.{◌≡◌, ◌≢◌, true, false, List, [], ◌∷◌, Option, Some, None, ℕ, codes, map, option_map, unwrap_or}
use Rattle.std.specs.Borrow.{Bor}
use Rattle.clap.specs.Words.{Row, all_of, first_of, one_of}
use Rattle.command_lines.specs.ServeLine.{Tells}
use Rattle.command_lines.specs.declared.read.AskedWords.{AskedWords}
use Rattle.command_lines.specs.declared.read.AskedWords.TheVariants.{Bounds, Description, Info, Whole, Window}
use Rattle.command_lines.specs.declared.read.BoundsWords.{BoundsWords}
use Rattle.command_lines.specs.declared.read.ReadLine.{ReadLine}
use Rattle.command_lines.specs.declared.read.WindowWords.{WindowWords}

-- the value of a required word
abbrev pub word_of : (name : List ℕ) → List Row → List ℕ
word_of name matches = unwrap_or (first_of name matches) []

-- the window has the values of these matches
pub record HasWindow (matches : List Row) (window : WindowWords) : Type 0 where
  pub x : window.x.now ≡ word_of (codes "X") matches
  pub y : window.y.now ≡ word_of (codes "Y") matches
  pub w : window.w.now ≡ word_of (codes "W") matches
  pub h : window.h.now ≡ word_of (codes "H") matches
  pub level : first_of (codes "level") matches ≡ option_map (λ word. word.now) window.level
  pub columns : first_of (codes "columns") matches ≡ option_map (λ word. word.now) window.columns

-- there are four values
pub record IsOfFour (values : Option (List (List ℕ))) : Type 0 where
  pub west : List ℕ
  pub south : List ℕ
  pub east : List ℕ
  pub north : List ℕ
  pub are : values ≡ Some (west ∷ south ∷ east ∷ north ∷ [])

-- the rectangle has the four values of these matches, in their order
pub record HasBounds (matches : List Row) (bounds : BoundsWords) : Type 0 where
  pub sides : all_of (codes "bounds") matches ≡ Some (bounds.west.now ∷ bounds.south.now ∷ bounds.east.now ∷ bounds.north.now ∷ [])
  pub level : first_of (codes "level") matches ≡ option_map (λ word. word.now) bounds.level

-- the line has the values of these matches, whatever it asks for
pub record HasLine (matches : List Row) (line : ReadLine) : Type 0 where
  pub server : line.server.now ≡ word_of (codes "SERVER") matches
  pub name : line.name.now ≡ word_of (codes "NAME") matches
  pub requests : first_of (codes "requests") matches ≡ option_map (λ word. word.now) line.requests
  pub blocks : first_of (codes "blocks") matches ≡ option_map (λ word. word.now) line.blocks
  pub ahead : first_of (codes "ahead") matches ≡ option_map (λ word. word.now) line.ahead
  pub keep : Tells (one_of (codes "keep") matches) line.keep
  pub close : Tells (one_of (codes "close") matches) line.close
  pub output : first_of (codes "output") matches ≡ option_map (λ word. word.now) line.output
  pub world : Tells (one_of (codes "world") matches) line.world
  pub verbose : Tells (one_of (codes "verbose") matches) line.verbose
  pub progress : Tells (one_of (codes "progress") matches) line.progress

-- These matches ask for a window, the whole of a level or a rectangle. Without `--whole` they ask for a rectangle exactly if there are four
-- values.
abbrev pub AsksWindow : List Row → AskedWords → Type 0
AsksWindow matches (Window window) = Tells (one_of (codes "whole") matches) false × ¬ IsOfFour (all_of (codes "bounds") matches)
    × HasWindow matches window
AsksWindow matches (Bounds bounds) = Tells (one_of (codes "whole") matches) false × HasBounds matches bounds
AsksWindow matches (Whole level) = Tells (one_of (codes "whole") matches) true × (first_of (codes "level") matches ≡ option_map (λ word. word.now) level)
AsksWindow matches asked = ⊥

-- These matches ask for a description.
abbrev pub AsksDescription : List Row → AskedWords → Type 0
AsksDescription matches (Description is_json) = Tells (one_of (codes "json") matches) is_json
AsksDescription matches asked = ⊥

-- what a subcommand of this name asks for by its matches
pub record Asks (name : List ℕ) (matches : List Row) (asked : AskedWords) : Type 0 where
  pub window : name ≡ codes "window" → AsksWindow matches asked
  pub description : name ≡ codes "describe" → AsksDescription matches asked
  pub info : name ≢ codes "window" → name ≢ codes "describe" → asked ≡ Info

-- The line has the values of a subcommand's matches, and asks for what its name says. Without a subcommand it has those of the command, and
-- asks for Info.
abbrev pub HasFound : (subcommand : Option (List ℕ × List Row)) → (own : List Row) → ReadLine → Type 0
HasFound None own line = HasLine own line × (line.asked ≡ Info)
HasFound (Some (name, matches)) own line = HasLine matches line × Asks name matches line.asked

-- The field lines are the values of `--header`, in their order.
abbrev pub AreHeaders : List Row → List (Bor (List ℕ)) → Type 0
AreHeaders matches headers = unwrap_or (all_of (codes "header") matches) [] ≡ map (λ (header : Bor (List ℕ)). header.now) headers

-- The field lines are those of a subcommand's matches, or, without a subcommand, those of the command's.
abbrev pub HasHeaders : (subcommand : Option (List ℕ × List Row)) → (own : List Row) → List (Bor (List ℕ)) → Type 0
HasHeaders None own headers = AreHeaders own headers
HasHeaders (Some (name, matches)) own headers = AreHeaders matches headers

-- The command `cogserve`, and what its words give by clap's definition of a simple command.
use Rattle.std.specs.Prelude.{◌≡◌, true, false, ℕ, Bool, List, Option, Some, None, codes, map, option_map}
use Rattle.clap.specs.Words.{App, Row, Rule, all_of, first_of, new_app, new_rule, one_of, with_rule}
use Rattle.clap.specs.declared.builder.action.ArgAction.TheVariants.{Set, SetTrue, Append}
use Rattle.command_lines.specs.declared.serve.ServeLine.{ServeLine}

-- an option with one value, which is required or may be left out
abbrev pub valued : (required : Bool) → List ℕ → Rule
valued needed name = record (new_rule name) { long = Some name; value_names = 1; required = needed; action = Some Set }

-- a required option with one value
abbrev pub option : List ℕ → Rule
option name = valued true name

-- an option with one value, which may be left out
abbrev pub choice : List ℕ → Rule
choice name = valued false name

-- an option without a value
abbrev pub flag : List ℕ → Rule
flag name = record (new_rule name) { long = Some name; action = Some SetTrue }

-- words of which at least one is required
abbrev pub words : List ℕ → Rule
words name = record (new_rule name) { value_names = 1; required = true; action = Some Append }

-- a command that prints its version
abbrev pub versioned : App → App
versioned a = record a { top = record a.top { has_version = true } }

-- The command. `required` says whether the address, the epoch and the number of connections are required.
unfoldable pub serve_app_of : (required : Bool) → App
serve_app_of needed = with_rule (with_rule (with_rule (with_rule (with_rule (with_rule (with_rule (with_rule (with_rule (with_rule
    (versioned (new_app (codes "cogserve"))) (valued needed (codes "listen"))) (valued needed (codes "epoch")))
    (valued needed (codes "connections"))) (words (codes "files"))) (choice (codes "at-once"))) (choice (codes "patience")))
    (choice (codes "allow-origin"))) (flag (codes "announce-last"))) (choice (codes "verify"))) (flag (codes "log"))

-- the command of the full form, in which they are required
abbrev pub serve_app : App
serve_app = serve_app_of true

-- a flag's text says whether the flag is there; without a text it isn't
pub record Tells (text : Option (List ℕ)) (flag : Bool) : Type 0 where
  pub none : text ≡ None → flag ≡ false
  pub yes : text ≡ Some (codes "true") → flag ≡ true
  pub no : text ≡ Some (codes "false") → flag ≡ false

-- the line has the values of these matches
pub record HasValues (matches : List Row) (line : ServeLine) : Type 0 where
  pub listen : first_of (codes "listen") matches ≡ Some line.listen.now
  pub epoch : first_of (codes "epoch") matches ≡ Some line.epoch.now
  pub connections : first_of (codes "connections") matches ≡ Some line.connections.now
  pub at_once : first_of (codes "at-once") matches ≡ option_map (λ word. word.now) line.at_once
  pub patience : first_of (codes "patience") matches ≡ option_map (λ word. word.now) line.patience
  pub allow_origin : first_of (codes "allow-origin") matches ≡ option_map (λ word. word.now) line.allow_origin
  pub announce_last : Tells (one_of (codes "announce-last") matches) line.announce_last
  pub verify : first_of (codes "verify") matches ≡ option_map (λ word. word.now) line.verify
  pub log : Tells (one_of (codes "log") matches) line.log
  pub files : all_of (codes "files") matches ≡ Some (map (λ file. file.now) line.files.items)

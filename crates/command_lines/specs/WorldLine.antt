-- The command `cogworld`, and what its words give by clap's definition of a simple command.
use Rattle.std.specs.Prelude.{◌≡◌, true, ℕ, List, Some, codes, option_map}
use Rattle.clap.specs.Words.{App, Row, Rule, first_of, new_app, new_rule, with_rule}
use Rattle.clap.specs.declared.builder.action.ArgAction.TheVariants.{Set}
use Rattle.command_lines.specs.ServeLine.{choice, versioned}
use Rattle.command_lines.specs.declared.world.WorldLine.{WorldLine}

-- a required word
abbrev pub word : List ℕ → Rule
word name = record (new_rule name) { required = true; action = Some Set }

unfoldable pub world_app : App
world_app = with_rule (with_rule (versioned (new_app (codes "cogworld"))) (word (codes "SCRIPT"))) (choice (codes "pieces"))

-- the line has the values of these matches
pub record HasValues (matches : List Row) (line : WorldLine) : Type 0 where
  pub script : first_of (codes "SCRIPT") matches ≡ Some line.script.now
  pub pieces : first_of (codes "pieces") matches ≡ option_map (λ word. word.now) line.pieces

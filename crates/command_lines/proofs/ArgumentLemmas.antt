-- A command with an argument more.
use Rattle.std.proofs.Common.{◌≡◌, ◌∙◌, false, List, [], ◌∷◌, ◌++◌, Result, Ok, Err, IfOk, OnOk, ap, ap₂, subst, sym}
use Rattle.clap.specs.Built.{AddsArg, AddsInTurn}
use Rattle.clap.specs.Words.{App, Rule, app_of, rule_of, with_rule}
use Rattle.clap.specs.declared.builder.arg.Arg.{Arg}
use Rattle.clap.specs.declared.builder.command.Command.{Command}
use Rattle.command_lines.specs.Rules.{AddsRule, HaveRules}

-- it has the argument's rule behind the others
pub with_argument : {E : Type 0} (old : Command) (argument : Arg) (new : Result Command E) (app : App) (rule : Rule)
    → IfOk new (AddsArg old argument) → argument.global ≡ false → app_of old ≡ app → rule_of argument ≡ rule
    → IfOk new (λ command. app_of command ≡ with_rule app rule)
with_argument old argument (Ok command) app rule adds local is ruled = adds.shape local ∙ ap₂ with_rule is ruled
with_argument old argument (Err e) app rule adds local is ruled = tt

more_rules : (old : List Arg) (rules : List Rule) (argument : Arg) (rule : Rule) → HaveRules old rules → rule_of argument ≡ rule
    → argument.global ≡ false → HaveRules (old ++ argument ∷ []) (rules ++ rule ∷ [])
more_rules [] [] argument rule have is local = (is, local, tt)
more_rules [] (r ∷ rules) argument rule have is local = absurd have
more_rules (a ∷ old) [] argument rule have is local = absurd have
more_rules (a ∷ old) (r ∷ rules) argument rule have is local = (have.0, have.1, more_rules old rules argument rule have.2 is local)

-- an argument that was added adds its rule
pub adds_rule : {A E : Type 0} (result : Result A E) (old new : List Arg) (argument : Arg) (rule : Rule)
    → OnOk result (new ≡ old ++ argument ∷ []) → rule_of argument ≡ rule → argument.global ≡ false → OnOk result (AddsRule old new rule)
adds_rule (Ok a) old new argument rule more is local =
    λ rules have. subst (λ (l : List Arg). HaveRules l (rules ++ rule ∷ [])) (sym more) (more_rules old rules argument rule have is local)
adds_rule (Err e) old new argument rule more is local = tt

-- the command with these rules behind its own
abbrev pub with_rules : App → List Rule → App
with_rules app [] = app
with_rules app (rule ∷ rules) = with_rules (with_rule app rule) rules

in_turn : (arguments : List Arg) (rules : List Rule) (old new : Command) (app : App) → AddsInTurn AddsArg old arguments new
    → HaveRules arguments rules → app_of old ≡ app → app_of new ≡ with_rules app rules
in_turn [] [] old new app adds have is = ap app_of (sym adds) ∙ is
in_turn [] (r ∷ rules) old new app adds have is = absurd have
in_turn (a ∷ arguments) [] old new app adds have is = absurd have
in_turn (a ∷ arguments) (r ∷ rules) old new app (next, added, rest) have is =
    in_turn arguments rules next new (with_rule app r) rest have.2 (added.shape have.1 ∙ ap₂ with_rule is have.0)

-- arguments that were added in turn
pub with_arguments : {E : Type 0} (arguments : List Arg) (rules : List Rule) (old : Command) (new : Result Command E) (app : App)
    → IfOk new (λ command. AddsInTurn AddsArg old arguments command) → HaveRules arguments rules → app_of old ≡ app
    → IfOk new (λ command. app_of command ≡ with_rules app rules)
with_arguments arguments rules old (Ok command) app adds have is = in_turn arguments rules old command app adds have is
with_arguments arguments rules old (Err e) app adds have is = tt

-- one more rule, behind those of the arguments so far
pub adds_last : {A E : Type 0} (result : Result A E) (old new : List Arg) (rule : Rule) (rules : List Rule) (P : Type 0)
    → OnOk result (AddsRule old new rule) → (P → HaveRules old rules) → OnOk result (P → HaveRules new (rules ++ rule ∷ []))
adds_last (Ok a) old new rule rules P adds have = λ p. adds rules (have p)
adds_last (Err e) old new rule rules P adds have = tt

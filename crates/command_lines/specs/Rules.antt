-- The rules of arguments.
use Rattle.std.specs.Prelude.{◌≡◌, false, List, [], ◌∷◌, ◌++◌, ⊤}
use Rattle.clap.specs.Words.{Rule, rule_of}
use Rattle.clap.specs.declared.builder.arg.Arg.{Arg}

-- These arguments have these rules, and none of them is global.
abbrev pub HaveRules : List Arg → List Rule → Type 0
HaveRules [] [] = ⊤
HaveRules (argument ∷ arguments) (rule ∷ rules) = (rule_of argument ≡ rule) × (argument.global ≡ false) × HaveRules arguments rules
HaveRules arguments rules = ⊥

-- The new arguments have the rules of the old ones, whatever these are, and then this one.
abbrev pub AddsRule : (old new : List Arg) → Rule → Type 0
AddsRule old new rule = (rules : List Rule) → HaveRules old rules → HaveRules new (rules ++ rule ∷ [])

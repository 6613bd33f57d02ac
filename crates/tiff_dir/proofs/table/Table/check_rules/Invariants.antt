use Rattle.std.proofs.Common.{◌≡◌, ℕ, ◌<◌, get_or, true}
use Rattle.tiff_dir.specs.declared.rule.Rule.{Rule}
use Rattle.tiff_dir.specs.Table.{entries_of, keeps}
use Rattle.tiff_dir.proofs.table.Table.check_rules.Given as goal

abbrev pub invariant-loop-rule : goal.invariant-loop-rule
invariant-loop-rule l = (k : ℕ) (d : Rule) → k < l.rule-index → keeps (entries_of l.self) (get_or l.rules k d) ≡ true

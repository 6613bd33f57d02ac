use Rattle.std.proofs.Common.{◌≡◌, drop}
use Rattle.http_fields.specs.Target.{are_escapes_whole}
use Rattle.http_fields.proofs.targets.are_escapes_whole.Given as goal

abbrev pub invariant-loop-i : goal.invariant-loop-i
invariant-loop-i l = are_escapes_whole l.text ≡ are_escapes_whole (drop l.i l.text)

use Rattle.std.proofs.Common.{◌≡◌, ◌+◌, false, drop}
use Rattle.http_fields.proofs.MembersLemmas.{part_end}
use Rattle.http_fields.proofs.members.part_end.Given as goal

abbrev pub invariant-loop-i : goal.invariant-loop-i
invariant-loop-i l = part_end l.quotes false l.list ≡ l.i + part_end l.quotes l.quoted (drop l.i l.list)

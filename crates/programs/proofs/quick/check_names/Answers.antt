use Rattle.std.proofs.Common.{inr}
use Rattle.programs.proofs.quick.check_names.Goals as goal

pub returns-in_ok-one_name-in-Some-clause-told : goal.returns-in_ok-one_name-in-Some-clause-told
returns-in_ok-one_name-in-Some-clause-told c =
    inr (c.in-Some.first.now, c.in-Some.second.now, c.in-Some.ensures, c.in_ok-one_name-in-Some.ensures)

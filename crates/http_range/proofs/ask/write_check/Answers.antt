use Rattle.http_range.proofs.ask.write_check.Goals as goal

pub returns : goal.returns
returns c = rw c.new-none.ensures at c.write_check_with.ensures

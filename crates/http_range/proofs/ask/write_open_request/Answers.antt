use Rattle.http_range.proofs.ask.write_open_request.Goals as goal

pub returns : goal.returns
returns c = rw c.new-none.ensures at c.write_request_with.ensures

use Rattle.std.proofs.Common.{◌∙◌, ap}
use Rattle.disk_files.proofs.ReadingLemmas.{front}
use Rattle.disk_files.proofs.reading.enough_of.Goals as goal

pub returns : goal.returns
returns g c = λ given known.
    let here = ap (λ r. g.R.Read.remaining r) c.take.ensures.inner ∙ known in
    front _ _ _ given _ _ here c.take.ensures.limit c.new-bytes.ensures.items c.in_ok-read_to_end.ensures.bytes

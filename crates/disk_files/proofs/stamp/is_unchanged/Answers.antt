use Rattle.std.proofs.Common.{rules}
use Rattle.std.proofs.lemmas.Bool.Decides.{Decides-at}
use Rattle.disk_files.proofs.StampLemmas.{stamps_decided}
use Rattle.disk_files.proofs.stamp.is_unchanged.Goals as goal

pub returns-in-Some-Some : goal.returns-in-Some-Some
returns-in-Some-Some c =
    let same = Decides-at c.eq.result _ c.eq.ensures (stamps_decided c.in-Some-Some.seen c.in-Some-Some.before) in
    search rules

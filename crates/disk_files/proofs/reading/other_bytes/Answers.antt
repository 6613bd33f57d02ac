use Rattle.std.proofs.Common.{◌≡◌, ◌∙◌, ◌+◌, ◌-◌, ◌++◌, ap, arith, length, take}
use Rattle.std.proofs.lemmas.Grind.{common_steps}
use Rattle.http_range.specs.declared.publication.TheConstants.{FILE_LIMIT}
use Rattle.disk_files.proofs.ReadingLemmas.{other_read}
use Rattle.disk_files.proofs.reading.other_bytes.Goals as goal

pub returns : goal.returns
returns g c = λ given known.
    let first = c.extend_from_slice.new.self.items in
    let second = c.extend_from_slice-2.new.self.items in
    let none = c.new-all.ensures.items in
    let one = c.in_ok-extend_from_slice.ensures.items in
    let two = c.in_ok-extend_from_slice-2.ensures.items in
    let held = c.deref.ensures.value in
    let head : first ≡ take c.in-Some.found.same c.args.bytes.now = grind (arith, common_steps, none, one) in
    let piece : second ≡ first ++ take c.in-Some.found.other c.first_difference.new.piece = grind (arith, common_steps, two, held) in
    let few : c.take.result.limit ≡ FILE_LIMIT + 1 - length second = omega (arith, c.take.ensures.limit, c.saturating_sub.ensures, c.len.ensures) in
    c.truncate.ensures.items
    ∙ other_read _ _ _ c.in_ok-found.field-0 c.in-Some.found _ _ first second _ given _ (FILE_LIMIT + 1)
    known c.in_ok-found.ensures.other c.in-Some.is head piece (ap (λ r. g.R.Read.remaining r) c.take.ensures.inner)
    c.in_ok-read_to_end.ensures.bytes few

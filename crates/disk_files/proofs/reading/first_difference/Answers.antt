use Rattle.std.proofs.Common.{arith, ◌++◌, ◌∙◌, ap, append_assoc, sym, take}
use Rattle.std.proofs.KnownBytes.{Consumes-trans}
use Rattle.disk_files.proofs.ReadingLemmas.{begins}
use Rattle.disk_files.proofs.reading.first_difference.Goals as goal

pub loop-preserved : goal.loop-preserved
loop-preserved g c =
    let front = c.loop.invariant.came.0 in
    let piece = take c.in_ok-other.other c.read.new.buf in
    let behind = c.in-Some.behind.now in
    let cases = c.in-Some.ensures.cases in
    let long = cases.2 in
    let bound = c.in_ok-other.ensures.bound.1 in
    let some = c.if-other-gt0.true in
    let few = c.loop.invariant.left in
    record {
      came = (
        front ++ piece,
        Consumes-trans _ _ _ _ _ c.loop.invariant.came.1 c.in_ok-other.ensures.bytes.0,
        c.loop.invariant.came.2 ∙ ap (λ l. front ++ l) (begins c.loop.rest.now piece behind cases.0 cases.1)
            ∙ sym (append_assoc front piece behind),
      );
      left = omega arith;
    }

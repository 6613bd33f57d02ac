use Rattle.std.proofs.Common.{◌≡◌, ◌+◌, ◌-◌, ◌*◌, ◌<◌, ◌≤◌, ℕ, length, get_or, drop, ap, subst, ◌∙◌, arith, length-drop}
use Rattle.std.proofs.lemmas.List.{get_or-take, get_or-drop, length-take-le}
use Rattle.tile_plan.specs.Rows.{at, AreCopied}
use Rattle.tile_plan.proofs.RowLemmas.{copied_more}
use Rattle.tile_plan.proofs.rows.copy_slice_rows.Goals as goal

pub loop-n-preserved : goal.loop-n-preserved
loop-n-preserved c =
    let n = c.loop-n.n in
    let len = c.args.len in
    let read = c.args.read in
    let write = c.args.write in
    let from = c.args.from.now in
    let k : ℕ = write.first + n * write.step + len - (write.first + n * write.step) in
    let j : ℕ = read.first + n * read.step + len - (read.first + n * read.step) in
    let same : k ≡ len = omega arith in
    let as_long : j ≡ len = omega arith in
    let ys = c.copy_from_slice.new.self in
    let start = read.first + n * read.step in
    let less : n < c.args.count = omega (arith, c.loop-n-test.true, c.loop-n.auto.n-end) in
    let there : at read n len ≤ length from = c.requires.read n less in
    let room : at write n len ≤ length c.args.to.now = c.requires.write n less in
    let size : length ys ≡ len = ap length c.copy_from_slice.ensures.after ∙ length-take-le j (drop start from) (omega (arith, there, as_long, length-drop start from)) ∙ as_long in
    copied_more n len from read c.args.to.now c.loop-n.to write k ys same size (omega (arith, room, c.loop-n.invariant.size)) c.requires.apart
    (λ s inside. ap (λ l. get_or l s 0) c.copy_from_slice.ensures.after ∙ get_or-take j (drop start from) s 0 (omega (arith, inside, as_long)) ∙ get_or-drop start from s 0) c.loop-n.invariant

pub returns : goal.returns
returns c = subst (λ n. AreCopied n c.args.len c.args.from.now c.args.read c.args.to.now c.loop-n.to c.args.write) (omega (arith, c.loop-n-test.false, c.loop-n.auto.n-end)) c.loop-n.invariant

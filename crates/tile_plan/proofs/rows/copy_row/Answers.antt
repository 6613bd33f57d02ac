use Rattle.std.proofs.Common.{◌≡◌, ℕ, ◌+◌, ◌-◌, length, get_or, take, drop, ap, ◌∙◌, arith, length-drop}
use Rattle.std.proofs.lemmas.List.{get_or-take, get_or-drop, length-take-le}
use Rattle.tile_plan.proofs.RowLemmas.{copied_one}
use Rattle.tile_plan.proofs.rows.copy_row.Goals as goal

pub returns : goal.returns
returns g c =
    let from = g.B.Bytes.bytes c.args.from.now in
    let to = c.args.to.now in
    let len = c.args.len in
    let start = c.args.read.first in
    let at = c.args.write.first in
    let k : ℕ = at + len - at in
    let same : k ≡ len = omega arith in
    let ys = c.copy_to.new.out in
    let room = c.requires.write in
    let there = c.requires.read in
    let part : length (take k (drop at to)) ≡ len = length-take-le k (drop at to) (omega (arith, room, same, length-drop at to)) ∙ same in
    let j : ℕ = start + length (take k (drop at to)) - start in
    let as_long : j ≡ len = omega (arith, part) in
    let size : length ys ≡ len = ap length c.copy_to.ensures ∙ length-take-le j (drop start from) (omega (arith, there, as_long, length-drop start from)) ∙ as_long in
    copied_one len from c.args.read to c.args.write k ys same size room c.requires.apart
    (λ s inside. ap (λ l. get_or l s 0) c.copy_to.ensures ∙ get_or-take j (drop start from) s 0 (omega (arith, inside, as_long)) ∙ get_or-drop start from s 0)

use Rattle.std.proofs.Common.{◌≡◌, ◌+◌, ◌≤◌, false, drop, length, arith, sym, ap, ◌∙◌}
use Rattle.std.proofs.lemmas.List.{drop_all}
use Rattle.http_fields.proofs.MembersLemmas.{part_end, end_here, length-first_part}
use Rattle.http_fields.proofs.members.part_end.Goals as goal

pub returns-then-not-quoted : goal.returns-then-not-quoted
returns-then-not-quoted c =
    let list = c.args.list.now in
    let i = c.loop-i.i in
    let before : part_end c.args.quotes false list ≡ i + part_end c.args.quotes c.loop-i.quoted (drop i list) = c.loop-i.invariant in
    let here : part_end c.args.quotes c.loop-i.quoted (drop i list) ≡ 0 =
    end_here c.args.quotes c.loop-i.quoted list i c.loop-i-test.true (rw (c.if-b-eq44.true, c.if-not-quoted.true)) in
    let e : i ≡ part_end c.args.quotes false list = omega arith in
    e ∙ sym (length-first_part c.args.quotes list)

pub returns : goal.returns
returns c =
    let list = c.args.list.now in
    let i = c.loop-i.i in
    let before : part_end c.args.quotes false list ≡ i + part_end c.args.quotes c.loop-i.quoted (drop i list) = c.loop-i.invariant in
    let rest : part_end c.args.quotes c.loop-i.quoted (drop i list) ≡ 0 =
    ap (part_end c.args.quotes c.loop-i.quoted) (drop_all i list c.loop-i-test.false) in
    let inside : i ≤ length list = c.loop-i.auto.i-end in
    let e : length list ≡ part_end c.args.quotes false list = omega arith in
    e ∙ sym (length-first_part c.args.quotes list)

use Rattle.std.proofs.Common.{◌+◌, ◌≤◌, length, sym, subst, arith}
use Rattle.tile_plan.specs.Rows.{at, from_row, AreCopied}
use Rattle.tile_plan.proofs.RowLemmas.{behind, copied_join}
use Rattle.tile_plan.proofs.rows.copy_rows.Goals as goal

pub copy_some-n-requires-clause-read : goal.copy_some-n-requires-clause-read
copy_some-n-requires-clause-read g c m less =
    let n = c.loop-n.n in
    let there = c.requires.read (n + m) (omega (arith, less)) in
    subst (λ r. at r m c.args.len ≤ length (g.B.Bytes.bytes c.args.from.now)) (sym c.from_row.ensures) (omega (arith, there, behind c.args.read n m c.args.len))

pub copy_some-n-requires-clause-write : goal.copy_some-n-requires-clause-write
copy_some-n-requires-clause-write g c m less =
    let n = c.loop-n.n in
    let there = c.requires.write (n + m) (omega (arith, less)) in
    subst (λ r. at r m c.args.len ≤ length c.loop-n.to) (sym c.from_row-in-loop-n.ensures) (omega (arith, there, behind c.args.write n m c.args.len, c.loop-n.invariant.copied.size))

pub loop-n-preserved : goal.loop-n-preserved
loop-n-preserved g c =
    let n = c.loop-n.n in
    let k = c.copy_some-n.result in
    let bytes = g.B.Bytes.bytes c.args.from.now in
    let new = c.copy_some-n.new.to in
    let here = subst (λ r. AreCopied k c.args.len bytes r c.loop-n.to new (from_row c.args.write n)) c.from_row.ensures
    (subst (λ r. AreCopied k c.args.len bytes c.from_row.result c.loop-n.to new r) c.from_row-in-loop-n.ensures c.copy_some-n.ensures.copied) in
    record {
      few = omega (arith, c.copy_some-n.ensures.few, c.loop-n.invariant.few);
      copied = copied_join n k c.args.len bytes c.args.read c.args.to.now c.loop-n.to new c.args.write c.requires.apart c.loop-n.invariant.copied here;
    }

pub returns : goal.returns
returns g c =
    subst (λ n. AreCopied n c.args.len (g.B.Bytes.bytes c.args.from.now) c.args.read c.args.to.now c.loop-n.to c.args.write) (omega (arith, c.loop-n-test.false, c.loop-n.invariant.few)) c.loop-n.invariant.copied

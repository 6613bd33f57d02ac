use Rattle.std.proofs.Common.{◌≡◌, ◌+◌, ◌*◌, ◌-◌, ◌∙◌, nat_lt, true, false, sym, arith}
use Rattle.std.proofs.lemmas.Bool.{lt-ltb, le-ltb}
use Rattle.tiff_dir.specs.Number.{number_in}
use Rattle.tiff_dir.proofs.Finding.{ascends_go, ascends_few}
use Rattle.tiff_dir.proofs.table.Table.ascends.Goals as goal

pub loop-i-preserved : goal.loop-i-preserved
loop-i-preserved c =
    let i = c.loop-i.i in
    let n = c.args.self.now.entries in
    let go = ascends_go c.args.self.now.order (c.args.self.now.at + 2) (12 * (i - 1)) (12 * i) (12 * (i + 1 - 1)) (n - (i - 1)) (n - (i + 1 - 1)) c.args.self.now.bytes.now (omega arith) (omega arith) (omega arith) (omega arith) in
    let test : nat_lt (number_in c.args.self.now.order (12 * (i - 1)) 2 c.args.self.now.bytes.now) (number_in c.args.self.now.order (12 * i) 2 c.args.self.now.bytes.now) ≡ true =
    rw (← c.short_at.ensures, ← c.short_at-in-loop-i.ensures) (lt-ltb _ _ c.if-short_at.false) in
    sym (rw test at go) ∙ c.loop-i.invariant

pub returns-then-short_at : goal.returns-then-short_at
returns-then-short_at c =
    let i = c.loop-i.i in
    let n = c.args.self.now.entries in
    let go = ascends_go c.args.self.now.order (c.args.self.now.at + 2) (12 * (i - 1)) (12 * i) (12 * (i + 1 - 1)) (n - (i - 1)) (n - (i + 1 - 1)) c.args.self.now.bytes.now (omega arith) (omega arith) (omega arith) (omega arith) in
    let test : nat_lt (number_in c.args.self.now.order (12 * (i - 1)) 2 c.args.self.now.bytes.now) (number_in c.args.self.now.order (12 * i) 2 c.args.self.now.bytes.now) ≡ false =
    rw (← c.short_at.ensures, ← c.short_at-in-loop-i.ensures) (le-ltb _ _ c.if-short_at.true) in
    sym (rw test at go) ∙ c.loop-i.invariant

pub returns : goal.returns
returns c = sym (ascends_few c.args.self.now.order (c.args.self.now.at + 2) _ _ c.args.self.now.bytes.now (omega arith)) ∙ c.loop-i.invariant

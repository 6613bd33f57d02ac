use Rattle.std.proofs.Common.{◌≡◌, ◌+◌, ◌*◌, ◌-◌, ◌==◌, ◌∙◌, true, false, sym, arith}
use Rattle.std.proofs.lemmas.Bool.{eq-eqb, ne_eqb}
use Rattle.tiff_dir.specs.Number.{number_in}
use Rattle.tiff_dir.proofs.Finding.{find_go, find_none}
use Rattle.tiff_dir.proofs.table.Table.find.Goals as goal

pub loop-i-preserved : goal.loop-i-preserved
loop-i-preserved c =
    let i = c.loop-i.i in
    let n = c.args.self.now.entries in
    let go = find_go c.args.self.now.order (c.args.self.now.at + 2) (12 * i) (12 * (i + 1)) (n - i) (n - (i + 1)) c.args.tag c.args.self.now.bytes.now (omega arith) (omega arith) in
    let test : (number_in c.args.self.now.order (12 * i) 2 c.args.self.now.bytes.now == c.args.tag) ≡ false = rw (← c.short_at.ensures) (ne_eqb _ _ c.if-short_at-tag.false) in
    sym (rw test at go) ∙ c.loop-i.invariant

pub returns-then-short_at-tag-clause-first : goal.returns-then-short_at-tag-clause-first
returns-then-short_at-tag-clause-first c =
    let i = c.loop-i.i in
    let n = c.args.self.now.entries in
    let go = find_go c.args.self.now.order (c.args.self.now.at + 2) (12 * i) (12 * (i + 1)) (n - i) (n - (i + 1)) c.args.tag c.args.self.now.bytes.now (omega arith) (omega arith) in
    let test : (number_in c.args.self.now.order (12 * i) 2 c.args.self.now.bytes.now == c.args.tag) ≡ true = rw (← c.short_at.ensures) (eq-eqb _ _ c.if-short_at-tag.true) in
    rw c.entry_at.ensures (sym (rw test at go) ∙ c.loop-i.invariant)

pub returns-clause-first : goal.returns-clause-first
returns-clause-first c = sym (find_none c.args.self.now.order (c.args.self.now.at + 2) _ _ c.args.tag c.args.self.now.bytes.now (omega arith)) ∙ c.loop-i.invariant

use Rattle.std.proofs.Common.{◌∙◌, ap}
use Rattle.scripts.specs.Line.{texts}
use Rattle.scripts.proofs.LineLemmas.{FindsTheSame-twice, lent_line_passed, lent_line_read, lent_line_refused}
use Rattle.scripts.proofs.line.script.Goals as goal

pub loop-before-preserved-then-not-is_read : goal.loop-before-preserved-then-not-is_read
loop-before-preserved-then-not-is_read g c = record {
  read = lent_line_passed (g.S.Source.finds c.args.source.now) c.deref-line-items.result.now c.loop-before.before _ c.loop-before.events.items c.is_read.result c.loop-before-test.true c.is_read.ensures c.if-not-is_read.true c.loop-before.invariant.read;
  kept = c.loop-before.invariant.kept;
}

pub loop-before-preserved : goal.loop-before-preserved
loop-before-preserved g c = record {
  read = lent_line_read (g.S.Source.finds c.args.source.now) (g.S.Source.finds c.loop-before.source) c.loop-before.invariant.kept c.deref-line-items.result.now c.loop-before.before _ c.loop-before.events.items c.push.new.self.items c.in-Ok.event c.is_read.result c.loop-before-test.true c.is_read.ensures c.if-not-is_read.false c.loop-before.invariant.read c.in-Ok.ensures.event c.in_ok-push-in-Ok.ensures.items;
  kept = FindsTheSame-twice (g.S.Source.finds c.args.source.now) (g.S.Source.finds c.loop-before.source) (g.S.Source.finds c.read_line.new.source) c.loop-before.invariant.kept c.read_line.ensures.kept;
}

pub returns-in-Err-clause-err : goal.returns-in-Err-clause-err
returns-in-Err-clause-err g c =
    let all = ap texts c.deref-line-items.ensures.value ∙ c.in_ok-lines.ensures in
    rw c.at.ensures (lent_line_refused (g.S.Source.finds c.args.source.now) (g.S.Source.finds c.loop-before.source) c.loop-before.invariant.kept c.args.text.now c.deref-line-items.result.now all c.loop-before.before _ c.loop-before.events.items c.in-Err.error c.is_read.result c.loop-before-test.true c.is_read.ensures c.if-not-is_read.false c.loop-before.invariant.read c.in-Err.ensures.event)

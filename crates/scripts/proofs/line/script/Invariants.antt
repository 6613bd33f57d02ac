use Rattle.std.proofs.Common.{take}
use Rattle.scripts.specs.Line.{texts}
use Rattle.scripts.specs.Script.{AreEvents, FindsTheSame}
use Rattle.scripts.proofs.line.script.Given as goal

abbrev pub invariant-loop-before : goal.invariant-loop-before
invariant-loop-before g l = record {
  read : AreEvents (g.S.Source.finds l.fn.source) (take l.before (texts l.line-items)) l.events.items;
  kept : FindsTheSame (g.S.Source.finds l.fn.source) (g.S.Source.finds l.source);
}

use Rattle.std.proofs.Common.{[], ◌∷◌, ◌++◌, sym, ◌∙◌}
use Rattle.server_connections.proofs.YieldingLemmas.{goes_behind, kept, passed_by, taken}
use Rattle.server_connections.proofs.yielding.longest.Goals as goal
use Rattle.server_connections.proofs.yielding.longest.Goals.{else-passes-via-then-passes+else-is_longer, else-passes-via-else-passes}

pub loop-entry-preserved-then-is_longer : goal.loop-entry-preserved-then-is_longer
loop-entry-preserved-then-is_longer c =
    let seen = c.loop-entry.invariant.seen in
    let k = c.in-Some.entry.0.now in
    let p = c.in-Some.entry.1.now in
    record {
      seen = seen ++ (k, p) ∷ [];
      all = goes_behind seen _ _ _ (k, p) c.loop-entry.invariant.all c.in-Some.ensures.steps;
      finds = taken c.args.candidate.now seen k p c.since-moment.result c.loop-entry.found c.since-moment.ensures (sym c.passes.ensures ∙ c.if-passes.true) (sym c.is_longer.ensures ∙ c.if-is_longer.true)
          c.loop-entry.invariant.finds;
    }

pub loop-entry-preserved : goal.loop-entry-preserved
loop-entry-preserved c =
    let seen = c.loop-entry.invariant.seen in
    let k = c.in-Some.entry.0.now in
    let p = c.in-Some.entry.1.now in
    record {
      seen = seen ++ (k, p) ∷ [];
      all = goes_behind seen _ _ _ (k, p) c.loop-entry.invariant.all c.in-Some.ensures.steps;
      finds = elim c.else-passes.branch [
        | else-passes-via-then-passes+else-is_longer w ↦ kept c.args.candidate.now seen k p c.since-moment.result c.loop-entry.found c.since-moment.ensures (sym w.is_longer.ensures ∙ w.if-is_longer.false)
            c.loop-entry.invariant.finds
        | else-passes-via-else-passes w ↦ passed_by c.args.candidate.now seen k p c.loop-entry.found (sym c.passes.ensures ∙ w.if-passes.false)
            c.loop-entry.invariant.finds
      ];
    }

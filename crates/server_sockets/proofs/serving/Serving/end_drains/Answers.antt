use Rattle.std.proofs.Common.{◌∙◌, ap, arith, drop, rules}
use Rattle.std.proofs.lemmas.Grind.{common_steps}
use Rattle.std.proofs.lemmas.List.{drop-drop}
use Rattle.server_sockets.specs.Slots.{drains_of, slots_of}
use Rattle.server_sockets.proofs.ClosingLemmas.{drained_on}
use Rattle.server_sockets.proofs.SlotLemmas.{backlog_on, freeing_on, nobody_yet, same_on}
use Rattle.server_sockets.proofs.serving.Serving.end_drains.Goals as goal

pub loop-preserved : goal.loop-preserved
loop-preserved c =
    let first = c.args.self.now in
    let before = c.loop.self in
    let after = c.end_drain.new.self in
    let is = c.loop.invariant in
    record {
      nobody = nobody_yet first before after is.nobody c.end_drain.ensures.nobody;
      same = same_on first before after is.same c.end_drain.ensures.same;
      backlog = backlog_on first before after is.backlog c.end_drain.ensures.backlog;
      freeing = freeing_on first before after is.freeing c.end_drain.ensures.freeing;
      left = grind (arith, common_steps);
      drains = c.end_drain.ensures.gone (search rules) ∙ ap (drop 1) is.drains ∙ drop-drop 1 c.loop.counter (drains_of first);
      closes = drained_on c.args.now c.loop.counter (drains_of first) (drains_of before) (slots_of first) (slots_of before) (slots_of after)
          is.drains is.closes c.end_drain.ensures.closes;
    }

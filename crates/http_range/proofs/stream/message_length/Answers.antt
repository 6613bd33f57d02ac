use Rattle.std.proofs.Common.{◌+◌, ◌≤◌, length, sym, ◌∙◌, arith}
use Rattle.http_range.proofs.MessageLemmas.{first_message, none_more}
use Rattle.http_range.proofs.stream.message_length.Goals as goal

pub loop-n-preserved : goal.loop-n-preserved
loop-n-preserved c = none_more _ _ c.loop-n.invariant (sym c.is_message.ensures ∙ c.if-is_message.false)

pub returns-then-is_message-clause-message : goal.returns-then-is_message-clause-message
returns-then-is_message-clause-message c =
    let within : c.loop-n.n + 1 ≤ length c.args.bytes.now = omega arith in
    (within, first_message c.args.bytes.now c.loop-n.n within c.loop-n.invariant (sym c.is_message.ensures ∙ c.if-is_message.true))

use Rattle.std.proofs.Common.{ap, ◌∙◌}
use Rattle.std.specs.Prelude.{max, option_copied}
use Rattle.http_range.specs.Announced.{announced}
use Rattle.client_dialogue.specs.declared.useful.TheConstants.{FRONT}
use Rattle.client_dialogue.proofs.UsefulLemmas.{none_useful, other_useful, own_useful}
use Rattle.client_dialogue.proofs.useful.useful_length.Goals as goal

pub returns-in_default-asked : goal.returns-in_default-asked
returns-in_default-asked c =
    none_useful c.args.head.now c.args.asked (option_copied c.args.tag) (announced c.in-Head.head) c.in-Head.ensures.reads c.in_default-asked.is

pub returns-then-is_other : goal.returns-then-is_other
returns-then-is_other c =
    other_useful c.args.head.now c.args.asked (option_copied c.args.tag) (announced c.in-Head.head) c.in-Head.ensures.reads c.in-Some.span c.in-Some.is c.if-is_other.ensures

pub returns : goal.returns
returns c =
    own_useful c.args.head.now c.args.asked (option_copied c.args.tag) (announced c.in-Head.head) c.in-Head.ensures.reads c.in-Some.span c.max.result c.in-Some.is
    c.if-is_other.ensures (c.max.ensures ∙ ap (λ n. max n FRONT) c.up_to.ensures)

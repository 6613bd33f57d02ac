use Rattle.std.proofs.Common.{rules, tests}
use Rattle.std.proofs.lemmas.Iterator.Consumers.{YieldsList-from_first}
use Rattle.std.proofs.lemmas.Iterator.Search.{any_from_yields_List}
use Rattle.http_fields.specs.Conditional.{is_match}
use Rattle.http_fields.specs.MemberWalk.{members_left}
use Rattle.http_fields.proofs.conditional.names.Goals as goal

pub returns : goal.returns
returns c =
    any_from_yields_List (is_match c.args.strong c.args.tag.now) _ _ _ c.any.ensures.ran
    (YieldsList-from_first (λ x. x.now) members_left _ c.new.ensures) (λ x b q k. search (rules, tests))

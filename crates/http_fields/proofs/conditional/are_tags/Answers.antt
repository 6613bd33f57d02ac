use Rattle.std.proofs.Common.{rules, tests}
use Rattle.std.proofs.lemmas.Iterator.Consumers.{YieldsList-from_first}
use Rattle.std.proofs.lemmas.Iterator.Search.{all_from_yields_List}
use Rattle.http_fields.specs.Conditional.{may_be_listed}
use Rattle.http_fields.specs.MemberWalk.{members_left}
use Rattle.http_fields.proofs.conditional.are_tags.Goals as goal

pub returns : goal.returns
returns c =
    all_from_yields_List may_be_listed _ _ _ c.all.ensures.ran
    (YieldsList-from_first (λ x. x.now) members_left _ c.new.ensures) (λ x b q k. search (rules, tests))

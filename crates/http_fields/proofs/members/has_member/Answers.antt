use Rattle.std.proofs.Common.{rules, tests}
use Rattle.std.specs.Str.{bytes_eq, str_to_ascii_lowercase}
use Rattle.std.proofs.lemmas.Iterator.Consumers.{YieldsList-from_first}
use Rattle.std.proofs.lemmas.Iterator.Search.{any_from_yields_List}
use Rattle.http_fields.specs.MemberWalk.{members_left}
use Rattle.http_fields.proofs.members.has_member.Goals as goal

pub returns : goal.returns
returns c =
    any_from_yields_List (λ m. bytes_eq (str_to_ascii_lowercase m) (str_to_ascii_lowercase c.args.word.now)) _ _ _ c.any.ensures.ran
    (YieldsList-from_first (λ x. x.now) members_left _ c.new.ensures) (λ x b q k. search (rules, tests))

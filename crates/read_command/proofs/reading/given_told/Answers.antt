use Rattle.std.proofs.Common.{◌≡◌, ◌∙◌, Some, ap, option_copied, rules, subst, sym}
use Rattle.cog_client.specs.Keeps.{Stands}
use Rattle.read_command.proofs.PartLemmas.{given_told}
use Rattle.read_command.proofs.UsedLemmas.{tag_told}
use Rattle.read_command.proofs.reading.given_told.Goals as goal

pub returns-in-Ok-clause-given : goal.returns-in-Ok-clause-given
returns-in-Ok-clause-given c = λ book distinct agrees p among tag.
    let r = c.in_ok-report.report.now in
    let is : option_copied c.report.result ≡ Some r = search rules in
    let stands : Stands c.args.client.now (Some r) = subst (Stands c.args.client.now) is c.report.ensures in
    given_told c.law_fronts_are_read.ensures.answers.one book distinct c.args.client.now r c.in-Info.info c.args.part c.in-Ok.given
    stands agrees c.in-Info.is (search rules) p among (tag ∙ c.copy.ensures.same)

pub returns-in-Ok-clause-tagged : goal.returns-in-Ok-clause-tagged
returns-in-Ok-clause-tagged c = λ book agrees.
    let r = c.in_ok-report.report.now in
    let is : option_copied c.report.result ≡ Some r = search rules in
    let stands : Stands c.args.client.now (Some r) = subst (Stands c.args.client.now) is c.report.ensures in
    tag_told c.args.client.now r book stands agrees ∙ ap Some (sym c.copy.ensures.same)

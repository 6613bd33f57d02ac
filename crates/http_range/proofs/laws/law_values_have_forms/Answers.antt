use Rattle.http_range.proofs.FormLemmas.{content_ranges_are_forms}
use Rattle.http_range.proofs.laws.law_values_have_forms.Goals as goal

pub returns-clause-tags : goal.returns-clause-tags
returns-clause-tags c = c.law_parts_are_read.ensures.quoted

pub returns-clause-ranges : goal.returns-clause-ranges
returns-clause-ranges c = content_ranges_are_forms

use Rattle.http_range.proofs.BookLemmas.{law_tags_tell_publications, publication_tags_kept}
use Rattle.http_range.proofs.laws.law_tags_tell_publications.Goals as goal

pub returns-clause-apart : goal.returns-clause-apart
returns-clause-apart c = law_tags_tell_publications c.law_parts_are_read.ensures

pub returns-clause-kept : goal.returns-clause-kept
returns-clause-kept c = publication_tags_kept c.law_parts_are_read.ensures

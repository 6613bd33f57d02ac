use Rattle.http_range.proofs.BookLemmas.{publish_replaces, published_is_named}
use Rattle.http_range.proofs.laws.law_publications_replace.Goals as goal

pub returns-clause-replaces : goal.returns-clause-replaces
returns-clause-replaces c = publish_replaces

pub returns-clause-named : goal.returns-clause-named
returns-clause-named c = published_is_named

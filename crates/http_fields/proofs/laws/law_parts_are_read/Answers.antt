use Rattle.http_fields.proofs.TagLemmas.{tags_are_quoted, tags_are_visible}
use Rattle.http_fields.proofs.MatchLemmas.{matches_itself}
use Rattle.http_fields.proofs.ListLemmas.{lists_are_matched}
use Rattle.http_fields.proofs.CommaLemmas.{members_stand_between_commas}
use Rattle.http_fields.proofs.DecimalLemmas.{decimals_are_read}
use Rattle.http_fields.proofs.LineLemmas.{lines_are_fields}
use Rattle.http_fields.proofs.VisibleLemmas.{visible_values}
use Rattle.http_fields.proofs.RequestLemmas.{requests_may_stand}
use Rattle.http_fields.proofs.laws.law_parts_are_read.Goals as goal

pub returns : goal.returns
returns c = record {
  quoted = tags_are_quoted;
  tags = tags_are_visible;
  alone = matches_itself;
  lists = lists_are_matched;
  members = members_stand_between_commas;
  decimals = decimals_are_read;
  lines = lines_are_fields;
  values = visible_values;
  requests = requests_may_stand;
}

use Rattle.range_cache.proofs.Parting.{edges_part, parts_bring_none, beside_bring_none, cuts_part, stored_join, stores_join, unwanted_stay}
use Rattle.range_cache.proofs.laws.law_parts_bring_blocks.Goals as goal

pub returns : goal.returns
returns c = record {
  edges = edges_part;
  none = parts_bring_none;
  beside = beside_bring_none;
  cuts = cuts_part;
  stored = stored_join;
  counted = stores_join;
  unwanted = unwanted_stay;
}

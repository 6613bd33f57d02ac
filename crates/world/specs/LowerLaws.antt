-- The laws of lower crates on which the truth of a log rests.
use Rattle.std.specs.Prelude.{◌≡◌, ℕ, List}
use Rattle.tiff_dir.specs.declared.query.Query.{Query}
use Rattle.tiff_dir.specs.Faulty.{IsWindow}
use Rattle.geokeys.specs.Same.{KeysAreUnique}
use Rattle.http_range.specs.Laws.{FrontsAreRead, TagsTellPublications, PublicationTagsAreKept, RequestsAreAnswered, ChecksAreAnswered, ChecksAreRead, PublishReplaces, PublishedIsNamed, HonestyIsKept}
use Rattle.cog_client.specs.Client.{AgreementIsSeen}
use Rattle.cog_client.specs.Report.{TruthIsTold}
use Rattle.cog_client.specs.Progress.{CostIsMost, DeliveryReports, GoingOnLeavesNoMore, OneRangeIsAsked, OwnAnswersAreServed, RequestReports, ServedBringOn}

pub record LowerLaws : Type 0 where
  pub apart : TagsTellPublications
  pub fronts : FrontsAreRead
  pub kept : PublicationTagsAreKept
  pub answered : RequestsAreAnswered
  pub checks : ChecksAreAnswered
  pub read : ChecksAreRead
  pub replaces : PublishReplaces
  pub named : PublishedIsNamed
  pub honest : HonestyIsKept
  pub window : (f : List ℕ) (q : Query) (v u : List ℕ) → IsWindow f q v → IsWindow f q u → v ≡ u
  pub told : TruthIsTold
  pub seen : AgreementIsSeen
  pub geo : KeysAreUnique
  pub cost : CostIsMost
  pub goes : GoingOnLeavesNoMore
  pub request : RequestReports
  pub delivery : DeliveryReports
  pub one_range : OneRangeIsAsked
  pub served : OwnAnswersAreServed
  pub brings : ServedBringOn

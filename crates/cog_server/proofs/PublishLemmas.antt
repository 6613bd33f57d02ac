-- What a publication leaves as it was.
use Rattle.std.proofs.Common.{◌≡◌, ℕ, List, refl, ap, ◌∙◌}
use Rattle.std.specs.Prelude.{◌≢◌}
use Rattle.http_range.specs.Book.{Publication, Catalogue, publish, published}
use Rattle.http_range.specs.Seen.{SeenRequest}
use Rattle.http_range.specs.Response.{answer_by, target_name}
use Rattle.http_range.specs.Laws.{PublishReplaces}
use Rattle.std.proofs.Common.{Some}
use Rattle.cog_server.specs.Server.{OthersStay}

-- an answer depends on the catalogue by the file of the name that it asks for
same_answer : (r : SeenRequest) (old new : Catalogue) → published (target_name r) new ≡ published (target_name r) old → answer_by new (Some r) ≡ answer_by old (Some r)
same_answer r old new e = rw e refl

stay : (name : List ℕ) (old new : Catalogue) → ((other : List ℕ) → other ≢ name → published other new ≡ published other old) → OthersStay name old new
stay name old new files = record { files = files; answers = λ r differ. same_answer r old new (files (target_name r) differ) }

pub others_stay : (laws : PublishReplaces) (p : Publication) (name : List ℕ) (old new : Catalogue) → p.name ≡ name → new ≡ publish p old → OthersStay name old new
others_stay laws p name old new named is =
    stay name old new (λ other differ. ap (published other) is ∙ laws.others p old other (λ e. differ (e ∙ named)))

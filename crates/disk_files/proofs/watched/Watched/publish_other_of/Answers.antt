use Rattle.std.proofs.Common.{◌≡◌, ◌+◌, List, ℕ, Some, subst, take}
use Rattle.std.specs.Prelude.{IsSomeAnd, MatchOption}
use Rattle.cog_server.specs.Server.{IsRefusal, refusal_of}
use Rattle.cog_server.specs.declared.error.PublishError.{PublishError}
use Rattle.cog_server.specs.declared.error.PublishError.TheVariants.{Memory}
use Rattle.http_range.specs.declared.publication.TheConstants.{FILE_LIMIT}
use Rattle.disk_files.proofs.WatchLemmas.{all_of, as_found, at_none, at_some, file_as, kept_ok, refused_as}
use Rattle.disk_files.proofs.watched.Watched.publish_other_of.Goals as goal

pub returns-in-Ok-clause-has : goal.returns-in-Ok-clause-has
returns-in-Ok-clause-has g c = λ whole known small.
    let bytes = c.in-Some.bytes in
    let given = kept_ok c.unpublished_bytes.result c.map_err.result _ c.in_ok-bytes.bytes
    (λ b. (whole : List ℕ) → g.F.Read.remaining c.args.file ≡ Some whole
    → MatchOption b (IsSomeAnd c.file-published.result (λ old. whole ≡ old.now)) (λ b. b.items ≡ take (FILE_LIMIT + 1) whole))
    c.map_err.ensures.cases c.in_ok-bytes.was c.unpublished_bytes.ensures.given whole known in
    let read = at_some c.in_ok-bytes.bytes bytes (IsSomeAnd c.file-published.result (λ old. whole ≡ old.now)) (λ b. b.items ≡ take (FILE_LIMIT + 1) whole)
    c.in-Some.is given in
    file_as c.as_bytes-2.result.now c.args.self.now.name.now bytes.items whole c.publish_other.new.server c.as_bytes-2.ensures.value
    (all_of FILE_LIMIT bytes.items whole read small) c.in-Ok.ensures.has

pub returns-in_default-clause-has : goal.returns-in_default-clause-has
returns-in_default-clause-has g c = λ whole known small.
    let given = kept_ok c.unpublished_bytes.result c.map_err.result _ c.in_ok-bytes.bytes
    (λ b. (whole : List ℕ) → g.F.Read.remaining c.args.file ≡ Some whole
    → MatchOption b (IsSomeAnd c.file-published.result (λ old. whole ≡ old.now)) (λ b. b.items ≡ take (FILE_LIMIT + 1) whole))
    c.map_err.ensures.cases c.in_ok-bytes.was c.unpublished_bytes.ensures.given whole known in
    let found = at_none c.in_ok-bytes.bytes (IsSomeAnd c.file-published.result (λ old. whole ≡ old.now)) (λ b. b.items ≡ take (FILE_LIMIT + 1) whole)
    c.in_default.is given in
    as_found c.args.self.now.name.now c.as_bytes.result.now whole c.args.server.now c.file-published.result c.as_bytes.ensures.value c.file-published.ensures found

pub returns-in-Err-Memory-clause-refused_as : goal.returns-in-Err-Memory-clause-refused_as
returns-in-Err-Memory-clause-refused_as g c = λ whole known.
    let bytes = c.in-Some.bytes in
    let given = kept_ok c.unpublished_bytes.result c.map_err.result _ c.in_ok-bytes.bytes
    (λ b. (whole : List ℕ) → g.F.Read.remaining c.args.file ≡ Some whole
    → MatchOption b (IsSomeAnd c.file-published.result (λ old. whole ≡ old.now)) (λ b. b.items ≡ take (FILE_LIMIT + 1) whole))
    c.map_err.ensures.cases c.in_ok-bytes.was c.unpublished_bytes.ensures.given whole known in
    let read = at_some c.in_ok-bytes.bytes bytes (IsSomeAnd c.file-published.result (λ old. whole ≡ old.now)) (λ b. b.items ≡ take (FILE_LIMIT + 1) whole)
    c.in-Some.is given in
    refused_as c.args.server.now c.as_bytes-2.result.now c.args.self.now.name.now bytes.items (take (FILE_LIMIT + 1) whole) Memory
    c.as_bytes-2.ensures.value read (subst (λ (e : PublishError). IsRefusal (refusal_of c.args.server.now.count c.args.server.now.catalogue c.as_bytes-2.result.now bytes.items) e)
    c.in-Err-Memory.field-0-is c.in-Err-Memory.ensures.refused)

pub returns-in-Err-clause-refused_as : goal.returns-in-Err-clause-refused_as
returns-in-Err-clause-refused_as g c = λ whole known.
    let bytes = c.in-Some.bytes in
    let given = kept_ok c.unpublished_bytes.result c.map_err.result _ c.in_ok-bytes.bytes
    (λ b. (whole : List ℕ) → g.F.Read.remaining c.args.file ≡ Some whole
    → MatchOption b (IsSomeAnd c.file-published.result (λ old. whole ≡ old.now)) (λ b. b.items ≡ take (FILE_LIMIT + 1) whole))
    c.map_err.ensures.cases c.in_ok-bytes.was c.unpublished_bytes.ensures.given whole known in
    let read = at_some c.in_ok-bytes.bytes bytes (IsSomeAnd c.file-published.result (λ old. whole ≡ old.now)) (λ b. b.items ≡ take (FILE_LIMIT + 1) whole)
    c.in-Some.is given in
    refused_as c.args.server.now c.as_bytes-2.result.now c.args.self.now.name.now bytes.items (take (FILE_LIMIT + 1) whole) c.in-Err.refusal
    c.as_bytes-2.ensures.value read c.in-Err.ensures.refused

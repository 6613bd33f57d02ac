use Rattle.std.proofs.Common.{◌≡◌, ◌+◌, List, ℕ, Some, ap, rules, take}
use Rattle.http_range.specs.declared.publication.TheConstants.{FILE_LIMIT}
use Rattle.disk_files.proofs.WatchLemmas.{all_of, file_as, file_there, kept_ok, refused_as}
use Rattle.disk_files.proofs.watched.Watched.publish_all_of.Goals as goal

pub returns-in-Ok-clause-has : goal.returns-in-Ok-clause-has
returns-in-Ok-clause-has g c = λ whole known small.
    let bytes = c.in_ok-bytes.bytes in
    let given = kept_ok c.enough_of.result c.map_err.result _ bytes
    (λ b. (whole : List ℕ) → g.F.Read.remaining c.args.file ≡ Some whole → b.items ≡ take (FILE_LIMIT + 1) whole)
    c.map_err.ensures.cases c.in_ok-bytes.was c.enough_of.ensures whole known in
    let there = file_there c.law_publications_replace.ensures.replaces c.as_bytes.result.now c.in-Ok.tag bytes.items c.args.server.now c.publish.new.self
    (ap (λ s. s.catalogue) c.in-Ok.ensures.ok) in
    file_as c.as_bytes.result.now c.args.self.now.name.now bytes.items whole c.publish.new.self c.as_bytes.ensures.value
    (all_of FILE_LIMIT bytes.items whole given small) there

pub returns-in-Err-clause-refused_as : goal.returns-in-Err-clause-refused_as
returns-in-Err-clause-refused_as g c = λ whole known.
    let bytes = c.in_ok-bytes.bytes in
    let given = kept_ok c.enough_of.result c.map_err.result _ bytes
    (λ b. (whole : List ℕ) → g.F.Read.remaining c.args.file ≡ Some whole → b.items ≡ take (FILE_LIMIT + 1) whole)
    c.map_err.ensures.cases c.in_ok-bytes.was c.enough_of.ensures whole known in
    refused_as c.args.server.now c.as_bytes.result.now c.args.self.now.name.now bytes.items (take (FILE_LIMIT + 1) whole) c.in-Err.refusal
    c.as_bytes.ensures.value given (search rules)

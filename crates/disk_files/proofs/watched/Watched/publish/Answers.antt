use Rattle.std.proofs.Common.{◌≡◌, ℕ, List, Some, rules, subst}
use Rattle.cog_server.specs.Server.{refusal_of}
use Rattle.disk_files.specs.Watching.{IsRefusedOf}
use Rattle.disk_files.proofs.WatchLemmas.{handed_on, of_disk, of_length, refused_by_size, refused_of}
use Rattle.disk_files.proofs.watched.Watched.publish.Goals as goal

pub returns-in_err-look-clause-refused : goal.returns-in_err-look-clause-refused
returns-in_err-look-clause-refused g c =
    handed_on c.from_residual.result _ _ (c.in_err-look.ensures.refused c.args.server.now c.args.self.now.name.now)
    c.from_residual.ensures.1

pub returns-in_err-file-clause-refused : goal.returns-in_err-file-clause-refused
returns-in_err-file-clause-refused g c =
    handed_on c.from_residual-in_err-file.result _ _ (c.in_err-file.ensures.refused c.args.server.now c.args.self.now.name.now)
    c.from_residual-in_err-file.ensures.1

pub returns-in-Some-clause-refused : goal.returns-in-Some-clause-refused
returns-in-Some-clause-refused g c =
    refused_by_size c.args.server.now c.args.self.now.name.now c.in_ok-file.size c.in-Some.refusal
    (λ t file is. subst (λ (name : List ℕ). refusal_of t.count t.catalogue name file ≡ Some c.in-Some.refusal) c.as_bytes.ensures.value
    (c.in-Some.ensures.refused t file is))

pub returns-in_err-look-clause-refused_of : goal.returns-in_err-look-clause-refused_of
returns-in_err-look-clause-refused_of g c =
    handed_on c.from_residual.result (IsRefusedOf g.R.File.Read.remaining c.args.server.now c.args.self.now.name.now) _
    (of_disk g.R.File.Read.remaining c.args.server.now c.args.self.now.name.now _ c.in_err-look.ensures.disk) c.from_residual.ensures.1

pub returns-in_err-file-clause-refused_of : goal.returns-in_err-file-clause-refused_of
returns-in_err-file-clause-refused_of g c =
    handed_on c.from_residual-in_err-file.result (IsRefusedOf g.R.File.Read.remaining c.args.server.now c.args.self.now.name.now) _
    (of_disk g.R.File.Read.remaining c.args.server.now c.args.self.now.name.now _ c.in_err-file.ensures.disk) c.from_residual-in_err-file.ensures.1

pub returns-in-Some-clause-refused_of : goal.returns-in-Some-clause-refused_of
returns-in-Some-clause-refused_of g c =
    of_length g.R.File.Read.remaining c.args.server.now c.args.self.now.name.now c.in_ok-file.size c.in-Some.refusal (search rules)
    (λ t file is. subst (λ (name : List ℕ). refusal_of t.count t.catalogue name file ≡ Some c.in-Some.refusal) c.as_bytes.ensures.value
    (c.in-Some.ensures.refused t file is))

pub returns-clause-refused_of : goal.returns-clause-refused_of
returns-clause-refused_of g c =
    refused_of g.R.File.Read.remaining c.args.server.now c.args.self.now.name.now c.in_ok-file.file _ c.publish_all_of.ensures.refused_as

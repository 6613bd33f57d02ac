use Rattle.scripts.proofs.FileLemmas.{file_at-added}
use Rattle.scripts.proofs.source.Loaded.add.Goals as goal

pub returns-clause-ok : goal.returns-clause-ok
returns-clause-ok c = λ at. file_at-added c.args.self.now (record { alloc = c.args.self.now.alloc; files = c.push.new.self }) (record { path = c.in_ok-path.path; bytes = c.args.bytes }) c.args.path.now at c.in_ok-push.ensures.items c.in_ok-path.ensures.items

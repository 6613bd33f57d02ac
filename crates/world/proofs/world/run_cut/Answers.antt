use Rattle.world.specs.Run.{IsTrueLog}
use Rattle.world.proofs.Whole.{then_ok_of}
use Rattle.world.proofs.world.run_cut.Goals as goal

pub returns-clause-whole : goal.returns-clause-whole
returns-clause-whole c = then_ok_of c.run_with.result (λ (t : IsTrueLog c.args.events.now c.run_with.new.log.entries.items c.run_with.new.log.clients.items). t.whole) c.run_with.ensures.truth

pub returns-clause-true_reports : goal.returns-clause-true_reports
returns-clause-true_reports c = then_ok_of c.run_with.result (λ (t : IsTrueLog c.args.events.now c.run_with.new.log.entries.items c.run_with.new.log.clients.items). t.true_reports) c.run_with.ensures.truth

pub returns-clause-alike : goal.returns-clause-alike
returns-clause-alike c = then_ok_of c.run_with.result (λ (t : IsTrueLog c.args.events.now c.run_with.new.log.entries.items c.run_with.new.log.clients.items). t.alike) c.run_with.ensures.truth

pub returns-clause-needed : goal.returns-clause-needed
returns-clause-needed c = then_ok_of c.run_with.result (λ (t : IsTrueLog c.args.events.now c.run_with.new.log.entries.items c.run_with.new.log.clients.items). t.needed) c.run_with.ensures.truth

pub returns-clause-progress : goal.returns-clause-progress
returns-clause-progress c = then_ok_of c.run_with.result (λ (t : IsTrueLog c.args.events.now c.run_with.new.log.entries.items c.run_with.new.log.clients.items). t.progress) c.run_with.ensures.truth

pub returns-clause-checked : goal.returns-clause-checked
returns-clause-checked c = then_ok_of c.run_with.result (λ (t : IsTrueLog c.args.events.now c.run_with.new.log.entries.items c.run_with.new.log.clients.items). t.checked) c.run_with.ensures.truth

pub returns-clause-distinct : goal.returns-clause-distinct
returns-clause-distinct c = then_ok_of c.run_with.result (λ (t : IsTrueLog c.args.events.now c.run_with.new.log.entries.items c.run_with.new.log.clients.items). t.distinct) c.run_with.ensures.truth

pub returns-clause-honest : goal.returns-clause-honest
returns-clause-honest c = then_ok_of c.run_with.result (λ (t : IsTrueLog c.args.events.now c.run_with.new.log.entries.items c.run_with.new.log.clients.items). t.honest) c.run_with.ensures.truth

pub returns-clause-clients : goal.returns-clause-clients
returns-clause-clients c = c.run_with.ensures.left

use Rattle.std.proofs.Common.{ap, ◌∙◌, subst, Some}
use Rattle.cog_server.specs.Status.{Status}
use Rattle.server_connections.specs.declared.timed.Timed.{Timed}
use Rattle.server_connections.specs.Table.{Becomes}
use Rattle.server_connections.proofs.TableLemmas.{accepted, becomes_new, falling_accepted, new_number, one_more}
use Rattle.server_connections.proofs.table.Connections.accept.Goals as goal

pub invariant_of-self-2 : goal.invariant_of-self-2
invariant_of-self-2 c =
    let s = c.args.self.now in
    let p : Timed = record { connection = c.new-connection.result; progress = c.args.now; tried = c.args.now } in
    record {
      fresh = falling_accepted s.next p s.table.entries _ s.fresh
          (ap (λ x. x.entries) c.in_ok-push.ensures.entries ∙ accepted s.table s.next p s.fresh c.requires);
    }

pub returns-clause-table : goal.returns-clause-table
returns-clause-table c =
    let s = c.args.self.now in
    let p : Timed = record { connection = c.new-connection.result; progress = c.args.now; tried = c.args.now } in
    subst (λ (t : Status). Becomes s.next (Some (record { connection = t; progress = c.args.now; tried = c.args.now })) s.table.entries c.push.new.self.entries) c.new-connection.ensures
    (becomes_new s.next p s.table.entries _ (ap (λ x. x.entries) c.in_ok-push.ensures.entries ∙ accepted s.table s.next p s.fresh c.requires))

pub returns-clause-unused : goal.returns-clause-unused
returns-clause-unused c = new_number c.args.self.now.next c.args.self.now.table.entries c.args.self.now.fresh

pub returns-clause-grows : goal.returns-clause-grows
returns-clause-grows c =
    let s = c.args.self.now in
    let p : Timed = record { connection = c.new-connection.result; progress = c.args.now; tried = c.args.now } in
    one_more (s.next, p) s.table.entries _ (ap (λ x. x.entries) c.in_ok-push.ensures.entries ∙ accepted s.table s.next p s.fresh c.requires)

use Rattle.std.proofs.Common.{subst, sym}
use Rattle.std.specs.Prelude.{IsSomeAnd}
use Rattle.cog_server.specs.Service.{service_of}
use Rattle.cog_server.specs.Status.{Rests}
use Rattle.server_connections.specs.declared.timed.Timed.{Timed}
use Rattle.server_connections.proofs.TableLemmas.{anyway, changes, falling_set, goes_on_at}
use Rattle.server_connections.proofs.table.Connections.go_on.Goals as goal

pub invariant_of-self-2 : goal.invariant_of-self-2
invariant_of-self-2 c =
    record { fresh = falling_set c.args.number c.args.self.now.next c.args.self.now.table.entries c.go_on.new.self c.args.self.now.fresh }

pub returns-in_err-status-clause-err : goal.returns-in_err-status-clause-err
returns-in_err-status-clause-err c =
    anyway c.from_residual.result
    (changes c.args.number (λ p. p) c.args.self.now.table.entries c.in-Some.timed.now c.go_on.new.self (sym c.in-Some.ensures.value) c.in_err-status.ensures.err)

pub returns-in_err-status-clause-wants : goal.returns-in_err-status-clause-wants
returns-in_err-status-clause-wants c =
    anyway c.from_residual.result
    (subst (λ o. IsSomeAnd o (λ (p : Timed). ¬ Rests p.connection)) c.in-Some.ensures.value c.in_err-status.ensures.wants)

pub returns-clause-ok : goal.returns-clause-ok
returns-clause-ok c =
    goes_on_at (service_of c.args.service.now) c.args.number c.args.now c.args.self.now.table.entries c.in-Some.timed.now c.go_on.new.self c.in_ok-status.status
    (sym c.in-Some.ensures.value) c.in_ok-status.ensures.ok c.in_ok-status.ensures.progress c.in_ok-status.ensures.tried

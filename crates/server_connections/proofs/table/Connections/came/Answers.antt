use Rattle.std.proofs.Common.{◌≡◌, false, subst, sym}
use Rattle.std.specs.Prelude.{IsSomeAnd}
use Rattle.cog_server.specs.Status.{after_bytes, is_closing}
use Rattle.server_connections.specs.declared.timed.Timed.{Timed}
use Rattle.server_connections.proofs.TableLemmas.{anyway, changes, falling_set}
use Rattle.server_connections.proofs.table.Connections.came.Goals as goal

pub invariant_of-self-2 : goal.invariant_of-self-2
invariant_of-self-2 c =
    record { fresh = falling_set c.args.number c.args.self.now.next c.args.self.now.table.entries c.came.new.self c.args.self.now.fresh }

pub returns-in_err-came-clause-err : goal.returns-in_err-came-clause-err
returns-in_err-came-clause-err c =
    anyway c.from_residual.result
    (changes c.args.number (λ p. p) c.args.self.now.table.entries c.in-Some.timed.now c.came.new.self (sym c.in-Some.ensures.value) c.in_err-came.ensures.err)

pub returns-in_err-came-clause-wants : goal.returns-in_err-came-clause-wants
returns-in_err-came-clause-wants c =
    anyway c.from_residual.result
    (subst (λ o. IsSomeAnd o (λ (p : Timed). is_closing p.connection ≡ false)) c.in-Some.ensures.value c.in_err-came.ensures.wants)

pub returns-clause-ok : goal.returns-clause-ok
returns-clause-ok c =
    changes c.args.number (λ (p : Timed). record { connection = after_bytes c.args.bytes.now p.connection; progress = p.progress; tried = p.tried }) c.args.self.now.table.entries
    c.in-Some.timed.now c.came.new.self (sym c.in-Some.ensures.value) c.in_ok-came.ensures.ok

-- Runs from a connection's start.
use Rattle.std.proofs.Common.{◌≡◌, ◌++◌, ℕ, [], Option, None, Some, refl, sym, ap, ◌∙◌, subst, inl, inr}
use Rattle.std.specs.Prelude.{IfSome, IsSomeAnd}
use Rattle.cog_server.specs.Additions.{ServiceState}
use Rattle.cog_server.specs.Run.{Past, RunsAreAnswered, none_yet, run}
use Rattle.cog_server.specs.Status.{start}
use Rattle.server_connections.specs.declared.timed.Timed.{Timed}
use Rattle.server_connections.specs.Table.{Table, timed_at}
use Rattle.server_sockets.specs.Going.{HasRun, RunsGoOn, WentOn, since}
use Rattle.server_sockets.proofs.GoingLemmas.{can_append, run_append, same_can, same_run}

started : RunsAreAnswered → HasRun start
started law = record { events = []; can = tt; status = refl; alone = law [] tt }

further : RunsAreAnswered → (service : ServiceState) (now : ℕ) (p q : Timed) → HasRun p.connection → WentOn service now p q → HasRun q.connection
further law service now p q ran went =
    let middle = run ran.events none_yet in
    let again = since p.connection in
    let can = can_append ran.events went.events none_yet ran.can (same_can went.events again middle ran.status went.can) in
    record {
      events = ran.events ++ went.events;
      can = can;
      status = went.connection ∙ same_run went.events again middle ran.status
          ∙ ap (λ (x : Past). x.status) (sym (run_append ran.events went.events none_yet));
      alone = law (ran.events ++ went.events) can;
    }

further_at : RunsAreAnswered → (service : ServiceState) (now k : ℕ) (old : Table) (q : Timed) (o : Option Timed) → timed_at k old ≡ o
    → ((p : Timed) → timed_at k old ≡ Some p → HasRun p.connection) → IsSomeAnd o (λ before. WentOn service now before q) → HasRun q.connection
further_at law service now k old q None is ran went = absurd went
further_at law service now k old q (Some p) is ran went = further law service now p q (ran p is) went

pub runs_on : RunsAreAnswered → RunsGoOn
runs_on law service now old new round ran k q there =
    elim (round.each k q there) [
      | inl went ↦ further_at law service now k old q (timed_at k old) refl (ran k) went
      | inr starts ↦ subst (λ (o : Option Timed). IfSome o (λ t. HasRun t.connection)) (sym starts ∙ there) (started law)
    ]

use Rattle.std.proofs.Common.{◌≤◌, arith, inl, inr, refl, subst}
use Rattle.server_sockets.specs.Slots.{accepted_of, limits_of}
use Rattle.server_sockets.specs.declared.serving.Limits.{Limits}
use Rattle.server_files.specs.Publishing.{never}
use Rattle.server_files.proofs.rounds.serve_connections.Goals as goal

pub returns-in-Err-clause-anew : goal.returns-in-Err-clause-anew
returns-in-Err-clause-anew g c = never

pub returns-in-Err-clause-went : goal.returns-in-Err-clause-went
returns-in-Err-clause-went g c = inl (tt, refl, refl)

pub returns-clause-went : goal.returns-clause-went
returns-clause-went g c =
    let first = c.in-Ok.serving in
    let last = c.serve_rounds.new.serving in
    let new = c.in-Ok.ensures in
    let none : accepted_of first ≤ (limits_of first).connections = omega (arith, new.none.0) in
    inr (record {
      first = first;
      last = last;
      begins = record { slots = new.none.2; accepted = new.none.0; limits = new.limits; room = new.room };
      went = c.serve_rounds.ensures.went;
      few = subst (λ (l : Limits). accepted_of last ≤ l.connections) new.limits (c.serve_rounds.ensures.limits.few none);
      over = c.serve_rounds.ensures.over;
    })

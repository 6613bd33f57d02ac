use Rattle.std.proofs.Common.{refl, subst, sym, to_z-of_z, w32, rules}
use Rattle.std.specs.Prelude.{Contains}
use Rattle.server_sockets.specs.Refusals.{lost, no_room}
use Rattle.server_sockets.proofs.RefusalLemmas.{found}
use Rattle.server_sockets.proofs.refusal.refusal_of.Goals as goal

pub returns-then-contains-clause-lost : goal.returns-then-contains-clause-lost
returns-then-contains-clause-lost c =
    ((λ _. subst (Contains lost) (to_z-of_z {w = w32} {z = c.args.number} (search rules)) (found _ lost (sym c.if-contains.ensures.value))), (λ _. refl))

pub returns-then-contains-2-clause-no_room : goal.returns-then-contains-2-clause-no_room
returns-then-contains-2-clause-no_room c = (
  (λ _. subst (Contains no_room) (to_z-of_z {w = w32} {z = c.args.number} (search rules)) (found _ no_room (sym c.if-contains-2.ensures.value))),
  (λ _. refl),
)

use Rattle.std.proofs.Common.{refl}
use Rattle.client_connection.proofs.HeadLemmas.{sound_between}
use Rattle.client_connection.proofs.connection.ClientConnection.finish.Goals as goal

pub invariant_of-self : goal.invariant_of-self
invariant_of-self c = sound_between c.law_frames_grow.ensures _ _ _ c.clear.ensures.items (λ _. refl)

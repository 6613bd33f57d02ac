use Rattle.client_connection.proofs.HeadLemmas.{sound_between}
use Rattle.client_connection.proofs.connection.ClientConnection.take_interim.Goals as goal

pub invariant_of-self : goal.invariant_of-self
invariant_of-self c = sound_between c.law_frames_grow.ensures _ _ _ c.clear.ensures.items c.self.invariant.alone

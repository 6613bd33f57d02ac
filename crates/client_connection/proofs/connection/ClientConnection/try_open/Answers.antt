use Rattle.std.proofs.Common.{◌∙◌, ap}
use Rattle.client_connection.specs.Status.{Status}
use Rattle.client_connection.proofs.HeadLemmas.{sound_between}
use Rattle.client_connection.proofs.connection.ClientConnection.try_open.Goals as goal

pub invariant_of-self : goal.invariant_of-self
invariant_of-self c =
    let is = c.self.view_is ∙ c.end_for_request.ensures in
    sound_between c.law_frames_grow.ensures _ _ _ (ap (λ (t : Status). t.head) is) (λ _. ap (λ (t : Status). t.left) is)

pub invariant_of-self-in_err-extend_from_slice : goal.invariant_of-self-in_err-extend_from_slice
invariant_of-self-in_err-extend_from_slice c =
    let is = c.self.view_is ∙ c.end_for_request.ensures in
    sound_between c.law_frames_grow.ensures _ _ _ (ap (λ (t : Status). t.head) is) (λ _. ap (λ (t : Status). t.left) is)

pub invariant_of-self-in_default : goal.invariant_of-self-in_default
invariant_of-self-in_default c =
    let is = c.self.view_is ∙ c.end_for_request.ensures in
    sound_between c.law_frames_grow.ensures _ _ _ (ap (λ (t : Status). t.head) is) (λ _. ap (λ (t : Status). t.left) is)

use Rattle.std.specs.Prelude.{is_ok}
use Rattle.cog_server.proofs.HeldLemmas.{added}
use Rattle.cog_server.proofs.pending_input.PendingInput.add.Goals as goal

pub invariant_of-self : goal.invariant_of-self
invariant_of-self c =
    let old = c.args.self.now in
    let held = added (is_ok c.extend_from_slice.result) old.bytes.items c.args.bytes.now _ old.scanned c.extend_from_slice.ensures.items c.requires old.searched old.none in
    record { small = held.small; searched = held.searched; none = held.none }

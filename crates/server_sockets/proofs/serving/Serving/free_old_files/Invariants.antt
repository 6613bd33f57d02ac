use Rattle.std.specs.Prelude.{◌≡◌, length}
use Rattle.server_sockets.specs.Closings.{ChangesOnly, IsOverdueAt}
use Rattle.server_sockets.specs.Slots.{KeepsBacklog, NobodyComes, NoneChanges, limits_of, slots_of}
use Rattle.server_sockets.proofs.serving.Serving.free_old_files.Given as goal

abbrev pub invariant-loop : goal.invariant-loop
invariant-loop l = record {
  nobody : NobodyComes l.fn.self l.self;
  same : NoneChanges l.fn.self l.self;
  backlog : KeepsBacklog l.fn.self l.self;
  drains : l.self.drains ≡ l.fn.self.drains;
  limits : limits_of l.self ≡ limits_of l.fn.self;
  closes : ChangesOnly (IsOverdueAt l.server.catalogue l.now (limits_of l.fn.self).patience (slots_of l.fn.self)) (slots_of l.fn.self) (slots_of l.self);
}

abbrev pub decreases-loop : goal.decreases-loop
decreases-loop l = length (slots_of l.self)

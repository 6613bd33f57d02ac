use Rattle.std.specs.Prelude.{◌≡◌, ◌+◌, drop, length}
use Rattle.server_sockets.specs.Closings.{ChangesOnly, HasDrained}
use Rattle.server_sockets.specs.Slots.{KeepsBacklog, KeepsFreeing, NobodyComes, NoneChanges, drains_of, slots_of}
use Rattle.server_sockets.proofs.serving.Serving.end_drains.Given as goal

abbrev pub invariant-loop : goal.invariant-loop
invariant-loop l = record {
  nobody : NobodyComes l.fn.self l.self;
  same : NoneChanges l.fn.self l.self;
  backlog : KeepsBacklog l.fn.self l.self;
  freeing : KeepsFreeing l.fn.self l.self;
  left : l.counter + length l.self.drains.items ≡ l.end;
  drains : drains_of l.self ≡ drop l.counter (drains_of l.fn.self);
  closes : ChangesOnly (HasDrained l.now (drains_of l.fn.self)) (slots_of l.fn.self) (slots_of l.self);
}

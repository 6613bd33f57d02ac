use Rattle.std.specs.Prelude.{◌≡◌, Contains, drop, length}
use Rattle.cog_server.specs.Service.{service_of}
use Rattle.server_sockets.specs.Closings.{BeginsWith, ChangesOnly, DrainsOnly}
use Rattle.server_sockets.specs.Going.{AllWentOn}
use Rattle.server_sockets.specs.Slots.{KeepsBacklog, KeepsFreeing, NobodyComes, drains_of, ready_of, slots_of}
use Rattle.server_sockets.proofs.serving.Serving.turns.Given as goal

abbrev pub invariant-loop : goal.invariant-loop
invariant-loop g l = record {
  nobody : NobodyComes l.fn.self l.self;
  backlog : KeepsBacklog l.fn.self l.self;
  freeing : KeepsFreeing l.fn.self l.self;
  went : AllWentOn (service_of l.service) l.now (slots_of l.fn.self) (slots_of l.self);
  all : l.end ≡ length (ready_of l.fn.self);
  queue : BeginsWith (ready_of l.self) (drop l.counter (ready_of l.fn.self));
  queued : ChangesOnly (Contains (ready_of l.fn.self)) (slots_of l.fn.self) (slots_of l.self);
  drains : DrainsOnly (Contains (ready_of l.fn.self)) (drains_of l.fn.self) (drains_of l.self);
}

use Rattle.std.specs.Prelude.{◌≡◌, ◌+◌, ◌-◌, ◌*◌, ◌<◌, ◌≤◌, false, length}
use Rattle.server_sockets.specs.Slots.{HasNoSlot, StayOrStart, KeepsAll, KeepsBusy, KeepsTurns, accepted_of, ended_of, limits_of, next_of, slots_of, slot_count}
use Rattle.server_sockets.proofs.serving.Serving.accept.Given as goal

abbrev pub invariant-loop : goal.invariant-loop
invariant-loop l = record {
  limits : limits_of l.self ≡ limits_of l.fn.self;
  room : slot_count l.self ≡ slot_count l.fn.self;
  before : l.before ≡ accepted_of l.fn.self;
  more : accepted_of l.fn.self ≤ accepted_of l.self;
  ended : ended_of l.fn.self ≤ ended_of l.self;
  busy : KeepsBusy l.now l.fn.self l.self;
  numbers : next_of l.self ≤ next_of l.fn.self + (accepted_of l.self - accepted_of l.fn.self);
  fed : l.fn.self.out_of_descriptors ≡ false → l.self.out_of_descriptors ≡ false;
  spared : l.fn.self.out_of_descriptors ≡ false → length (slots_of l.fn.self) < slot_count l.fn.self → KeepsAll l.fn.self l.self;
  asked : l.fn.self.out_of_descriptors ≡ false → length (slots_of l.fn.self) < slot_count l.fn.self
      → slot_count l.self ≤ length (slots_of l.self) → l.self.accept_pending ≡ false;
  due : KeepsTurns l.fn.self l.self;
  newcomers : StayOrStart l.now l.fn.self l.self;
  quiet : l.fn.self.accept_pending ≡ false → l.self ≡ l.fn.self;
  full : (limits_of l.fn.self).connections ≤ accepted_of l.fn.self → l.self ≡ l.fn.self;
  waits : HasNoSlot l.now l.fn.self → l.self ≡ l.fn.self;
  few : accepted_of l.fn.self ≤ (limits_of l.fn.self).connections → accepted_of l.self ≤ (limits_of l.fn.self).connections;
}

abbrev pub decreases-loop : goal.decreases-loop
decreases-loop l = 2 * ((limits_of l.self).connections - accepted_of l.self) + length (slots_of l.self)

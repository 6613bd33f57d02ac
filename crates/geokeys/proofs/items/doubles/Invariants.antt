use Rattle.std.proofs.Common.{◌≡◌, ◌+◌, ◌*◌, ◌≤◌, length, drop, map}
use Rattle.std.specs.List.{range_with_len, slice_range}
use Rattle.geokeys.specs.Doubles.{big_first}
use Rattle.geokeys.proofs.items.doubles.Given as goal

abbrev pub invariant-loop-item : goal.invariant-loop-item
invariant-loop-item l = record {
  size : l.item-iterator.size ≡ 8;
  within : 8 * length l.items.items ≤ length l.bytes;
  rest : l.item-iterator.rest.now ≡ drop (8 * length l.items.items) l.bytes;
  items : l.items.items ≡ map (λ i. big_first l.order (slice_range l.bytes (8 * i) (8 * i + 8))) (range_with_len 0 (length l.items.items));
}

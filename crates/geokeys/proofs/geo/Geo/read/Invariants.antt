use Rattle.std.proofs.Common.{◌≡◌, ℕ, length}
use Rattle.std.specs.List.{slice_get}
use Rattle.std.specs.Option.{IfSome}
use Rattle.geokeys.specs.Keys.{key_source, IsKey}
use Rattle.geokeys.proofs.Numbers.{Ascend, ArePlaced}
use Rattle.geokeys.proofs.geo.Geo.read.Given as goal

abbrev pub invariant-loop-i : goal.invariant-loop-i
invariant-loop-i l = record {
  size : length l.keys.items ≡ l.i;
  each : (k : ℕ) → IfSome (slice_get l.keys.items k) (IsKey (key_source l.order l.directory l.doubles l.ascii) l.order l.doubles l.ascii k);
  ascend : Ascend l.order l.directory l.i;
  placed : ArePlaced l.order l.directory l.doubles l.ascii l.i;
}

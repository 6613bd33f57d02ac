use Rattle.std.proofs.Common.{◌≡◌}
use Rattle.std.specs.Prelude.{take}
use Rattle.geokeys.specs.Same.{contents}
use Rattle.cog_client.proofs.report.copy_geo.Given as goal

abbrev pub invariant-loop-key : goal.invariant-loop-key
invariant-loop-key l = contents l.keys.items ≡ contents (take l.key-index l.key-items)

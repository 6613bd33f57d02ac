use Rattle.std.proofs.Common.{refl}
use Rattle.fixtures_support.specs.Files.{large_head}
use Rattle.fixtures_support.proofs.large.head_of_large.Goals as goal

pub returns : goal.returns
unfolding large_head
returns c = rw (c.in_ok-push_even_tile.ensures, c.in_ok-out.ensures) refl

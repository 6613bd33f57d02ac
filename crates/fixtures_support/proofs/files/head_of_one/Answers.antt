use Rattle.std.proofs.Common.{refl}
use Rattle.fixtures_support.specs.Files.{one_tile_head}
use Rattle.fixtures_support.proofs.files.head_of_one.Goals as goal

pub returns : goal.returns
unfolding one_tile_head
returns c = rw (c.in_ok-push_directory.ensures, c.in_ok-push_header.ensures, c.new-out.ensures.items, c.short.ensures, c.short-2.ensures, c.short-3.ensures, c.short-4.ensures, c.short-5.ensures, c.short-6.ensures, c.short-7.ensures, c.long.ensures, c.long-2.ensures) refl

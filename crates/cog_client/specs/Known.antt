-- Which bytes of the file a client has.
use Rattle.std.specs.Prelude.{ℕ, ◌+◌, Bool, false, ◌&&◌, ◌==◌, nat_le}
use Rattle.std.specs.Option.{option_map_or}
use Rattle.extents.specs.Block.{first_block, blocks}
use Rattle.range_cache.specs.Cache.{numbers}
use Rattle.range_cache.specs.Numbers.{missing}
use Rattle.cog_client.specs.Case.{Revision}
use Rattle.cog_client.specs.Client.{ClientState, blocks_of, revision_of}

-- The `len` bytes from `first` on lie within the file that is read, and no block that they touch is missing.
unfoldable pub has_bytes : ClientState → ℕ → ℕ → Bool
has_bytes c first len = option_map_or
    (λ (v : Revision). nat_le (first + len) v.complete && missing (numbers (blocks_of c).entries) (first_block first) (blocks first len) == 0)
    (revision_of c) false

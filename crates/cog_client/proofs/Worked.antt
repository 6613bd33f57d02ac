-- What is left of ranges of a file of 20 bytes, which is one block.
use Rattle.std.proofs.Common.{◌≡◌, ℕ, List, [], ◌∷◌, replicate, refl}
use Rattle.extents.specs.Extent.{Extent}
use Rattle.range_cache.specs.Numbers.{missing}
use Rattle.cog_client.specs.Progress.{blocks_of_ranges, left_of}

abbrev file : List ℕ
file = replicate 20 0

abbrev range : ℕ → ℕ → Extent
range first len = record { first = first; len = len }

-- two ranges in the file, one past its end, and one without bytes
abbrev ranges : List Extent
ranges = range 0 8 ∷ range 8 12 ∷ range 8 13 ∷ range 20 0 ∷ []

all_of_them : blocks_of_ranges file ranges ≡ 2
all_of_them = refl

nothing_there : left_of file [] ranges ≡ 2
unfolding missing
nothing_there = refl

-- the block is there: the range that is needed next isn't missing, and the later ones count whole
block_there : left_of file (7 ∷ 0 ∷ []) ranges ≡ 1
unfolding missing
block_there = refl

-- a range past the end counts for nothing
past_the_end : left_of file [] (range 8 13 ∷ []) ≡ 0
past_the_end = refl

no_ranges : left_of file [] [] ≡ 0
no_ranges = refl

-- a range of three blocks, of which the middle one is there
some_there : missing (1 ∷ []) 0 3 ≡ 2
unfolding missing
some_there = refl

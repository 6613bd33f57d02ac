-- The faults of small files with one value wrong, by computation, and none of them in the file without.
use Rattle.tiff_dir.specs.declared.tags.TheConstants.{BITS_PER_SAMPLE, COMPRESSION, TILE_BYTE_COUNTS, TILE_LENGTH, TILE_WIDTH}
use Rattle.tiff_dir.specs.declared.limits.TheConstants.{MAX_TILE_BYTES}
use Rattle.std.proofs.Common.{◌≡◌, ℕ, zero, suc, ◌+◌, ◌==◌, ◌⊎◌, true, false, List, [], ◌∷◌, ◌++◌, take, drop, Some, None, ◌∙◌, refl, sym, ap, subst, Option, arith, inl, inr}
use Rattle.std.specs.List.{flat_map, list_any, range_with_len, IsAmong}
use Rattle.std.specs.Option.{option_to_list}
use Rattle.std.specs.Prelude.{nat_lt, nat_le, IsSomeAnd}
use Rattle.std.proofs.lemmas.Bool.Decides.{nat_tests}
use Rattle.std.proofs.lemmas.Option.{same_Some, none-some}
use Rattle.tiff_dir.specs.declared.fault.FileFault.TheVariants.{PastEnd, TileSize, TooManyDirs, Unsupported}
use Rattle.tiff_dir.specs.declared.query.Query.{Query}
use Rattle.tiff_dir.specs.declared.query.Query.TheVariants.{Window}
use Rattle.tiff_dir.specs.declared.query.Pick.TheVariants as pick
use Rattle.tiff_dir.specs.declared.order.Order.TheVariants.{Little}
use Rattle.tiff_dir.specs.Number.{number_in}
use Rattle.tiff_dir.specs.File.{◌>>=◌, order_of, number, directory, has_directory, directories, entry_count, field_at, fields_from, fields, has_all_tags, field, values_at, field_value, value}
use Rattle.tiff_dir.specs.Level.{is_level, level_directories, place_of, grid_at, layout_at, level_directory, level_grid, level_value, depth_at, plain_size_at}
use Rattle.tiff_dir.specs.Profile.{accepts, is_tile_side}
use Rattle.extents.specs.Extent.{ends_past}
use Rattle.tiff_dir.specs.Needs.{count_range, table_range, field_range, outside_range, ranges_of_directory, needs_of_directories, outside_ranges}
use Rattle.tiff_dir.specs.Query.{rectangle, is_outside, is_too_large, tiles_in, window_tiles, array_range, tile_range, array_ranges, tile_ranges}
use Rattle.tiff_dir.specs.Fault.{IsUnsupported, IsFaultOfLevel, IsFaultOfDirectories}
use Rattle.tiff_dir.specs.Faulty.{is_byte_count, IsNotPlainSize, HasBadTile, IsFaulty}
use Rattle.tiff_dir.proofs.Fixtures.{header, one_directory, one_tile}

-- the first sample
abbrev pub first_sample : Query
first_sample = Window 0 0 1 1 (pick.Level 0)

abbrev good : List ℕ
good = one_tile Little

-- the file with another byte at this place
abbrev pub with_byte : ℕ → ℕ → List ℕ
with_byte at byte = take at good ++ byte ∷ drop (at + 1) good

back-to-first : IsFaulty (with_byte 118 8) first_sample TooManyDirs
unfolding IsFaulty IsFaultOfDirectories number_in order_of number directory has_directory directories entry_count field_at fields_from fields has_all_tags field values_at field_value value is_level level_directories place_of grid_at depth_at layout_at level_directory level_grid level_value count_range table_range field_range outside_range ranges_of_directory outside_ranges needs_of_directories rectangle is_outside is_too_large tiles_in window_tiles array_range tile_range array_ranges tile_ranges
back-to-first = inl (inl refl)

compression-five : IsFaulty (with_byte 54 5) first_sample (Unsupported COMPRESSION)
unfolding IsFaulty IsFaultOfDirectories number_in order_of number directory has_directory directories entry_count field_at fields_from fields has_all_tags field values_at field_value value is_level level_directories place_of grid_at depth_at layout_at level_directory level_grid level_value count_range table_range field_range outside_range ranges_of_directory outside_ranges needs_of_directories rectangle is_outside is_too_large tiles_in window_tiles array_range tile_range array_ranges tile_ranges
compression-five = inl (inr (0, (omega arith, refl), inr (refl, inl (0, refl))))

one-byte-short : IsFaulty (take 377 good) first_sample PastEnd
unfolding IsFaulty number_in order_of number directory has_directory directories entry_count field_at fields_from fields has_all_tags field values_at field_value value is_level level_directories place_of grid_at depth_at layout_at level_directory level_grid level_value count_range table_range field_range outside_range ranges_of_directory outside_ranges needs_of_directories rectangle is_outside is_too_large tiles_in window_tiles array_range tile_range array_ranges tile_ranges
one-byte-short = inr refl

-- the byte count of the only tile is wrong, whatever the compression
abbrev with_count : ℕ → ℕ → List ℕ
with_count compression count = header Little ++ one_directory Little 8 compression count ++ range_with_len 0 256

count-too-small : IsFaulty (with_count 1 255) first_sample TileSize
unfolding IsFaulty depth_at plain_size_at number_in order_of number directory has_directory directories entry_count field_at fields_from fields has_all_tags field values_at field_value value is_level level_directories place_of grid_at layout_at level_directory level_grid level_value count_range table_range field_range outside_range ranges_of_directory outside_ranges needs_of_directories rectangle is_outside is_too_large tiles_in window_tiles array_range tile_range array_ranges tile_ranges
count-too-small = inr (0, 0, omega arith, refl, inr (refl, refl))

no-bytes : IsFaulty (with_count 5 0) first_sample TileSize
unfolding IsFaulty number_in order_of number directory has_directory directories entry_count field_at fields_from fields has_all_tags field values_at field_value value is_level level_directories place_of grid_at depth_at layout_at level_directory level_grid level_value count_range table_range field_range outside_range ranges_of_directory outside_ranges needs_of_directories rectangle is_outside is_too_large tiles_in window_tiles array_range tile_range array_ranges tile_ranges
no-bytes = inr (0, 0, omega arith, refl, inl refl)

-- 12 bits a sample
odd-depth : IsFaulty (header Little ++ one_directory Little 12 1 512 ++ range_with_len 0 256) first_sample (Unsupported BITS_PER_SAMPLE)
unfolding IsFaulty IsFaultOfDirectories number_in order_of number directory has_directory directories entry_count field_at fields_from fields has_all_tags field values_at field_value value is_level level_directories place_of grid_at depth_at layout_at level_directory level_grid level_value count_range table_range field_range outside_range ranges_of_directory outside_ranges needs_of_directories rectangle is_outside is_too_large tiles_in window_tiles array_range tile_range array_ranges tile_ranges
odd-depth = inl (inr (0, (omega arith, refl), inr (refl, inl (0, refl))))

-- ---- the good file

-- it has one directory
one-directory : (k : ℕ) → has_directory good (suc k) ≡ false
unfolding number_in order_of number directory has_directory directories entry_count field_at fields_from fields has_all_tags field values_at field_value value is_level level_directories place_of grid_at depth_at layout_at level_directory level_grid level_value count_range table_range field_range outside_range ranges_of_directory outside_ranges needs_of_directories rectangle is_outside is_too_large tiles_in window_tiles array_range tile_range array_ranges tile_ranges
one-directory zero = refl
one-directory (suc k) = rw (one-directory k) refl

only-first : (k : ℕ) → has_directory good k ≡ true → k ≡ 0
only-first zero there = refl
only-first (suc k) there = let none = one-directory k in cc

-- a place after 16 directories
no-cycle : IsFaulty good first_sample TooManyDirs → ⊥
unfolding IsFaulty IsFaultOfDirectories
no-cycle (inl (inl there)) = let none = one-directory 15 in cc
no-cycle (inl (inr (k, there, inl other))) = absurd other
no-cycle (inl (inr (k, there, inr (is, other)))) = absurd other
no-cycle (inr other) = absurd other

all-inside : list_any (ends_past good) (needs_of_directories good) ≡ false
unfolding number_in order_of number directory has_directory directories entry_count field_at fields_from fields has_all_tags field values_at field_value value is_level level_directories place_of grid_at depth_at layout_at level_directory level_grid level_value count_range table_range field_range outside_range ranges_of_directory outside_ranges needs_of_directories rectangle is_outside is_too_large tiles_in window_tiles array_range tile_range array_ranges tile_ranges
all-inside = refl

query-inside : list_any (ends_past good) (array_ranges good first_sample ++ flat_map option_to_list (tile_ranges good first_sample)) ≡ false
unfolding number_in order_of number directory has_directory directories entry_count field_at fields_from fields has_all_tags field values_at field_value value is_level level_directories place_of grid_at depth_at layout_at level_directory level_grid level_value count_range table_range field_range outside_range ranges_of_directory outside_ranges needs_of_directories rectangle is_outside is_too_large tiles_in window_tiles array_range tile_range array_ranges tile_ranges
query-inside = refl

-- a range past the end
none-past : IsFaulty good first_sample PastEnd → ⊥
unfolding IsFaulty IsFaultOfDirectories
none-past (inl (inl past)) = let inside = all-inside in cc
none-past (inl (inr (k, there, inl other))) = absurd other
none-past (inl (inr (k, there, inr (is, other)))) = absurd other
none-past (inr past) = let inside = query-inside in cc

out_of_one : (i : ℕ) → nat_lt (suc i) 1 ≡ false
out_of_one i = grind (arith, nat_tests)

compression-beyond : (i : ℕ) → value good 0 COMPRESSION (suc i) ≡ None
unfolding number_in order_of number directory has_directory directories entry_count field_at fields_from fields has_all_tags field values_at field_value value is_level level_directories place_of grid_at depth_at layout_at level_directory level_grid level_value count_range table_range field_range outside_range ranges_of_directory outside_ranges needs_of_directories rectangle is_outside is_too_large tiles_in window_tiles array_range tile_range array_ranges tile_ranges
compression-beyond i = rw (out_of_one i) refl

compression-is : (i : ℕ) (v : ℕ) → value good 0 COMPRESSION i ≡ Some v → accepts COMPRESSION v ≡ true
unfolding number_in order_of number directory has_directory directories entry_count field_at fields_from fields has_all_tags field values_at field_value value is_level level_directories place_of grid_at depth_at layout_at level_directory level_grid level_value count_range table_range field_range outside_range ranges_of_directory outside_ranges needs_of_directories rectangle is_outside is_too_large tiles_in window_tiles array_range tile_range array_ranges tile_ranges
compression-is zero v e = let same : 1 ≡ v = same_Some _ _ e in ap (accepts COMPRESSION) (sym same)
compression-is (suc i) v e = absurd (none-some v (sym (compression-beyond i) ∙ e))

none-wrong : (i : ℕ) (o : Option ℕ) → value good 0 COMPRESSION i ≡ o → IsSomeAnd o (λ v. accepts COMPRESSION v ≡ false) → ⊥
none-wrong i None is wrong = absurd wrong
none-wrong i (Some v) is wrong = let right = compression-is i v is in cc

supported-first : IsUnsupported good 0 COMPRESSION → ⊥
supported-first (inl (i, wrong)) = none-wrong i (value good 0 COMPRESSION i) refl wrong
supported-first (inr (inl (other, misfit))) = absurd (omega (arith, other))
supported-first (inr (inr (inl (other, misfit)))) = absurd (omega (arith, other))
supported-first (inr (inr (inr (other, mixture)))) = absurd (omega (arith, other))

-- a compression of another kind
supported : IsFaulty good first_sample (Unsupported COMPRESSION) → ⊥
unfolding IsFaulty IsFaultOfDirectories
supported (inl (inl other)) = absurd other
supported (inl (inr (k, there, inl other))) = absurd other
supported (inl (inr (k, there, inr (is, bad)))) = supported-first (subst (λ m. IsUnsupported good m COMPRESSION) (only-first k there.1) bad)
supported (inr other) = absurd other

tile-width : value good 0 TILE_WIDTH 0 ≡ Some 16
unfolding number_in order_of number directory has_directory directories entry_count field_at fields_from fields has_all_tags field values_at field_value value is_level level_directories place_of grid_at depth_at layout_at level_directory level_grid level_value count_range table_range field_range outside_range ranges_of_directory outside_ranges needs_of_directories rectangle is_outside is_too_large tiles_in window_tiles array_range tile_range array_ranges tile_ranges
tile-width = refl

tile-length : value good 0 TILE_LENGTH 0 ≡ Some 16
unfolding number_in order_of number directory has_directory directories entry_count field_at fields_from fields has_all_tags field values_at field_value value is_level level_directories place_of grid_at depth_at layout_at level_directory level_grid level_value count_range table_range field_range outside_range ranges_of_directory outside_ranges needs_of_directories rectangle is_outside is_too_large tiles_in window_tiles array_range tile_range array_ranges tile_ranges
tile-length = refl

plain-size : plain_size_at good 0 ≡ Some 256
unfolding depth_at plain_size_at number_in order_of number directory has_directory directories entry_count field_at fields_from fields has_all_tags field values_at field_value value is_level level_directories place_of grid_at layout_at level_directory level_grid level_value count_range table_range field_range outside_range ranges_of_directory outside_ranges needs_of_directories rectangle is_outside is_too_large tiles_in window_tiles array_range tile_range array_ranges tile_ranges
plain-size = refl

good-sides : IsFaultOfLevel good 0 TileSize → ⊥
good-sides (inl bad) = let wrong : is_tile_side 16 ≡ false = subst (λ o. IsSomeAnd o (λ side. is_tile_side side ≡ false)) tile-width bad in cc
good-sides (inr (inl bad)) = let wrong : is_tile_side 16 ≡ false = subst (λ o. IsSomeAnd o (λ side. is_tile_side side ≡ false)) tile-length bad in cc
good-sides (inr (inr bad)) = let wrong : nat_le 256 MAX_TILE_BYTES ≡ false = subst (λ o. IsSomeAnd o (λ n. nat_le n MAX_TILE_BYTES ≡ false)) plain-size bad in cc

only-tile : window_tiles good first_sample ≡ 0 ∷ []
unfolding number_in order_of number directory has_directory directories entry_count field_at fields_from fields has_all_tags field values_at field_value value is_level level_directories place_of grid_at depth_at layout_at level_directory level_grid level_value count_range table_range field_range outside_range ranges_of_directory outside_ranges needs_of_directories rectangle is_outside is_too_large tiles_in window_tiles array_range tile_range array_ranges tile_ranges
only-tile = refl

size-is : (level_directory good 0 >>= plain_size_at good) ≡ Some 256
unfolding depth_at plain_size_at number_in order_of number directory has_directory directories entry_count field_at fields_from fields has_all_tags field values_at field_value value is_level level_directories place_of grid_at layout_at level_directory level_grid level_value count_range table_range field_range outside_range ranges_of_directory outside_ranges needs_of_directories rectangle is_outside is_too_large tiles_in window_tiles array_range tile_range array_ranges tile_ranges
size-is = refl

count-is : level_value good 0 TILE_BYTE_COUNTS 0 ≡ Some 256
unfolding number_in order_of number directory has_directory directories entry_count field_at fields_from fields has_all_tags field values_at field_value value is_level level_directories place_of grid_at depth_at layout_at level_directory level_grid level_value count_range table_range field_range outside_range ranges_of_directory outside_ranges needs_of_directories rectangle is_outside is_too_large tiles_in window_tiles array_range tile_range array_ranges tile_ranges
count-is = refl

first-of : (t : ℕ) → IsAmong (0 ∷ []) t → t ≡ 0
first-of t among =
    let first : among.0 ≡ 0 = omega (arith, among.1.0) in
    among.1.1 ∙ rw first refl

good-tile : HasBadTile good first_sample → ⊥
unfolding rectangle
good-tile (k, t, less, is, bad) =
    let among : IsAmong (window_tiles good first_sample) t = (k, (less, sym is)) in
    let tile : t ≡ 0 = first-of t (subst (λ ts. IsAmong ts t) only-tile among) in
    let count : level_value good 0 TILE_BYTE_COUNTS t ≡ Some 256 = ap (level_value good 0 TILE_BYTE_COUNTS) tile ∙ count-is in
    elim (subst (λ o. IsSomeAnd o (λ n. (is_byte_count n ≡ false) ⊎ IsNotPlainSize good 0 n)) count bad) [
      | inl wrong ↦ (let right : is_byte_count 256 ≡ true = refl in cc)
      | inr wrong ↦ (let other : (256 == 256) ≡ false = subst (λ o. IsSomeAnd o (λ n. (256 == n) ≡ false)) size-is wrong.1 in let same : (256 == 256) ≡ true = refl in cc)
    ]

-- a tile's side or byte count that is wrong
good-sizes : IsFaulty good first_sample TileSize → ⊥
unfolding IsFaulty IsFaultOfDirectories
good-sizes (inl (inl other)) = absurd other
good-sizes (inl (inr (k, there, inl other))) = absurd other
good-sizes (inl (inr (k, there, inr (is, bad)))) = good-sides (subst (λ m. IsFaultOfLevel good m TileSize) (only-first k there.1) bad)
good-sizes (inr bad) = good-tile bad

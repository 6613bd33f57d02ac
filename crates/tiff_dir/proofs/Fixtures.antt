-- The definitions at small files, by computation. The bytes of these files are written here and not taken from the crate of
-- fixtures: that is an aid of tests, and no crate that is proved rests on it.
use Rattle.std.proofs.Common.{◌≡◌, ℕ, ◌/◌, ◌%◌, false, List, [], ◌∷◌, ◌++◌, take, length, Some, None, refl}
use Rattle.std.specs.List.{flat_map, range_with_len}
use Rattle.tiff_dir.specs.declared.order.Order.{Order}
use Rattle.tiff_dir.specs.declared.order.Order.TheVariants.{Little, Big}
use Rattle.tiff_dir.specs.declared.level.Kind.TheVariants as kind
use Rattle.tiff_dir.specs.declared.level.Place.{Place}
use Rattle.tiff_dir.specs.declared.level.Compression.TheVariants.{Plain, Packed}
use Rattle.tiff_dir.specs.declared.level.Codec.TheVariants.{PackBits}
use Rattle.tiff_dir.specs.declared.query.Query.{Query}
use Rattle.tiff_dir.specs.declared.query.Query.TheVariants.{Window}
use Rattle.tiff_dir.specs.declared.query.Pick.TheVariants as pick
use Rattle.tiff_dir.specs.Number.{number_in}
use Rattle.tiff_dir.specs.File.{order_of, number, directory, has_directory, directories, entry_count, field_at, fields_from, fields, has_all_tags, field, values_at, field_value, value}
use Rattle.tiff_dir.specs.Level.{Layout, is_level, level_directories, place_of, grid_at, depth_at, layout_at, layouts, level_directory, level_grid, level_layout, level_value}
use Rattle.extents.specs.Extent.{Extent}
use Rattle.tiff_dir.specs.Needs.{count_range, table_range, field_range, outside_range, ranges_of_directory, needs_of_directories, outside_ranges}
use Rattle.tiff_dir.specs.Geo.{geo_place, geo_ranges}
use Rattle.tiff_dir.specs.Query.{smallest_level, scaled, rectangle, is_outside, is_too_large, tiles_in, window_tiles, array_range, tile_range, joined_after, array_ranges, tile_ranges, needs_of_query, needs, cost, segment}

-- ---- numbers and entries as they are written

abbrev pub two : Order → ℕ → List ℕ
two Little n = n % 256 ∷ n / 256 ∷ []
two Big n = n / 256 ∷ n % 256 ∷ []

abbrev pub four : Order → ℕ → List ℕ
four Little n = n % 256 ∷ n / 256 % 256 ∷ n / 65536 % 256 ∷ n / 16777216 ∷ []
four Big n = n / 16777216 ∷ n / 65536 % 256 ∷ n / 256 % 256 ∷ n % 256 ∷ []

abbrev pub header : Order → List ℕ
header Little = 73 ∷ 73 ∷ 42 ∷ 0 ∷ four Little 8
header Big = 77 ∷ 77 ∷ 0 ∷ 42 ∷ four Big 8

-- an entry with one SHORT in it, and one with a LONG or an offset
abbrev pub short : Order → ℕ → ℕ → List ℕ
short o tag v = two o tag ++ two o 3 ++ four o 1 ++ two o v ++ 0 ∷ 0 ∷ []

abbrev pub entry_of : Order → ℕ → ℕ → ℕ → ℕ → List ℕ
entry_of o tag kind count v = two o tag ++ two o kind ++ four o count ++ four o v

-- ---- one plain tile of 16 by 16, whose sample in column x and row y is 16 * y + x, or 32768 more in 16 bits

abbrev pub one_directory : Order → (bits compression count : ℕ) → List ℕ
one_directory o bits compression count =
    two o 9 ++ short o 256 16 ++ short o 257 16 ++ short o 258 bits ++ short o 259 compression ++ short o 262 1
    ++ short o 322 16 ++ short o 323 16 ++ entry_of o 324 4 1 122 ++ entry_of o 325 4 1 count ++ four o 0

abbrev pub one_tile : Order → List ℕ
one_tile o = header o ++ one_directory o 8 1 256 ++ range_with_len 0 256

abbrev pub deep_tile : Order → List ℕ
deep_tile o = header o ++ one_directory o 16 1 512 ++ flat_map (two o) (range_with_len 32768 256)

abbrev pub small_window : Query
small_window = Window 2 1 3 2 (pick.Level 0)

abbrev long_at : ℕ → Place
long_at at = record { first = at; len = 4; count = 1; kind = kind.Long }

abbrev one_layout : ℕ → Layout
one_layout bits = record { grid = record { width = 16; length = 16; tile_width = 16; tile_length = 16 }; samples = 1; bits = bits; compression = Plain; offsets = long_at 102; counts = long_at 114 }

-- what the definitions say of a file of one tile
record IsOneTile (f : List ℕ) (o : Order) (bits : ℕ) (samples : List ℕ) : Type 0 where
  order : order_of f ≡ Some o
  directory : directories f ≡ 0 ∷ []
  layout : layouts f ≡ Some (one_layout bits) ∷ []
  ranges : needs f small_window ≡ record { first = 0; len = 8 } ∷ record { first = 8; len = 2 } ∷ record { first = 10; len = 112 } ∷ record { first = 102; len = 4 } ∷ record { first = 114; len = 4 } ∷ record { first = 122; len = length samples } ∷ []
  blocks : cost f small_window ≡ 6
  tile : segment f 0 0 ≡ Some samples

little : IsOneTile (one_tile Little) Little 8 (range_with_len 0 256)
unfolding number_in order_of number directory has_directory directories entry_count field_at fields_from fields has_all_tags field values_at field_value value is_level level_directories place_of grid_at depth_at layout_at layouts level_directory level_grid level_layout level_value segment count_range table_range field_range outside_range ranges_of_directory outside_ranges needs_of_directories smallest_level scaled rectangle is_outside is_too_large tiles_in window_tiles array_range tile_range tile_ranges array_ranges geo_place geo_ranges needs_of_query needs cost
little = record { order = refl; directory = refl; layout = refl; ranges = refl; blocks = refl; tile = refl }

big : IsOneTile (one_tile Big) Big 8 (range_with_len 0 256)
unfolding number_in order_of number directory has_directory directories entry_count field_at fields_from fields has_all_tags field values_at field_value value is_level level_directories place_of grid_at depth_at layout_at layouts level_directory level_grid level_layout level_value segment count_range table_range field_range outside_range ranges_of_directory outside_ranges needs_of_directories smallest_level scaled rectangle is_outside is_too_large tiles_in window_tiles array_range tile_range tile_ranges array_ranges geo_place geo_ranges needs_of_query needs cost
big = record { order = refl; directory = refl; layout = refl; ranges = refl; blocks = refl; tile = refl }

deep_little : IsOneTile (deep_tile Little) Little 16 (flat_map (two Little) (range_with_len 32768 256))
unfolding number_in order_of number directory has_directory directories entry_count field_at fields_from fields has_all_tags field values_at field_value value is_level level_directories place_of grid_at depth_at layout_at layouts level_directory level_grid level_layout level_value segment count_range table_range field_range outside_range ranges_of_directory outside_ranges needs_of_directories smallest_level scaled rectangle is_outside is_too_large tiles_in window_tiles array_range tile_range tile_ranges array_ranges geo_place geo_ranges needs_of_query needs cost
deep_little = record { order = refl; directory = refl; layout = refl; ranges = refl; blocks = refl; tile = refl }

deep_big : IsOneTile (deep_tile Big) Big 16 (flat_map (two Big) (range_with_len 32768 256))
unfolding number_in order_of number directory has_directory directories entry_count field_at fields_from fields has_all_tags field values_at field_value value is_level level_directories place_of grid_at depth_at layout_at layouts level_directory level_grid level_layout level_value segment count_range table_range field_range outside_range ranges_of_directory outside_ranges needs_of_directories smallest_level scaled rectangle is_outside is_too_large tiles_in window_tiles array_range tile_range tile_ranges array_ranges geo_place geo_ranges needs_of_query needs cost
deep_big = record { order = refl; directory = refl; layout = refl; ranges = refl; blocks = refl; tile = refl }

-- an unsupported compression leaves the tiles of a window what they are
pub compressed_otherwise : cost (header Little ++ one_directory Little 8 5 256 ++ range_with_len 0 256) (Window 0 0 1 1 (pick.Level 0)) ≡ 6
unfolding number_in order_of number directory has_directory directories entry_count field_at fields_from fields has_all_tags field values_at field_value value is_level level_directories place_of grid_at depth_at layout_at layouts level_directory level_grid level_layout level_value segment count_range table_range field_range outside_range ranges_of_directory outside_ranges needs_of_directories smallest_level scaled rectangle is_outside is_too_large tiles_in window_tiles array_range tile_range tile_ranges array_ranges geo_place geo_ranges needs_of_query needs cost
compressed_otherwise = refl

-- ---- two levels with geo fields: 32 by 32 in four plain tiles, and one packed tile of 16 by 16

-- the four tiles of level 0 begin at these places
abbrev two_levels_at : ℕ → ℕ → ℕ → ℕ → List ℕ
two_levels_at a b c d =
    header Little ++ two Little 13
    ++ short Little 256 32 ++ short Little 257 32 ++ short Little 258 8 ++ short Little 259 1 ++ short Little 262 1
    ++ short Little 322 16 ++ short Little 323 16 ++ entry_of Little 324 4 4 296 ++ entry_of Little 325 4 4 312
    ++ entry_of Little 33550 12 3 328 ++ entry_of Little 34735 3 16 352 ++ entry_of Little 34736 12 1 384 ++ entry_of Little 34737 2 8 392
    ++ four Little 170
    ++ two Little 10 ++ entry_of Little 254 4 1 1
    ++ short Little 256 16 ++ short Little 257 16 ++ short Little 258 8 ++ short Little 259 32773 ++ short Little 262 1
    ++ short Little 322 16 ++ short Little 323 16 ++ entry_of Little 324 4 1 1424 ++ entry_of Little 325 4 1 32 ++ four Little 0
    ++ four Little a ++ four Little b ++ four Little c ++ four Little d
    ++ four Little 256 ++ four Little 256 ++ four Little 256 ++ four Little 256

abbrev two_levels : List ℕ
two_levels = two_levels_at 400 656 912 1168

-- cut behind the entry of the sides' first one, the second directory's level is there
cut_directory : is_outside (take 200 two_levels) (Window 0 0 1 1 (pick.Level 1)) ≡ false
unfolding number_in order_of number directory has_directory directories entry_count field_at fields_from fields has_all_tags field values_at field_value value is_level level_directories place_of grid_at depth_at layout_at layouts level_directory level_grid level_layout level_value segment count_range table_range field_range outside_range ranges_of_directory outside_ranges needs_of_directories smallest_level scaled rectangle is_outside is_too_large tiles_in window_tiles array_range tile_range tile_ranges array_ranges geo_place geo_ranges needs_of_query needs cost
cut_directory = refl

-- as many columns as are asked for
smallest : rectangle two_levels (Window 0 0 32 32 (pick.Columns 16)) ≡ Some (record { level = 1; left = 0; top = 0; width = 16; height = 16 })
unfolding number_in order_of number directory has_directory directories entry_count field_at fields_from fields has_all_tags field values_at field_value value is_level level_directories place_of grid_at depth_at layout_at layouts level_directory level_grid level_layout level_value segment count_range table_range field_range outside_range ranges_of_directory outside_ranges needs_of_directories smallest_level scaled rectangle is_outside is_too_large tiles_in window_tiles array_range tile_range tile_ranges array_ranges geo_place geo_ranges needs_of_query needs cost
smallest = refl

largest : rectangle two_levels (Window 0 0 32 32 (pick.Columns 17)) ≡ Some (record { level = 0; left = 0; top = 0; width = 32; height = 32 })
unfolding number_in order_of number directory has_directory directories entry_count field_at fields_from fields has_all_tags field values_at field_value value is_level level_directories place_of grid_at depth_at layout_at layouts level_directory level_grid level_layout level_value segment count_range table_range field_range outside_range ranges_of_directory outside_ranges needs_of_directories smallest_level scaled rectangle is_outside is_too_large tiles_in window_tiles array_range tile_range tile_ranges array_ranges geo_place geo_ranges needs_of_query needs cost
largest = refl

rounded_outwards : rectangle two_levels (Window 5 0 3 1 (pick.Columns 1)) ≡ Some (record { level = 1; left = 2; top = 0; width = 2; height = 1 })
unfolding number_in order_of number directory has_directory directories entry_count field_at fields_from fields has_all_tags field values_at field_value value is_level level_directories place_of grid_at depth_at layout_at layouts level_directory level_grid level_layout level_value segment count_range table_range field_range outside_range ranges_of_directory outside_ranges needs_of_directories smallest_level scaled rectangle is_outside is_too_large tiles_in window_tiles array_range tile_range tile_ranges array_ranges geo_place geo_ranges needs_of_query needs cost
rounded_outwards = refl

geo_of_two_levels : geo_ranges two_levels ≡ record { first = 352; len = 32 } ∷ record { first = 384; len = 8 } ∷ record { first = 392; len = 8 } ∷ record { first = 328; len = 24 } ∷ []
unfolding number_in order_of number directory has_directory directories entry_count field_at fields_from fields has_all_tags field values_at field_value value is_level level_directories place_of grid_at depth_at layout_at layouts level_directory level_grid level_layout level_value segment count_range table_range field_range outside_range ranges_of_directory outside_ranges needs_of_directories smallest_level scaled rectangle is_outside is_too_large tiles_in window_tiles array_range tile_range tile_ranges array_ranges geo_place geo_ranges needs_of_query needs cost
geo_of_two_levels = refl

abbrev whole_level : Query
whole_level = Window 0 0 32 32 (pick.Level 0)

-- tiles that follow each other are one group; tiles at one place are a group each
one_group : joined_after None (tile_ranges two_levels whole_level) ≡ record { first = 400; len = 1024 } ∷ []
unfolding number_in order_of number directory has_directory directories entry_count field_at fields_from fields has_all_tags field values_at field_value value is_level level_directories place_of grid_at depth_at layout_at layouts level_directory level_grid level_layout level_value segment count_range table_range field_range outside_range ranges_of_directory outside_ranges needs_of_directories smallest_level scaled rectangle is_outside is_too_large tiles_in window_tiles array_range tile_range tile_ranges array_ranges geo_place geo_ranges needs_of_query needs cost
one_group = refl

abbrev alone : Extent
alone = record { first = 400; len = 256 }

four_groups : joined_after None (tile_ranges (two_levels_at 400 400 400 400) whole_level) ≡ alone ∷ alone ∷ alone ∷ alone ∷ []
unfolding number_in order_of number directory has_directory directories entry_count field_at fields_from fields has_all_tags field values_at field_value value is_level level_directories place_of grid_at depth_at layout_at layouts level_directory level_grid level_layout level_value segment count_range table_range field_range outside_range ranges_of_directory outside_ranges needs_of_directories smallest_level scaled rectangle is_outside is_too_large tiles_in window_tiles array_range tile_range tile_ranges array_ranges geo_place geo_ranges needs_of_query needs cost
four_groups = refl

-- ---- three samples of 8 bits, packed, with values outside the entries

abbrev three_samples : List ℕ
three_samples =
    header Little ++ two Little 10
    ++ short Little 256 20 ++ short Little 257 18 ++ entry_of Little 258 3 3 134 ++ short Little 259 32773 ++ short Little 262 2
    ++ short Little 277 3 ++ short Little 322 16 ++ short Little 323 16 ++ entry_of Little 324 4 4 140 ++ entry_of Little 325 3 4 156 ++ four Little 0
    ++ two Little 8 ++ two Little 8 ++ two Little 8
    ++ four Little 164 ++ four Little 260 ++ four Little 356 ++ four Little 452
    ++ two Little 96 ++ two Little 96 ++ two Little 96 ++ two Little 96

ranges_of_three_samples : needs_of_directories three_samples ≡ record { first = 0; len = 8 } ∷ record { first = 8; len = 2 } ∷ record { first = 10; len = 124 } ∷ record { first = 134; len = 6 } ∷ []
unfolding number_in order_of number directory has_directory directories entry_count field_at fields_from fields has_all_tags field values_at field_value value is_level level_directories place_of grid_at depth_at layout_at layouts level_directory level_grid level_layout level_value segment count_range table_range field_range outside_range ranges_of_directory outside_ranges needs_of_directories smallest_level scaled rectangle is_outside is_too_large tiles_in window_tiles array_range tile_range tile_ranges array_ranges geo_place geo_ranges needs_of_query needs cost
ranges_of_three_samples = refl

layout_of_three_samples : layouts three_samples ≡ Some (record {
  grid = record { width = 20; length = 18; tile_width = 16; tile_length = 16 };
  samples = 3;
  bits = 8;
  compression = Packed PackBits;
  offsets = record { first = 140; len = 16; count = 4; kind = kind.Long };
  counts = record { first = 156; len = 8; count = 4; kind = kind.Short };
}) ∷ []
unfolding number_in order_of number directory has_directory directories entry_count field_at fields_from fields has_all_tags field values_at field_value value is_level level_directories place_of grid_at depth_at layout_at layouts level_directory level_grid level_layout level_value segment count_range table_range field_range outside_range ranges_of_directory outside_ranges needs_of_directories smallest_level scaled rectangle is_outside is_too_large tiles_in window_tiles array_range tile_range tile_ranges array_ranges geo_place geo_ranges needs_of_query needs cost
layout_of_three_samples = refl

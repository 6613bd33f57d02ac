-- Samples and packets, by computation: those of one plain tile, in both depths and both orders, of one packed tile, and the example of
-- TIFF 6.0, section 9.
use Rattle.std.proofs.Common.{ℕ, ◌+◌, ◌≤◌, List, [], ◌∷◌, ◌++◌, map, refl, lit≤}
use Rattle.std.specs.List.{flat_map, range_with_len}
use Rattle.tiff_dir.specs.declared.order.Order.TheVariants.{Little, Big}
use Rattle.tiff_dir.specs.Number.{number_in}
use Rattle.tiff_dir.specs.File.{order_of, number, directory, has_directory, directories, entry_count, field_at, fields_from, fields, has_all_tags, field, values_at, field_value, value}
use Rattle.tiff_dir.specs.Level.{is_level, level_directories, place_of, grid_at, depth_at, layout_at, layouts, level_directory, level_grid, level_layout, level_value}
use Rattle.tiff_dir.specs.Packets.{Packet, Copied, Repeated, Packs, output, written}
use Rattle.tiff_dir.specs.Query.{segment, tile_range}
use Rattle.tiff_dir.specs.Window.{IsSample, sample_in}
use Rattle.tiff_dir.proofs.Fixtures.{header, one_directory, one_tile, deep_tile, two}

-- ---- plain tiles

-- samples of a file of one tile: its corners, but for the upper right one, and that in column 15 and row 2
record HasFour (f : List ℕ) (first : ℕ) : Type 0 where
  upper_left : IsSample f 0 0 0 0 first
  right : IsSample f 0 15 2 0 (first + 47)
  lower_left : IsSample f 0 0 15 0 (first + 240)
  lower_right : IsSample f 0 15 15 0 (first + 255)

little : HasFour (one_tile Little) 0
unfolding IsSample sample_in number_in order_of number directory has_directory directories entry_count field_at fields_from fields has_all_tags field values_at field_value value is_level level_directories place_of grid_at depth_at layout_at layouts level_directory level_grid level_layout level_value segment tile_range
little =
    let tile = range_with_len 0 256 in
    record { upper_left = (tile, refl, refl); right = (tile, refl, refl); lower_left = (tile, refl, refl); lower_right = (tile, refl, refl) }

big : HasFour (one_tile Big) 0
unfolding IsSample sample_in number_in order_of number directory has_directory directories entry_count field_at fields_from fields has_all_tags field values_at field_value value is_level level_directories place_of grid_at depth_at layout_at layouts level_directory level_grid level_layout level_value segment tile_range
big =
    let tile = range_with_len 0 256 in
    record { upper_left = (tile, refl, refl); right = (tile, refl, refl); lower_left = (tile, refl, refl); lower_right = (tile, refl, refl) }

deep_little : HasFour (deep_tile Little) 32768
unfolding IsSample sample_in number_in order_of number directory has_directory directories entry_count field_at fields_from fields has_all_tags field values_at field_value value is_level level_directories place_of grid_at depth_at layout_at layouts level_directory level_grid level_layout level_value segment tile_range
deep_little =
    let tile = flat_map (two Little) (range_with_len 32768 256) in
    record { upper_left = (tile, refl, refl); right = (tile, refl, refl); lower_left = (tile, refl, refl); lower_right = (tile, refl, refl) }

deep_big : HasFour (deep_tile Big) 32768
unfolding IsSample sample_in number_in order_of number directory has_directory directories entry_count field_at fields_from fields has_all_tags field values_at field_value value is_level level_directories place_of grid_at depth_at layout_at layouts level_directory level_grid level_layout level_value segment tile_range
deep_big =
    let tile = flat_map (two Big) (range_with_len 32768 256) in
    record { upper_left = (tile, refl, refl); right = (tile, refl, refl); lower_left = (tile, refl, refl); lower_right = (tile, refl, refl) }

-- ---- packets

-- between 2 and 128 times
abbrev Times : ℕ → Type 0
Times n = (2 ≤ n) × (n ≤ 128)

-- the example of section 9, as one row
example : Packs 24
    (254 ∷ 170 ∷ 2 ∷ 128 ∷ 0 ∷ 42 ∷ 253 ∷ 170 ∷ 3 ∷ 128 ∷ 0 ∷ 42 ∷ 34 ∷ 247 ∷ 170 ∷ [])
    (170 ∷ 170 ∷ 170 ∷ 128 ∷ 0 ∷ 42 ∷ 170 ∷ 170 ∷ 170 ∷ 170 ∷ 128 ∷ 0 ∷ 42 ∷ 34 ∷ 170 ∷ 170 ∷ 170 ∷ 170 ∷ 170 ∷ 170 ∷ 170 ∷ 170 ∷ 170 ∷ 170 ∷ [])
example = record {
  packets = Repeated 3 170 ∷ Copied (128 ∷ 0 ∷ 42 ∷ []) ∷ Repeated 4 170 ∷ Copied (128 ∷ 0 ∷ 42 ∷ 34 ∷ []) ∷ Repeated 10 170 ∷ [];
  lawful = ((lit≤ tt, lit≤ tt), ((lit≤ tt, lit≤ tt), ((lit≤ tt, lit≤ tt), ((lit≤ tt, lit≤ tt), ((lit≤ tt, lit≤ tt), tt)))));
  bytes_are = refl;
  out_is = refl;
  rows = (lit≤ tt, (lit≤ tt, (lit≤ tt, (lit≤ tt, (lit≤ tt, tt)))));
}

-- a packed tile whose row y is 16 times y
abbrev rows_of : ℕ → List Packet
rows_of count = map (λ y. Repeated 16 y) (range_with_len 0 count)

abbrev packed_tile : List ℕ
packed_tile = header Little ++ one_directory Little 8 32773 32 ++ flat_map written (rows_of 16)

packed : IsSample packed_tile 0 15 2 0 2
unfolding IsSample sample_in number_in order_of number directory has_directory directories entry_count field_at fields_from fields has_all_tags field values_at field_value value is_level level_directories place_of grid_at depth_at layout_at layouts level_directory level_grid level_layout level_value segment tile_range
packed =
    let one : Times 16 = (lit≤ tt, lit≤ tt) in (
      flat_map output (rows_of 16),
      (
        refl,
        record {
          packets = rows_of 16;
          lawful = (one, (one, (one, (one, (one, (one, (one, (one, (one, (one, (one, (one, (one, (one, (one, (one, tt))))))))))))))));
          bytes_are = refl;
          out_is = refl;
          rows = (lit≤ tt, (lit≤ tt, (lit≤ tt, (lit≤ tt, (lit≤ tt, (lit≤ tt, (lit≤ tt, (lit≤ tt, (lit≤ tt, (lit≤ tt, (lit≤ tt, (lit≤ tt, (lit≤ tt, (lit≤ tt, (lit≤ tt, (lit≤ tt, tt))))))))))))))));
        },
      ),
      refl,
    )

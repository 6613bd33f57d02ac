-- The fields that georeference an image: where they stand, and their faults (OGC 19-008, sections 7 and 8). They are looked at in the
-- first directory, and only for the query Info.
use Rattle.tiff_dir.specs.declared.tags.TheConstants.{GEO_ASCII_PARAMS, GEO_DOUBLE_PARAMS, GEO_KEY_DIRECTORY}
use Rattle.tiff_dir.specs.declared.limits.TheConstants.{MAX_GEO_BYTES}
use Rattle.std.specs.Prelude.{◌≡◌, ℕ, false, ◌||◌, nat_le, ◌==◌, if◌then◌else◌, List, Option, Some, None, IsSomeAnd}
use Rattle.std.specs.Option.{option_map_or}
use Rattle.std.specs.List.{Any, filter_map}
use Rattle.tiff_dir.specs.declared.rule.Rule.{Rule}
use Rattle.tiff_dir.specs.declared.level.Place.{Place}
use Rattle.tiff_dir.specs.declared.fault.FileFault.{FileFault}
use Rattle.tiff_dir.specs.declared.fault.FileFault.TheVariants.{FieldType, TooLarge}
use Rattle.tiff_dir.specs.File.{◌>>=◌, Field, has_all_tags, field, value}
use Rattle.tiff_dir.specs.Profile.{geo_profile}
use Rattle.tiff_dir.specs.Level.{place_of}
use Rattle.extents.specs.Extent.{Extent}
use Rattle.tiff_dir.specs.Needs.{field_range}
use Rattle.tiff_dir.specs.Fault.{IsRuleFault}
use Rattle.tiff_dir.specs.Keys.{KeySource}

-- where the values of a geo field stand, if it is there
unfoldable pub geo_place : List ℕ → ℕ → Option Place
geo_place f tag = field f 0 tag >>= place_of f

-- the values of the geo fields that are there
unfoldable pub geo_ranges : List ℕ → List Extent
geo_ranges f = filter_map (λ (rule : Rule). field_range f 0 rule.tag) geo_profile

-- A geo field has a type or a count that it may not have, or too many bytes.
abbrev pub IsGeoFault : List ℕ → FileFault → Type 0
IsGeoFault f (FieldType tag) = Any (λ rule. IsRuleFault f 0 rule (FieldType tag)) geo_profile
IsGeoFault f TooLarge = Any (λ (r : Rule). IsSomeAnd (geo_place f r.tag) (λ p. nat_le p.len MAX_GEO_BYTES ≡ false)) geo_profile
IsGeoFault f _ = ⊥

-- ---- the key directory (section 7.1.1)

-- how many values a geo field has: 0 if it is absent
abbrev pub item_count : List ℕ → ℕ → Option ℕ
item_count f tag = option_map_or (λ (e : Field). e.count) (field f 0 tag) (if has_all_tags f 0 then Some 0 else None)

-- what the file says of its keys
abbrev pub key_source : List ℕ → KeySource
key_source f = record {
  value = value f 0 GEO_KEY_DIRECTORY;
  count = field f 0 GEO_KEY_DIRECTORY >>= λ e. e.count;
  items = λ tag. if tag == GEO_DOUBLE_PARAMS || tag == GEO_ASCII_PARAMS then item_count f tag else None;
}

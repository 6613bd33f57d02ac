-- The geo fields of a file, which are read one after another.
use Rattle.std.specs.Prelude.{◌≡◌, ℕ, ◌≤◌, ◌++◌, false, List, [], ◌∷◌, length, take, Option}
use Rattle.std.specs.Option.{option_map_or}
use Rattle.std.specs.List.{filter_map, flat_map, list_any, sum_by}
use Rattle.tiff_dir.specs.declared.geo.GeoPlaces.{GeoPlaces}
use Rattle.tiff_dir.specs.declared.level.Place.{Place}
use Rattle.tiff_dir.specs.Geo.{geo_place, geo_ranges}
use Rattle.extents.specs.Extent.{ends_past}
use Rattle.tiff_dir.specs.Needs.{extent_of_place}
use Rattle.extents.specs.Extent.{bytes_in}
use Rattle.tiff_dir.specs.Walk.{AreGeoPlaces, AreTyped}

-- the places of the six fields in the order in which they are read
abbrev pub six : GeoPlaces → List (Option Place)
six p = p.directory ∷ p.doubles ∷ p.ascii ∷ p.scale ∷ p.tiepoints ∷ p.transformation ∷ []

-- the places of the fields that are there
abbrev pub present_in : GeoPlaces → List Place
present_in p = filter_map (λ o. o) (six p)

-- how many bytes these places have together
abbrev pub total : List Place → ℕ
total ps = sum_by (λ (p : Place). p.len) ps

-- the places of the geo fields, how many fields were read, and the bytes of these, one after the other
pub record FieldsState : Type 0 where
  pub places : GeoPlaces
  pub given : ℕ
  pub bytes : List ℕ

-- the bounds of such a state: all bytes of the fields that were read are there
pub record AreFields (places : GeoPlaces) (given : ℕ) (bytes : List ℕ) : Type 0 where
  pub typed : AreTyped places
  pub within : given ≤ length (present_in places)
  pub whole : length bytes ≡ total (take given (present_in places))

-- how many bytes a field has: 0 if it is absent
abbrev pub len_of_field : Option Place → ℕ
len_of_field o = option_map_or (λ (p : Place). p.len) o 0

-- the bytes of a geo field of the file (OGC 19-008, sections 7.1 and 8); there are none if it is absent
abbrev pub geo_bytes : List ℕ → ℕ → List ℕ
geo_bytes f tag = option_map_or (λ p. bytes_in f (extent_of_place p)) (geo_place f tag) []

-- The bytes are those of the six fields, one after the other.
pub record AreFieldParts (p : GeoPlaces) (bytes directory doubles ascii scale tiepoints transformation : List ℕ) : Type 0 where
  pub joined : bytes ≡ directory ++ (doubles ++ (ascii ++ (scale ++ (tiepoints ++ transformation))))
  pub directory_len : length directory ≡ len_of_field p.directory
  pub doubles_len : length doubles ≡ len_of_field p.doubles
  pub ascii_len : length ascii ≡ len_of_field p.ascii
  pub scale_len : length scale ≡ len_of_field p.scale
  pub tiepoints_len : length tiepoints ≡ len_of_field p.tiepoints
  pub transformation_len : length transformation ≡ len_of_field p.transformation

-- The places are the file's. The bytes are those of the first `given` ranges, which end within the file.
pub record IsReadOf (f : List ℕ) (r : FieldsState) : Type 0 where
  pub places : AreGeoPlaces f r.places
  pub bytes_are : r.bytes ≡ flat_map (bytes_in f) (take r.given (geo_ranges f))
  pub inside : list_any (ends_past f) (take r.given (geo_ranges f)) ≡ false

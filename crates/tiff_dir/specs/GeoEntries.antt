-- The entries of the geo fields in a table, and what they say by their rules.
use Rattle.tiff_dir.specs.declared.tags.TheConstants.{GEO_ASCII_PARAMS, GEO_DOUBLE_PARAMS, GEO_KEY_DIRECTORY, MODEL_PIXEL_SCALE, MODEL_TIEPOINT, MODEL_TRANSFORMATION}
use Rattle.tiff_dir.specs.declared.limits.TheConstants.{MAX_GEO_BYTES}
use Rattle.std.specs.Prelude.{◌≡◌, ◌+◌, ◌<◌, ◌^◌, ◌⊎◌, ⊤, not, nat_lt, if◌then◌else◌, List, Option, Some, None, Result, Ok, Err}
use Rattle.tiff_dir.specs.declared.table.DirectoryEntry.{DirectoryEntry}
use Rattle.tiff_dir.specs.declared.geo.GeoEntries.{GeoEntries}
use Rattle.tiff_dir.specs.declared.geo.GeoPlaces.{GeoPlaces}
use Rattle.tiff_dir.specs.declared.level.Place.{Place}
use Rattle.tiff_dir.specs.declared.rule.Rule.{Rule}
use Rattle.tiff_dir.specs.declared.fault.FileFault.{FileFault}
use Rattle.tiff_dir.specs.declared.fault.FileFault.TheVariants.{FieldType, TooLarge}
use Rattle.tiff_dir.specs.Profile.{geo_rule}
use Rattle.tiff_dir.specs.Table.{allows, entry_with_tag, len_of, place_in}

-- the entries of the geo fields among those of a table
abbrev pub geo_in : List DirectoryEntry → GeoEntries
geo_in es = record {
  directory = entry_with_tag GEO_KEY_DIRECTORY es;
  doubles = entry_with_tag GEO_DOUBLE_PARAMS es;
  ascii = entry_with_tag GEO_ASCII_PARAMS es;
  scale = entry_with_tag MODEL_PIXEL_SCALE es;
  tiepoints = entry_with_tag MODEL_TIEPOINT es;
  transformation = entry_with_tag MODEL_TRANSFORMATION es;
}

-- where the values of a rule's entry stand
abbrev pub place_by : Rule → Option DirectoryEntry → Result (Option Place) FileFault
place_by r None = Ok None
place_by r (Some e) =
    if not (allows r e) then Err (FieldType r.tag)
    else if nat_lt MAX_GEO_BYTES (len_of e) then Err TooLarge
    else Ok (Some (place_in e))

pub record ArePlacesBy (g : GeoEntries) (p : GeoPlaces) : Type 0 where
  pub directory : place_by (geo_rule 0) g.directory ≡ Ok p.directory
  pub doubles : place_by (geo_rule 1) g.doubles ≡ Ok p.doubles
  pub ascii : place_by (geo_rule 2) g.ascii ≡ Ok p.ascii
  pub scale : place_by (geo_rule 3) g.scale ≡ Ok p.scale
  pub tiepoints : place_by (geo_rule 4) g.tiepoints ≡ Ok p.tiepoints
  pub transformation : place_by (geo_rule 5) g.transformation ≡ Ok p.transformation

abbrev pub IsFaultBy : GeoEntries → FileFault → Type 0
IsFaultBy g fault =
    (place_by (geo_rule 0) g.directory ≡ Err fault)
    ⊎ ((place_by (geo_rule 1) g.doubles ≡ Err fault)
    ⊎ ((place_by (geo_rule 2) g.ascii ≡ Err fault)
    ⊎ ((place_by (geo_rule 3) g.scale ≡ Err fault)
    ⊎ ((place_by (geo_rule 4) g.tiepoints ≡ Err fault)
    ⊎ (place_by (geo_rule 5) g.transformation ≡ Err fault)))))

-- the place after the first eight bytes of an entry is below 2^33
abbrev pub IsNear : Option DirectoryEntry → Type 0
IsNear None = ⊤
IsNear (Some e) = e.place + 8 < 2 ^ 33

pub record AreNear (g : GeoEntries) : Type 0 where
  pub directory : IsNear g.directory
  pub doubles : IsNear g.doubles
  pub ascii : IsNear g.ascii
  pub scale : IsNear g.scale
  pub tiepoints : IsNear g.tiepoints
  pub transformation : IsNear g.transformation

-- An entry as the definitions see it.
use Rattle.std.specs.Prelude.{ℕ, List, Option}
use Rattle.tiff_dir.specs.declared.level.Place.{Place}
use Rattle.tiff_dir.specs.File.{Field, field, ◌>>=◌}
use Rattle.tiff_dir.specs.Level.{place_of}
use Rattle.reference_support.specs.declared.fields.Entry.{Entry}

abbrev pub field_of : Entry → Field
field_of e = record { tag = e.tag; kind = e.kind; count = e.count; place = e.place }

-- The place where the values of the field with this tag stand.
abbrev pub place_in : List ℕ → ℕ → ℕ → Option Place
place_in f k tag = field f k tag >>= place_of f

-- What a directory's entries hold in themselves, for fields of the profile's types. An entry here is what the code has of a field. It is
-- read from the bytes of a table, which are all there, with the numbers in its last four bytes. A field of the module File is what
-- the file says of it, as far as its bytes are there. `HasTable` in the module Stage joins the two.
use Rattle.tiff_dir.specs.declared.tags.TheConstants.{BITS_PER_SAMPLE, COMPRESSION, IMAGE_LENGTH, IMAGE_WIDTH, PHOTOMETRIC_INTERPRETATION, PLANAR_CONFIGURATION, SAMPLES_PER_PIXEL, SAMPLE_FORMAT, TILE_BYTE_COUNTS, TILE_LENGTH, TILE_OFFSETS, TILE_WIDTH}
use Rattle.tiff_dir.specs.declared.field_values.TheConstants.{CHUNKY}
use Rattle.std.specs.Prelude.{◌≡◌, ◌⊎◌, ℕ, zero, suc, ◌+◌, ◌*◌, ◌<◌, Bool, true, false, not, ◌&&◌, nat_le, ◌==◌, if◌then◌else◌, List, [], ◌∷◌, length, get_or, Option, Some, None, IsSomeAnd}
use Rattle.std.specs.Option.{option_map, option_map_or}
use Rattle.std.specs.List.{find, AllPass}
use Rattle.tiff_dir.specs.declared.order.Order.{Order}
use Rattle.tiff_dir.specs.declared.table.DirectoryEntry.{DirectoryEntry}
use Rattle.tiff_dir.specs.declared.table.Table.{Table}
use Rattle.tiff_dir.specs.declared.rule.Rule.{Rule}
use Rattle.tiff_dir.specs.declared.rule.ValueCount.{ValueCount}
use Rattle.tiff_dir.specs.declared.rule.ValueCount.TheVariants.{One, Samples, Tiles, Exactly, Multiple}
use Rattle.tiff_dir.specs.declared.level.Place.{Place}
use Rattle.tiff_dir.specs.declared.level.Kind.{Kind}
use Rattle.tiff_dir.specs.declared.level.Kind.TheVariants as kind
use Rattle.tiff_dir.specs.declared.level.Compression.{Compression}
use Rattle.tiff_dir.specs.declared.stage.Draft.{Draft}
use Rattle.tiff_dir.specs.declared.fault.FileFault.{FileFault}
use Rattle.tiff_dir.specs.declared.fault.FileFault.TheVariants.{Missing, FieldType, Unsupported}
use Rattle.tiff_dir.specs.Number.{number_in}
use Rattle.tiff_dir.specs.File.{Field, size_of}
use Rattle.tiff_dir.specs.Level.{compression_of}
use Rattle.tiff_dir.specs.Profile.{profile, has_typing, is_multiple, accepts, samples_fit, planes_fit}

-- the entry in the 12 bytes from `at` on, of bytes that stand in the file from `base` on
abbrev pub entry_at : Order → ℕ → ℕ → List ℕ → DirectoryEntry
entry_at o base at bytes = record {
  tag = number_in o at 2 bytes;
  kind = number_in o (at + 2) 2 bytes;
  count = number_in o (at + 4) 4 bytes;
  place = base + at;
  short = number_in o (at + 8) 2 bytes;
  long = number_in o (at + 8) 4 bytes;
}

-- the `n` entries from `at` on
unfoldable pub entries_from : Order → ℕ → ℕ → ℕ → List ℕ → List DirectoryEntry
entries_from o base at zero bytes = []
entries_from o base at (suc n) bytes = entry_at o base at bytes ∷ entries_from o base (at + 12) n bytes

abbrev pub entries_of : Table → List DirectoryEntry
entries_of t = entries_from t.order (t.at + 2) 0 t.entries t.bytes.now

abbrev pub field_of : DirectoryEntry → Field
field_of e = record { tag = e.tag; kind = Some e.kind; count = Some e.count; place = e.place }

-- the first field with the tag, and the first entry
abbrev pub field_with_tag : ℕ → List Field → Option Field
field_with_tag tag fields = find (λ e. e.tag == tag) fields

abbrev pub entry_with_tag : ℕ → List DirectoryEntry → Option DirectoryEntry
entry_with_tag tag es = find (λ e. e.tag == tag) es

-- what is demanded of the count before samples and tiles are known
abbrev pub counts_one : ValueCount → ℕ → Bool
counts_one One count = count == 1
counts_one Samples count = true
counts_one Tiles count = true
counts_one (Exactly n) count = count == n
counts_one (Multiple n) count = is_multiple n count

-- the type is allowed, and the count, as far as samples and tiles don't matter
abbrev pub allows : Rule → DirectoryEntry → Bool
allows r e = has_typing r.typing e.kind && counts_one r.count e.count

-- the entries keep the rule: nothing is wrong with its field
abbrev pub keeps : List DirectoryEntry → Rule → Bool
keeps es r = option_map_or (allows r) (entry_with_tag r.tag es) (not r.required)

-- the fault of the rule's field
abbrev pub IsEntryFault : Rule → List DirectoryEntry → FileFault → Type 0
IsEntryFault r es (Missing tag) = (r.tag ≡ tag) × (r.required ≡ true) × (entry_with_tag r.tag es ≡ None)
IsEntryFault r es (FieldType tag) = (r.tag ≡ tag) × IsSomeAnd (entry_with_tag r.tag es) (λ e. allows r e ≡ false)
IsEntryFault r es _ = ⊥

-- the field of one of the rules is missing, or has another type or count
abbrev pub IsFaultOfEntries : List Rule → List DirectoryEntry → FileFault → Type 0
IsFaultOfEntries rules es fault = (k : ℕ) × (d : Rule) × (k < length rules) × IsEntryFault (get_or rules k d) es fault

-- the only value of a field of SHORT or LONG
abbrev pub single_of : DirectoryEntry → ℕ
single_of e = if e.kind == 3 then e.short else e.long

abbrev pub single_or : List DirectoryEntry → ℕ → ℕ → ℕ
single_or es tag default = option_map_or single_of (entry_with_tag tag es) default

-- the first value of a field of SHORT
abbrev pub short_or : List DirectoryEntry → ℕ → ℕ → ℕ
short_or es tag default = option_map_or (λ e. e.short) (entry_with_tag tag es) default

-- the field has as many values as a pixel has samples, if it is there
abbrev pub counts_samples : List DirectoryEntry → ℕ → Bool
counts_samples es tag = option_map_or (λ e. e.count == short_or es SAMPLES_PER_PIXEL 1) (entry_with_tag tag es) true

-- the last four bytes of the entry
abbrev pub long_in : List DirectoryEntry → ℕ → Option ℕ
long_in es tag = option_map (λ e. e.long) (entry_with_tag tag es)

-- the type with a number that a rule allows; other numbers, which no rule allows, give DOUBLE
abbrev pub kind_in : ℕ → Kind
kind_in number =
    if number == 3 then kind.Short
    else if number == 4 then kind.Long
    else if number == 2 then kind.Ascii
    else kind.Double

abbrev pub len_of : DirectoryEntry → ℕ
len_of e = e.count * size_of (kind_in e.kind)

abbrev pub place_in : DirectoryEntry → Place
place_in e = record {
  first = (if nat_le (len_of e) 4 then e.place + 8 else e.long);
  len = len_of e;
  count = e.count;
  kind = kind_in e.kind;
}

abbrev pub place_or : List DirectoryEntry → ℕ → Place
place_or es tag = option_map_or place_in (entry_with_tag tag es) (record { first = 0; len = 0; count = 0; kind = kind.Long })

-- what the entries say of a level of this compression
unfoldable pub draft_in : List DirectoryEntry → Compression → Draft
draft_in es compression = record {
  width = single_or es IMAGE_WIDTH 0;
  length = single_or es IMAGE_LENGTH 0;
  tile_width = single_or es TILE_WIDTH 0;
  tile_length = single_or es TILE_LENGTH 0;
  samples = short_or es SAMPLES_PER_PIXEL 1;
  compression = compression;
  offsets = place_or es TILE_OFFSETS;
  counts = place_or es TILE_BYTE_COUNTS;
}

-- the values of 262, 277, 284 and 259 are those of the profile, and that of 259 names this compression
pub record HasValues (es : List DirectoryEntry) (c : Compression) : Type 0 where
  pub photometric : accepts PHOTOMETRIC_INTERPRETATION (short_or es PHOTOMETRIC_INTERPRETATION 0) ≡ true
  pub samples : samples_fit (short_or es SAMPLES_PER_PIXEL 1) (short_or es PHOTOMETRIC_INTERPRETATION 0) ≡ true
  pub planar : planes_fit (short_or es PLANAR_CONFIGURATION CHUNKY) (short_or es SAMPLES_PER_PIXEL 1) ≡ true
  pub compression : compression_of (short_or es COMPRESSION 0) ≡ Some c

-- one of these values isn't, and the fault has its tag
abbrev pub IsValueFault : List DirectoryEntry → FileFault → Type 0
IsValueFault es fault =
    ((fault ≡ Unsupported PHOTOMETRIC_INTERPRETATION) × (accepts PHOTOMETRIC_INTERPRETATION (short_or es PHOTOMETRIC_INTERPRETATION 0) ≡ false))
    ⊎ (((fault ≡ Unsupported SAMPLES_PER_PIXEL) × (samples_fit (short_or es SAMPLES_PER_PIXEL 1) (short_or es PHOTOMETRIC_INTERPRETATION 0) ≡ false))
    ⊎ (((fault ≡ Unsupported PLANAR_CONFIGURATION) × (planes_fit (short_or es PLANAR_CONFIGURATION CHUNKY) (short_or es SAMPLES_PER_PIXEL 1) ≡ false))
    ⊎ ((fault ≡ Unsupported COMPRESSION) × (accepts COMPRESSION (short_or es COMPRESSION 0) ≡ false))))

-- the fields of BitsPerSample and SampleFormat have a value for each sample
abbrev pub HasCounts : List DirectoryEntry → Type 0
HasCounts es = (counts_samples es BITS_PER_SAMPLE ≡ true) × (counts_samples es SAMPLE_FORMAT ≡ true)

abbrev pub IsCountFault : List DirectoryEntry → FileFault → Type 0
IsCountFault es fault =
    ((fault ≡ FieldType BITS_PER_SAMPLE) × (counts_samples es BITS_PER_SAMPLE ≡ false)) ⊎ ((fault ≡ FieldType SAMPLE_FORMAT) × (counts_samples es SAMPLE_FORMAT ≡ false))

-- the entries keep the profile, and `d` is what they say of the level
pub record IsReadIn (es : List DirectoryEntry) (d : Draft) : Type 0 where
  pub met : AllPass (keeps es) profile
  pub values : HasValues es d.compression
  pub counts : HasCounts es
  pub draft : d ≡ draft_in es d.compression

-- the entries don't keep the profile
abbrev pub IsReadFault : List DirectoryEntry → FileFault → Type 0
IsReadFault es fault =
    IsFaultOfEntries profile es fault
    ⊎ (AllPass (keeps es) profile × (IsValueFault es fault ⊎ (((c : Compression) × HasValues es c) × IsCountFault es fault)))

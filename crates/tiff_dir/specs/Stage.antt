-- What is known of a file at each stage of a walk over its directories.
use Rattle.tiff_dir.specs.declared.tags.TheConstants.{BITS_PER_SAMPLE, COMPRESSION, IMAGE_LENGTH, IMAGE_WIDTH, SAMPLES_PER_PIXEL, SAMPLE_FORMAT, TILE_BYTE_COUNTS, TILE_LENGTH, TILE_OFFSETS, TILE_WIDTH}
use Rattle.tiff_dir.specs.declared.limits.TheConstants.{MAX_DIRECTORIES, MAX_ENTRIES}
use Rattle.std.specs.Prelude.{◌≡◌, ◌≢◌, ℕ, suc, ◌+◌, ◌-◌, ◌*◌, ◌<◌, ◌≤◌, ◌^◌, ⊤, Bool, true, false, ◌&&◌, ◌==◌, nat_lt, if◌then◌else◌, List, [], ◌∷◌, ◌++◌, map, Option, Some, None, IfSome}
use Rattle.std.specs.Option.{option_map, option_to_list}
use Rattle.std.specs.List.{filter, flat_map, range_with_len}
use Rattle.tiff_dir.specs.declared.order.Order.{Order}
use Rattle.tiff_dir.specs.declared.table.DirectoryEntry.{DirectoryEntry}
use Rattle.tiff_dir.specs.declared.level.Level.{Level}
use Rattle.tiff_dir.specs.declared.level.Kind.TheVariants as kind
use Rattle.tiff_dir.specs.declared.level.Place.{Place}
use Rattle.tiff_dir.specs.declared.fault.FileFault.{FileFault}
use Rattle.tiff_dir.specs.declared.fault.FileFault.TheVariants.{Missing, FieldType}
use Rattle.tiff_dir.specs.declared.stage.Draft.{Draft}
use Rattle.tiff_dir.specs.declared.stage.Pending.{Pending}
use Rattle.tiff_dir.specs.declared.stage.WalkStep.{WalkStep}
use Rattle.tiff_dir.specs.declared.stage.Stage.{Stage}
use Rattle.tiff_dir.specs.declared.stage.Stage.TheVariants.{Header, ValueCount, Table, Bits, Formats, Ended}
use Rattle.tiff_dir.specs.Number.{number_in}
use Rattle.tiff_dir.specs.File.{◌>>=◌, order_of, number, directory, has_directory, has_all_tags, fields, field, value, size_of}
use Rattle.tiff_dir.specs.Profile.{accepts, is_depth}
use Rattle.tiff_dir.specs.Level.{Layout, is_level, previous_level, place_of, layout_at, compression_of}
use Rattle.tiff_dir.specs.Described.{described}
use Rattle.extents.specs.Extent.{Extent, bytes_in}
use Rattle.tiff_dir.specs.Needs.{is_entry_count, outside_ranges, ranges_of_directory}
use Rattle.tiff_dir.specs.Fault.{is_directory_place, IsUnsupported, IsFaultAt, IsFaultOfDirectory, IsFaultOfLevel}
use Rattle.tiff_dir.specs.Table.{field_of, entry_with_tag}

abbrev pub header_range : Extent
header_range = record { first = 0; len = 8 }

-- the range that is wanted at a stage
abbrev pub range_of : Stage → Option Extent
range_of Header = Some header_range
range_of (ValueCount order index at) = Some (record { first = at; len = 2 })
range_of (Table order index at n) = Some (record { first = at + 2; len = 12 * n + 4 })
range_of (Bits pending first formats) = Some (record { first = first; len = 6 })
range_of (Formats pending first bits) = Some (record { first = first; len = 6 })
range_of (Ended order index) = None

-- the number of the directory that the walk is at
abbrev pub index_of : Stage → ℕ
index_of Header = 0
index_of (ValueCount order index at) = index
index_of (Table order index at n) = index
index_of (Bits pending first formats) = pending.index
index_of (Formats pending first bits) = pending.index
index_of (Ended order index) = index

-- the table of the first directory has been read
abbrev pub is_past_first : Stage → Bool
is_past_first Header = false
is_past_first (ValueCount order index at) = nat_lt 0 index
is_past_first (Table order index at n) = nat_lt 0 index
is_past_first (Bits pending first formats) = true
is_past_first (Formats pending first bits) = true
is_past_first (Ended order index) = true

-- the table of the first directory is wanted
abbrev pub is_first_table : Stage → Bool
is_first_table (Table order index at n) = index == 0
is_first_table _ = false

-- the layouts of the levels among the directories below `k`
unfoldable pub layouts_below : List ℕ → ℕ → List (Option Layout)
layouts_below f k = map (layout_at f) (filter (is_level f) (range_with_len 0 k))

-- the level before directory `k`, if there is one
abbrev pub IsBefore : List ℕ → ℕ → Option Level → Type 0
IsBefore f k previous = option_map (layout_at f) (previous_level f k) ≡ option_map described previous

-- what the directories from `k` on need
unfoldable pub ranges_from : List ℕ → ℕ → List Extent
ranges_from f k = flat_map (ranges_of_directory f) (filter (has_directory f) (range_with_len k (MAX_DIRECTORIES - k)))

-- three numbers of two bytes
abbrev pub three_shorts : ℕ → Extent
three_shorts first = record { first = first; len = 6 }

-- the ranges that the file needs from a stage on
abbrev pub still : List ℕ → Stage → List Extent
still f Header = header_range ∷ ranges_from f 0
still f (ValueCount order index at) = ranges_from f index
still f (Table order index at n) =
    record { first = at + 2; len = 12 * n + 4 } ∷ (outside_ranges f index ++ ranges_from f (suc index))
still f (Bits pending first formats) =
    three_shorts first ∷ (option_to_list (option_map three_shorts formats) ++ ranges_from f (suc pending.index))
still f (Formats pending first bits) = three_shorts first ∷ ranges_from f (suc pending.index)
still f (Ended order index) = []

-- the byte order and the number 42 are known, and the directories below `k` have no fault
pub record IsWalked (f : List ℕ) (order : Order) (k : ℕ) : Type 0 where
  pub named : order_of f ≡ Some order
  pub number : number f 2 2 ≡ Some 42
  pub clean : (j : ℕ) → j < k → (fault : FileFault) → IsFaultAt f j fault → ⊥

-- the directories below `k` are there, and `at` is the offset of directory `k`
pub record Follows (f : List ℕ) (order : Order) (k at : ℕ) : Type 0 where
  pub walked : IsWalked f order k
  pub few : k ≤ MAX_DIRECTORIES
  pub before : (j : ℕ) → k ≡ suc j → has_directory f j ≡ true
  pub place : directory f k ≡ Some at

-- directory `k` is there, and begins at a place where one may begin
pub record Reaches (f : List ℕ) (order : Order) (k at : ℕ) : Type 0 where
  pub walked : IsWalked f order k
  pub few : k < MAX_DIRECTORIES
  pub there : has_directory f k ≡ true
  pub place : directory f k ≡ Some at
  pub good : is_directory_place at ≡ true

pub record Counts (f : List ℕ) (order : Order) (k at n : ℕ) : Type 0 where
  pub reaches : Reaches f order k at
  pub count : number f at 2 ≡ Some n
  pub good : is_entry_count n ≡ true

-- there are `k` directories, and no more
pub record IsOver (f : List ℕ) (order : Order) (k : ℕ) : Type 0 where
  pub follows : Follows f order k 0
  pub some : 0 < k

-- the draft has the values of directory `k`
pub record IsDrafted (f : List ℕ) (k : ℕ) (d : Draft) : Type 0 where
  pub width : value f k IMAGE_WIDTH 0 ≡ Some d.width
  pub length : value f k IMAGE_LENGTH 0 ≡ Some d.length
  pub tile_width : value f k TILE_WIDTH 0 ≡ Some d.tile_width
  pub tile_length : value f k TILE_LENGTH 0 ≡ Some d.tile_length
  pub samples : value f k SAMPLES_PER_PIXEL 0 ≡ Some d.samples
  pub compression : (value f k COMPRESSION 0 >>= compression_of) ≡ Some d.compression
  pub offsets : (field f k TILE_OFFSETS >>= place_of f) ≡ Some d.offsets
  pub counts : (field f k TILE_BYTE_COUNTS >>= place_of f) ≡ Some d.counts

-- directory `k` is a level, which is read except for the values of 258 and 339; `next` is the offset after it
pub record IsPending (f : List ℕ) (p : Pending) : Type 0 where
  pub walked : IsWalked f p.order p.index
  pub few : p.index < MAX_DIRECTORIES
  pub there : has_directory f p.index ≡ true
  pub next : directory f (suc p.index) ≡ Some p.next
  pub level : is_level f p.index ≡ true
  pub sound : (fault : FileFault) → IsFaultOfDirectory f p.index fault → ⊥
  pub whole : (tag : ℕ) → IsFaultOfLevel f p.index (Missing tag) → ⊥
  pub typed : (tag : ℕ) → IsFaultOfLevel f p.index (FieldType tag) → ⊥
  pub supported : (tag : ℕ) → tag ≢ BITS_PER_SAMPLE → tag ≢ SAMPLE_FORMAT → IsUnsupported f p.index tag → ⊥
  pub drafted : IsDrafted f p.index p.draft

-- the three values of the field stand from `first` on
abbrev pub HasShorts : List ℕ → ℕ → ℕ → ℕ → Type 0
HasShorts f k tag first = (i : ℕ) → value f k tag i ≡ (if nat_lt i 3 then number f (first + i * 2) 2 else None)

-- the values of the field have no fault
abbrev pub IsSupported : List ℕ → ℕ → ℕ → Type 0
IsSupported f k tag = IsUnsupported f k tag → ⊥

-- the values of SampleFormat stand outside its entry, or they have no fault
abbrev pub HasFormats : List ℕ → ℕ → Option ℕ → Type 0
HasFormats f k None = IsSupported f k SAMPLE_FORMAT
HasFormats f k (Some first) = HasShorts f k SAMPLE_FORMAT first

-- each of the three numbers of two bytes is `w`
abbrev pub all_are : Order → List ℕ → ℕ → Bool
all_are o bytes w = (number_in o 0 2 bytes == w) && ((number_in o 2 2 bytes == w) && (number_in o 4 2 bytes == w))

-- the depth of a sample that all three numbers are, if they are one
abbrev pub depth_in : Order → List ℕ → Option ℕ
depth_in o bytes = let bits = number_in o 0 2 bytes in if is_depth bits && all_are o bytes bits then Some bits else None

-- the values of BitsPerSample are one and the same depth of the profile, or they aren't
abbrev pub HasBits : List ℕ → ℕ → Option ℕ → Type 0
HasBits f k (Some bits) = (value f k BITS_PER_SAMPLE 0 ≡ Some bits) × (is_depth bits ≡ true) × IsSupported f k BITS_PER_SAMPLE
HasBits f k None = IsUnsupported f k BITS_PER_SAMPLE

abbrev pub AgreesAt : List ℕ → Stage → Type 0
AgreesAt f Header = ⊤
AgreesAt f (ValueCount order index at) = Reaches f order index at
AgreesAt f (Table order index at n) = Counts f order index at n
AgreesAt f (Bits p first formats) = IsPending f p × HasShorts f p.index BITS_PER_SAMPLE first × HasFormats f p.index formats
AgreesAt f (Formats p first bits) = IsPending f p × HasShorts f p.index SAMPLE_FORMAT first × HasBits f p.index bits
AgreesAt f (Ended order index) = IsOver f order index

-- the bytes are the table of directory `k`, with the offset of the next directory
abbrev pub IsTableOf : List ℕ → Order → ℕ → ℕ → ℕ → List ℕ → Type 0
IsTableOf f order k at n bytes = Counts f order k at n × (bytes ≡ bytes_in f (record { first = at + 2; len = 12 * n + 4 }))

-- the walk is at the beginning of directory `k`, or at the end
abbrev pub IsAt : List ℕ → ℕ → Stage → Type 0
IsAt f k stage = AgreesAt f stage × (still f stage ≡ ranges_from f k)

-- The walk goes on to this stage, and the step has the level that was read, if one was.
pub record StepsOn (f : List ℕ) (stage : Stage) (step : WalkStep) : Type 0 where
  pub here : AgreesAt f step.stage
  pub levels : layouts_below f (index_of step.stage)
      ≡ layouts_below f (index_of stage) ++ map described (option_to_list step.level)
  pub come : (r : Extent) → range_of stage ≡ Some r → still f stage ≡ r ∷ still f step.stage

-- The directory is finished: the walk goes on to the next one, or ends.
pub record EndsDirectory (f : List ℕ) (k : ℕ) (step : WalkStep) : Type 0 where
  pub here : AgreesAt f step.stage
  pub index : index_of step.stage ≡ suc k
  pub levels : layouts_below f (suc k) ≡ layouts_below f k ++ map described (option_to_list step.level)
  pub come : still f step.stage ≡ ranges_from f (suc k)

-- The numbers of a draft that the profile bounds

abbrev pub IsArrayPlace : Place → Type 0
IsArrayPlace p = (p.len ≡ p.count * size_of p.kind) × (p.first < 2 ^ 33)

pub record IsBounded (d : Draft) : Type 0 where
  pub width : d.width < 2 ^ 32
  pub length : d.length < 2 ^ 32
  pub tile_width : d.tile_width < 2 ^ 32
  pub tile_length : d.tile_length < 2 ^ 32
  pub offsets : IsArrayPlace d.offsets
  pub counts : IsArrayPlace d.counts

pub record IsDraft (d : Draft) : Type 0 where
  pub bounded : IsBounded d
  pub samples : accepts SAMPLES_PER_PIXEL d.samples ≡ true
  pub long : d.offsets.kind ≡ kind.Long
  pub whole : d.counts.kind ≢ kind.Short → d.counts.kind ≡ kind.Long

-- the walk has taken at most these ranges, and is at one of the directories that a file may have
abbrev pub IsKept : Stage → ℕ → Type 0
IsKept Header given = given ≤ 0
IsKept (ValueCount order index at) given = (index < MAX_DIRECTORIES) × (given ≤ 1 + 4 * index)
IsKept (Table order index at n) given = (index < MAX_DIRECTORIES) × (given ≤ 2 + 4 * index) × (n ≤ MAX_ENTRIES)
IsKept (Bits p first formats) given = (p.index < MAX_DIRECTORIES) × (given ≤ 3 + 4 * p.index) × IsDraft p.draft
IsKept (Formats p first bits) given =
    (p.index < MAX_DIRECTORIES) × (given ≤ 4 + 4 * p.index) × IsDraft p.draft × IfSome bits (λ n. is_depth n ≡ true)
IsKept (Ended order index) given = (0 < index) × (index ≤ MAX_DIRECTORIES) × (given ≤ 1 + 4 * index)

-- the entries are the table of directory `k`, with what each of them holds in itself
pub record HasTable (f : List ℕ) (k : ℕ) (es : List DirectoryEntry) : Type 0 where
  pub there : has_directory f k ≡ true
  pub whole : has_all_tags f k ≡ true
  pub told : fields f k ≡ map field_of es
  pub short : (tag : ℕ) (e : DirectoryEntry) → entry_with_tag tag es ≡ Some e → number f (e.place + 8) 2 ≡ Some e.short
  pub long : (tag : ℕ) (e : DirectoryEntry) → entry_with_tag tag es ≡ Some e → number f (e.place + 8) 4 ≡ Some e.long

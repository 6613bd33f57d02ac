-- The fields of a level in this project's profile of tiled TIFF (TIFF 6.0, sections 8, 15 and 19).
use Rattle.tiff_dir.specs.declared.tags.TheConstants.{BITS_PER_SAMPLE, COMPRESSION, GEO_ASCII_PARAMS, GEO_DOUBLE_PARAMS, GEO_KEY_DIRECTORY, IMAGE_LENGTH, IMAGE_WIDTH, MODEL_PIXEL_SCALE, MODEL_TIEPOINT, MODEL_TRANSFORMATION, NEW_SUBFILE_TYPE, PHOTOMETRIC_INTERPRETATION, PLANAR_CONFIGURATION, SAMPLES_PER_PIXEL, SAMPLE_FORMAT, TILE_BYTE_COUNTS, TILE_LENGTH, TILE_OFFSETS, TILE_WIDTH}
use Rattle.tiff_dir.specs.declared.field_values.TheConstants.{BLACK_IS_ZERO, CHUNKY, COMPRESSION_NONE, COMPRESSION_PACKBITS, PLANAR, RGB, UNSIGNED_INTEGER}
use Rattle.std.specs.Prelude.{ℕ, ◌+◌, ◌-◌, ◌*◌, ◌/◌, ◌%◌, Bool, true, false, ◌&&◌, ◌||◌, ◌==◌, nat_lt, if◌then◌else◌, List, [], ◌∷◌, get_or}
use Rattle.tiff_dir.specs.declared.rule.Typing.{Typing}
use Rattle.tiff_dir.specs.declared.rule.Typing.TheVariants as typing
use Rattle.tiff_dir.specs.declared.rule.ValueCount.TheVariants.{One, Samples, Tiles, Exactly, Multiple}
use Rattle.tiff_dir.specs.declared.rule.Rule.{Rule}

-- NewSubfileType, which is looked at in every directory
abbrev pub subfile_rule : Rule
subfile_rule = record { tag = NEW_SUBFILE_TYPE; typing = typing.Long; count = One; required = false }

-- the fields that are read of a level, in the order of their tags
unfoldable pub profile : List Rule
profile =
    subfile_rule
    ∷ record { tag = IMAGE_WIDTH; typing = typing.ShortOrLong; count = One; required = true }
    ∷ record { tag = IMAGE_LENGTH; typing = typing.ShortOrLong; count = One; required = true }
    ∷ record { tag = BITS_PER_SAMPLE; typing = typing.Short; count = Samples; required = true }
    ∷ record { tag = COMPRESSION; typing = typing.Short; count = One; required = true }
    ∷ record { tag = PHOTOMETRIC_INTERPRETATION; typing = typing.Short; count = One; required = true }
    ∷ record { tag = SAMPLES_PER_PIXEL; typing = typing.Short; count = One; required = false }
    ∷ record { tag = PLANAR_CONFIGURATION; typing = typing.Short; count = One; required = false }
    ∷ record { tag = TILE_WIDTH; typing = typing.ShortOrLong; count = One; required = true }
    ∷ record { tag = TILE_LENGTH; typing = typing.ShortOrLong; count = One; required = true }
    ∷ record { tag = TILE_OFFSETS; typing = typing.Long; count = Tiles; required = true }
    ∷ record { tag = TILE_BYTE_COUNTS; typing = typing.ShortOrLong; count = Tiles; required = true }
    ∷ record { tag = SAMPLE_FORMAT; typing = typing.Short; count = Samples; required = false }
    ∷ []

-- 2 is ASCII, 3 SHORT, 4 LONG and 12 DOUBLE
abbrev pub has_typing : Typing → ℕ → Bool
has_typing typing.Short kind = kind == 3
has_typing typing.Long kind = kind == 4
has_typing typing.ShortOrLong kind = kind == 3 || kind == 4
has_typing typing.Ascii kind = kind == 2
has_typing typing.Double kind = kind == 12

-- a multiple of `n`, but not 0
abbrev pub is_multiple : ℕ → ℕ → Bool
is_multiple n count = nat_lt 0 n && (nat_lt 0 count && (count % n == 0))

-- the fields that georeference an image (OGC 19-008, sections 7.1 and 8), in the order in which they are looked at
abbrev pub geo_profile : List Rule
geo_profile =
    record { tag = GEO_KEY_DIRECTORY; typing = typing.Short; count = Multiple 1; required = false }
    ∷ record { tag = GEO_DOUBLE_PARAMS; typing = typing.Double; count = Multiple 1; required = false }
    ∷ record { tag = GEO_ASCII_PARAMS; typing = typing.Ascii; count = Multiple 1; required = false }
    ∷ record { tag = MODEL_PIXEL_SCALE; typing = typing.Double; count = Exactly 3; required = false }
    ∷ record { tag = MODEL_TIEPOINT; typing = typing.Double; count = Multiple 6; required = false }
    ∷ record { tag = MODEL_TRANSFORMATION; typing = typing.Double; count = Exactly 16; required = false }
    ∷ []

abbrev pub geo_rule : ℕ → Rule
geo_rule j = get_or geo_profile j subfile_rule

-- a sample has one byte or two
abbrev pub is_depth : ℕ → Bool
is_depth bits = bits == 8 || bits == 16

-- the values that the profile accepts of a field
abbrev pub accepts : ℕ → ℕ → Bool
accepts tag v =
    if tag == BITS_PER_SAMPLE then is_depth v
    else if tag == COMPRESSION then v == COMPRESSION_NONE || v == COMPRESSION_PACKBITS
    else if tag == PHOTOMETRIC_INTERPRETATION then v == BLACK_IS_ZERO || v == RGB
    else if tag == SAMPLES_PER_PIXEL then v == 1 || v == 3
    else if tag == PLANAR_CONFIGURATION then v == CHUNKY || v == PLANAR
    else if tag == SAMPLE_FORMAT then v == UNSIGNED_INTEGER else true

-- one sample with BlackIsZero, three with RGB
abbrev pub samples_fit : ℕ → ℕ → Bool
samples_fit samples photometric = (samples == 1 && photometric == BLACK_IS_ZERO) || (samples == 3 && photometric == RGB)

-- chunky samples, or planes of one sample each if there is one sample: both are the same layout
abbrev pub planes_fit : ℕ → ℕ → Bool
planes_fit planar samples = planar == CHUNKY || (planar == PLANAR && samples == 1)

-- a tile's side is a multiple of 16, and at least 16
abbrev pub is_tile_side : ℕ → Bool
is_tile_side side = nat_lt 0 side && (side % 16 == 0)

-- how many bytes a sample of 8 or 16 bits has
abbrev pub sample_bytes : ℕ → ℕ
sample_bytes bits = bits / 8

-- how many bytes a tile has when it is unpacked
abbrev pub tile_bytes : ℕ → ℕ → ℕ → ℕ → ℕ
tile_bytes tile_width tile_length samples bits = tile_width * tile_length * samples * sample_bytes bits

-- how many tiles cover a side
abbrev pub tiles_along : ℕ → ℕ → ℕ
tiles_along side tile_side = (side + tile_side - 1) / tile_side

-- how many tiles a level of these sides has
abbrev pub tile_count : ℕ → ℕ → ℕ → ℕ → ℕ
tile_count width length tile_width tile_length = tiles_along width tile_width * tiles_along length tile_length

-- Entity tags (RFC 9110, section 8.8.3).
use Rattle.std.specs.Prelude.{ℕ, ◌-◌, Bool, ◌&&◌, ◌||◌, ◌==◌, nat_eq, nat_lt, nat_le, List, codes, length, drop, slice_index, slice_range}
use Rattle.std.specs.List.{list_all, starts_with}
use Rattle.http_fields.specs.declared.limits.TheConstants.{TAG_LIMIT}

-- etagc: a byte between the quotes, which is visible but no quote, or past ASCII
abbrev pub is_tag_byte : ℕ → Bool
is_tag_byte b = b == 0x21 || (nat_le 0x23 b && nat_le b 0x7E) || nat_le 0x80 b

-- opaque-tag: a quote, such bytes, and a quote
abbrev pub is_opaque_tag : List ℕ → Bool
is_opaque_tag text =
    nat_lt 1 (length text) && slice_index text 0 == 0x22 && slice_index text (length text - 1) == 0x22
    && list_all is_tag_byte (slice_range text 1 (length text - 1))

-- a weak tag: `W/`, whose case matters, and an opaque tag
abbrev pub is_weak_tag : List ℕ → Bool
is_weak_tag text = starts_with nat_eq text (codes "W/") && is_opaque_tag (drop 2 text)

-- an entity tag, strong or weak
abbrev pub is_entity_tag : List ℕ → Bool
is_entity_tag text = is_opaque_tag text || is_weak_tag text

-- an entity tag that is kept: strong, and of at most 64 bytes
abbrev pub is_kept_tag : List ℕ → Bool
is_kept_tag text = is_opaque_tag text && nat_le (length text) TAG_LIMIT

-- Laws of these definitions. Each is in the contract of a function of `laws`.
use Rattle.std.specs.Prelude.{◌≡◌, ◌<◌, ◌^◌, ◌+◌, ◌↔◌, ℕ, ◌⊎◌, Bool, false, IsTrue, List, [], ◌∷◌, ◌++◌, length, drop, reverse, codes, decimal, Some, map, All}
use Rattle.std.specs.List.{join_with_byte}
use Rattle.std.specs.Str.{IsAscii, all_ascii_digits, bytes_eq}
use Rattle.std.specs.Str.Iter.{LacksByte}
use Rattle.httparse.specs.Grammar.{AllPass, is_uri_byte, is_value_byte, skip_ows, trim_ows, IsField, print_field}
use Rattle.httparse.specs.Spans.{name_and_value}
use Rattle.http_fields.specs.declared.limits.TheConstants.{NAME_LIMIT, HOST_LIMIT, TARGET_LIMIT, AUTHORITY_LIMIT, EXTRA_LINES_LIMIT, EXTRA_BYTES_LIMIT, FIELD_LIMIT, TAG_LIMIT, HEAD_LIMIT, MESSAGE_LIMIT, ANSWERS_LIMIT}
use Rattle.http_fields.specs.Tag.{is_tag_byte, is_opaque_tag, is_weak_tag, is_kept_tag}
use Rattle.http_fields.specs.Digits.{number, number_64}
use Rattle.http_fields.specs.Members.{members}
use Rattle.http_fields.specs.Conditional.{any_match}
use Rattle.http_fields.specs.Lists.{Element, HasMatch, IsTagList}
use Rattle.http_fields.specs.Text.{FieldLine, line}
use Rattle.http_fields.specs.Plain.{field_of, IsPlain}
use Rattle.http_fields.specs.Names.{is_host, is_name}
use Rattle.http_fields.specs.Target.{is_authority_text, is_target}
use Rattle.http_fields.specs.RequestFields.{is_extra}

-- the limits, in numbers
pub record LimitsAre : Type 0 where
  pub name : NAME_LIMIT ≡ 200
  pub host : HOST_LIMIT ≡ 64
  pub target : TARGET_LIMIT ≡ 2048
  pub authority : AUTHORITY_LIMIT ≡ 255
  pub extra_lines : EXTRA_LINES_LIMIT ≡ 16
  pub extra_bytes : EXTRA_BYTES_LIMIT ≡ 1024
  pub fields : FIELD_LIMIT ≡ 32
  pub tag : TAG_LIMIT ≡ 64
  pub head : HEAD_LIMIT ≡ 4096
  pub message : MESSAGE_LIMIT ≡ 8192
  pub answers : ANSWERS_LIMIT ≡ 100

-- opaque tags are texts between quotes, and weak tags are opaque tags after `W/`
pub record TagsAreQuoted : Type 0 where
  pub opaque : (text : List ℕ) → IsTrue (is_opaque_tag text)
      ↔ ((inner : List ℕ) × (text ≡ 34 ∷ (inner ++ 34 ∷ [])) × AllPass is_tag_byte inner)
  pub weak : (text : List ℕ) → IsTrue (is_weak_tag text)
      ↔ ((tag : List ℕ) × (text ≡ codes "W/" ++ tag) × IsTrue (is_opaque_tag tag))

-- an opaque tag isn't empty, its bytes are visible or past ASCII, and it is no weak tag
pub record TagsAreVisible : Type 0 where
  pub some : (tag : List ℕ) → IsTrue (is_opaque_tag tag) → 0 < length tag
  pub visible : (tag : List ℕ) → IsTrue (is_opaque_tag tag) → AllPass is_uri_byte tag
  pub strong : (tag : List ℕ) → IsTrue (is_opaque_tag tag) → is_weak_tag tag ≡ false

-- an ETag that is kept, alone in If-None-Match, matches only itself
abbrev pub TagsMatchThemselves : Type 0
TagsMatchThemselves =
    (tag current : List ℕ) → IsTrue (is_kept_tag tag) → any_match tag current false ≡ bytes_eq tag current

-- a value matches an entity tag exactly where it is `*`, or a list of entity tags of which one matches (RFC 9110, sections 13.1.1
-- and 13.1.2)
abbrev pub ListsAreMatched : Type 0
ListsAreMatched =
    (value tag : List ℕ) (strong : Bool) → IsTrue (any_match value tag strong)
    ↔ ((trim_ows value ≡ codes "*") ⊎ ((elements : List Element) × IsTagList value elements × HasMatch strong tag elements))

-- where quotes don't count, the members of a list are what stands between its commas, without white space before and after (RFC 9110,
-- section 5.6.1)
abbrev pub MembersStandBetweenCommas : Type 0
MembersStandBetweenCommas =
    (value : List ℕ)
    → (parts : List (List ℕ)) × (0 < length parts) × All (LacksByte 44) parts × (value ≡ join_with_byte 44 parts)
    × (members false value ≡ map trim_ows parts)

-- a number below 2^64 in decimal is digits, which are visible, and is read as itself
pub record DecimalsAreRead : Type 0 where
  pub digits : (n : ℕ) → n < 2 ^ 64 → IsTrue (all_ascii_digits (decimal n))
  pub visible : (n : ℕ) → n < 2 ^ 64 → AllPass is_uri_byte (decimal n)
  pub number : (n : ℕ) → n < 2 ^ 64 → number (decimal n) ≡ Some n
  pub number_64 : (n : ℕ) → n < 2 ^ 64 → number_64 (decimal n) ≡ Some n

-- a plain line is a field of the grammar, and is read as it was written
pub record LinesAreFields : Type 0 where
  pub printed : (l : FieldLine) → print_field (field_of l) ≡ line l
  pub size : (l : FieldLine) → length (line l) ≡ length l.0 + length l.1 + 4
  pub field : (l : FieldLine) → IsPlain l → IsField (field_of l)
  pub seen : (l : FieldLine) → IsPlain l → name_and_value (field_of l) ≡ l

-- Bytes that are visible or past ASCII may stand in a value. If some stand at its front or end, no white space does.
pub record VisibleValues : Type 0 where
  pub value : (v : List ℕ) → AllPass is_uri_byte v → AllPass is_value_byte v
  pub front : (v after : List ℕ) → AllPass is_uri_byte v → 0 < length v → skip_ows (v ++ after) ≡ v ++ after
  pub back : (before v : List ℕ) → AllPass is_uri_byte v → 0 < length v
      → skip_ows (reverse (before ++ v)) ≡ reverse (before ++ v)

-- What a request is written with, beside ETags and numbers, may stand in its head. Hosts and names of plain clients are like those of a
-- URL, which have only visible characters of ASCII. Lines that are added are plain.
pub record RequestsMayStand : Type 0 where
  pub host : (host : List ℕ) → IsTrue (is_host host) → IsTrue (is_authority_text host)
  pub name : (name : List ℕ) → IsTrue (is_name name) → IsTrue (is_target (47 ∷ name))
  pub authority : (text : List ℕ) → IsTrue (is_authority_text text) → AllPass is_uri_byte text
  pub target : (text : List ℕ) → IsTrue (is_target text) → AllPass is_uri_byte text
  pub ascii : (text : List ℕ) → IsTrue (is_target text) → IsAscii text
  pub slash : (text : List ℕ) → IsTrue (is_target text) → text ≡ 47 ∷ drop 1 text
  pub line : (l : FieldLine) → IsTrue (is_extra l) → IsPlain l

pub record PartsAreRead : Type 0 where
  pub quoted : TagsAreQuoted
  pub tags : TagsAreVisible
  pub alone : TagsMatchThemselves
  pub lists : ListsAreMatched
  pub members : MembersStandBetweenCommas
  pub decimals : DecimalsAreRead
  pub lines : LinesAreFields
  pub values : VisibleValues
  pub requests : RequestsMayStand

-- The value of a Content-Range field (RFC 9110, section 14.4). Own: no form with `*`, and the unit in small letters.
use Rattle.std.specs.Prelude.{◌≡◌, ◌<◌, ◌≤◌, ℕ, ◌&&◌, ◌==◌, nat_lt, nat_le, nat_eq, if◌then◌else◌, List, ◌∷◌, ◌++◌, drop, codes, Option, Some, None, ⊤}
use Rattle.std.specs.List.{before_first, after_first, starts_with}
use Rattle.http_range.specs.declared.reading.ContentRange.{ContentRange}
use Rattle.http_fields.specs.Digits.{number_64}

-- `text` is `bytes a-b/l` with a ≤ b and b < l; each number has one or more digits and is below 2^64
pub record IsContentRange (text : List ℕ) (range : ContentRange) : Type 0 where
  pub first : List ℕ
  pub last : List ℕ
  pub complete : List ℕ
  pub parts : text ≡ codes "bytes " ++ first ++ 45 ∷ (last ++ 47 ∷ complete)
  pub first_is : number_64 first ≡ Some range.first
  pub last_is : number_64 last ≡ Some range.last
  pub complete_is : number_64 complete ≡ Some range.complete
  pub ascending : range.first ≤ range.last
  pub inside : range.last < range.complete

-- the positions lie within the content
abbrev pub IsRange : Option ContentRange → Type 0
IsRange None = ⊤
IsRange (Some r) = (r.first ≤ r.last) × (r.last < r.complete)

-- ---- the same, computed

-- the range of three numbers `a`, `b` and `l`, if a ≤ b and b < l
abbrev pub range_of_numbers : Option ℕ → Option ℕ → Option ℕ → Option ContentRange
range_of_numbers (Some a) (Some b) (Some l) =
    if nat_le a b && nat_lt b l then Some (record { first = a; last = b; complete = l }) else None
range_of_numbers first last complete = None

-- the range in the value of a Content-Range field
unfoldable pub range_of : List ℕ → Option ContentRange
range_of text =
    let span = drop 6 text in
    let ends = after_first (λ b. b == 45) span in
    if starts_with nat_eq text (codes "bytes ")
    then range_of_numbers (number_64 (before_first (λ b. b == 45) span))
    (number_64 (before_first (λ b. b == 47) ends)) (number_64 (after_first (λ b. b == 47) ends))
    else None

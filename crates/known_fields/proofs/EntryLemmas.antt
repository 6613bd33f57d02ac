-- The steps by which directories, entries and values are found.
use Rattle.std.proofs.Common.{◌≡◌, ℕ, zero, suc, ◌+◌, ◌*◌, ◌<◌, ◌≤◌, ◌==◌, true, false, List, Option, Some, None, refl, arith, inl, inr}
use Rattle.std.specs.Prelude.{nat_le, nat_lt, if◌then◌else◌}
use Rattle.std.proofs.lemmas.Bool.{cases_Bool, leb-true, leb-false, lt-ltb, le-ltb}
use Rattle.tiff_dir.specs.declared.level.Kind.{Kind}
use Rattle.tiff_dir.specs.File.{◌>>=◌, directory, field_value, kind_of, number, size_of, values_at}
use Rattle.known_fields.specs.Entry.{place_from, value_at}

-- Directories

pub directory_first : (f : List ℕ) → directory f 0 ≡ number f 4 4
unfolding directory
directory_first f = refl

-- behind a directory that isn't there, there is none
pub directory_ends : (f : List ℕ) (j k : ℕ) → j ≤ k → directory f j ≡ None → directory f k ≡ None
unfolding directory
directory_ends f j zero le none = let is : j ≡ 0 = omega arith in rw is at none
directory_ends f j (suc k) le none = elim (cases_Bool (nat_le j k)) [
  | inl before ↦ rw (directory_ends f j k (leb-true j k before) none) refl
  | inr past ↦ (let here = leb-false j k past in let is : j ≡ suc k = omega arith in rw is at none)
]

-- the next directory stands where the entries of this one end
pub directory_next : (f : List ℕ) (k next at n from base count : ℕ) → next ≡ k + 1 → directory f k ≡ Some at → from ≡ at → base ≡ at → count ≡ n
    → number f from 2 ≡ Some n → directory f next ≡ number f (base + 2 + 12 * count) 4
unfolding directory
directory_next f k next at n from base count is here same same' counted told =
    let e : next ≡ suc k = omega arith in
    let told' : number f at 2 ≡ Some n = rw same at told in
    rw (e, here, told', same', counted) refl

pub directory_uncounted : (f : List ℕ) (k next at from : ℕ) → next ≡ k + 1 → directory f k ≡ Some at → from ≡ at → number f from 2 ≡ None → directory f next ≡ None
unfolding directory
directory_uncounted f k next at from is here same none =
    let e : next ≡ suc k = omega arith in
    let none' : number f at 2 ≡ None = rw same at none in
    rw (e, here, none') refl

-- Entries

pub place_here : (f : List ℕ) (at n left tag t : ℕ) → n ≡ left + 1 → number f at 2 ≡ Some t → (t == tag) ≡ true → place_from f at n tag ≡ Some (Some at)
unfolding place_from
place_here f at n left tag t is told same = let e : n ≡ suc left = omega arith in rw (e, told, same) refl

pub place_on : (f : List ℕ) (at next n left tag t : ℕ) → next ≡ at + 12 → n ≡ left + 1 → number f at 2 ≡ Some t → (t == tag) ≡ false → place_from f at n tag ≡ place_from f next left tag
unfolding place_from
place_on f at next n left tag t on is told other = let e : n ≡ suc left = omega arith in rw (e, told, other, on) refl

pub place_none : (f : List ℕ) (at n left tag : ℕ) → n ≡ left + 1 → number f at 2 ≡ None → place_from f at n tag ≡ None
unfolding place_from
place_none f at n left tag is none = let e : n ≡ suc left = omega arith in rw (e, none) refl

pub place_end : (f : List ℕ) (at n tag : ℕ) → n ≡ 0 → place_from f at n tag ≡ Some None
unfolding place_from
place_end f at n tag is = rw is refl

-- The value of an entry

-- what follows the type, whose values have this size
abbrev pub sized : List ℕ → ℕ → ℕ → ℕ → Option ℕ
sized f at i size =
    number f (at + 4) 4 >>= λ count. (if nat_le (count * size) 4 then Some (at + 8) else number f (at + 8) 4)
    >>= λ first. if nat_lt i count then number f (first + i * size) size else None

-- what follows the count
abbrev pub counted : List ℕ → ℕ → ℕ → ℕ → ℕ → Option ℕ
counted f at i size count =
    (if nat_le (count * size) 4 then Some (at + 8) else number f (at + 8) 4) >>= λ first. if nat_lt i count then number f (first + i * size) size else None

pub value_unkind : (f : List ℕ) (at i : ℕ) → number f (at + 2) 2 ≡ None → value_at f at i ≡ None
unfolding value_at field_value
value_unkind f at i none = rw none refl

pub value_untyped : (f : List ℕ) (at i k : ℕ) → number f (at + 2) 2 ≡ Some k → kind_of k ≡ None → value_at f at i ≡ None
unfolding value_at field_value
value_untyped f at i k told none = rw told (rw none refl)

pub value_sized : (f : List ℕ) (at i k : ℕ) (t : Kind) (size : ℕ) → number f (at + 2) 2 ≡ Some k → kind_of k ≡ Some t → size ≡ size_of t → value_at f at i ≡ sized f at i size
unfolding value_at field_value values_at
value_sized f at i k t size told typed is = rw (told, is) (rw typed refl)

pub sized_uncounted : (f : List ℕ) (at i size : ℕ) → number f (at + 4) 4 ≡ None → sized f at i size ≡ None
sized_uncounted f at i size none = rw none refl

pub sized_counted : (f : List ℕ) (at i size count n : ℕ) → number f (at + 4) 4 ≡ Some count → n ≡ count → sized f at i size ≡ counted f at i size n
sized_counted f at i size count n told is = rw (told, is) refl

pub counted_unplaced : (f : List ℕ) (at i size count : ℕ) → (if nat_le (count * size) 4 then Some (at + 8) else number f (at + 8) 4) ≡ None → counted f at i size count ≡ None
counted_unplaced f at i size count none = rw none refl

pub counted_past : (f : List ℕ) (at i size count first : ℕ) → (if nat_le (count * size) 4 then Some (at + 8) else number f (at + 8) 4) ≡ Some first → count ≤ i → counted f at i size count ≡ None
counted_past f at i size count first told past = rw (told, le-ltb i count past) refl

pub counted_number : (f : List ℕ) (at i j size count first : ℕ) → (if nat_le (count * size) 4 then Some (at + 8) else number f (at + 8) 4) ≡ Some first → i < count → j ≡ i
    → counted f at i size count ≡ number f (first + j * size) size
counted_number f at i j size count first told inside is = rw (told, lt-ltb i count inside, is) refl

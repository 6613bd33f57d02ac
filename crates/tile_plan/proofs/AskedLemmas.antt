-- What a window query asks for, by the levels that were read.
use Rattle.std.proofs.Common.{◌≡◌, ℕ, zero, suc, ◌+◌, ◌-◌, ◌*◌, ◌/◌, ◌<◌, ◌≤◌, inl, inr, Bool, true, false, List, length, Option, Some, None, refl, sym, subst, ap, ◌∙◌, arith}
use Rattle.std.specs.Prelude.{◌&&◌, ◌||◌, not, ◌==◌, nat_lt, nat_le, unwrap_or, is_none, slice_get, IsTrue, IsSomeAnd, IfSome, IfOk, IfErr, IsErrAnd, Result, Ok, Err}
use Rattle.std.specs.Option.{option_map_or}
use Rattle.std.specs.List.{filter, last_or, range_with_len}
use Rattle.std.proofs.Math.Nat.{mul-le-mul_right}
use Rattle.std.proofs.lemmas.Bool.{and_parts, cases_Bool, lt-ltb, le-leb, ltb-true, cases_lt, lt-leb, le-ltb, ne_eqb, false≢true}
use Rattle.std.proofs.lemmas.Nat.{le-div}
use Rattle.std.proofs.lemmas.List.{length-map}
use Rattle.std.proofs.lemmas.Option.{none-some, slice_get_past, slice_get_cases}
use Rattle.tiff_dir.specs.declared.level.Level.{Level}
use Rattle.tiff_dir.specs.declared.query.Query.{Query}
use Rattle.tiff_dir.specs.declared.query.Query.TheVariants.{Window}
use Rattle.tiff_dir.specs.declared.query.Pick.TheVariants as pick
use Rattle.tiff_dir.specs.declared.fault.FileFault.{FileFault}
use Rattle.tiff_dir.specs.declared.fault.FileFault.TheVariants.{Outside, TooLarge}
use Rattle.tiff_dir.specs.File.{◌>>=◌, value}
use Rattle.tiff_dir.specs.Level.{layouts, layout_at, level_directories, level_directory, level_value}
use Rattle.tiff_dir.specs.Described.{described}
use Rattle.tiff_dir.specs.Query as asked
use Rattle.tiff_dir.specs.declared.limits.TheConstants.{MAX_WINDOW_SAMPLES}
use Rattle.tiff_dir.specs.Query.{scaled_down, scaled_up, scaled, rectangle, smallest_level, passes, is_outside_level, is_outside, is_too_large, is_refused}
use Rattle.tile_plan.specs.declared.asked.Rectangle.{Rectangle}
use Rattle.tile_plan.specs.Levels.{HasLevels, rectangle_of, is_inside, has_columns, last_with_columns, outwards, IsSmall, IsAsked, IsRefusedBy}
use Rattle.tile_plan.proofs.RectLemmas.{last_more}

-- ---- places along a side

more_places : (side first at n : ℕ) → 0 < side → 0 < first → 0 < n → scaled_down side first at < scaled_up side first (at + n)
more_places side first at n some some_first more =
    let q = at * side / first in
    let low : q * first ≤ at * side = omega arith in
    let side_more : 1 * side ≤ n * side = mul-le-mul_right side more in
    let next : q + 1 ≤ ((at + n) * side + first - 1) / first = le-div (q + 1) ((at + n) * side + first - 1) first some_first (omega (arith, low, side_more)) in
    omega (arith, next)

pub inside_scaled : (first l : Level) (x y w h right bottom : ℕ) → IsTrue (is_inside first x y w h) → right ≡ scaled_up l.width first.width (x + w) → right ≤ l.width → bottom ≡ scaled_up l.length first.length (y + h) → bottom ≤ l.length
    → IsTrue (is_inside l (scaled_down l.width first.width x) (scaled_down l.length first.length y) (right - scaled_down l.width first.width x) (bottom - scaled_down l.length first.length y))
inside_scaled first l x y w h right bottom inside is fits is_bottom fits_bottom =
    let some = (and_parts (nat_lt 0 w && nat_lt 0 h) (nat_le (x + w) first.width && nat_le (y + h) first.length) inside).0 in
    let (wide, tall) = and_parts (nat_lt 0 w) (nat_lt 0 h) some in
    let columns = more_places l.width first.width x w l.sides.0 first.sides.0 (ltb-true 0 w wide) in
    let rows = more_places l.length first.length y h l.sides.1 first.sides.1 (ltb-true 0 h tall) in
    let left = scaled_down l.width first.width x in
    let top = scaled_down l.length first.length y in
    rw (
      lt-ltb 0 (right - left) (omega (arith, columns, is)),
      lt-ltb 0 (bottom - top) (omega (arith, rows, is_bottom)),
      le-leb (left + (right - left)) l.width (omega (arith, columns, is, fits)),
      le-leb (top + (bottom - top)) l.length (omega (arith, rows, is_bottom, fits_bottom)),
    ) refl

-- the last number is one of them
pub last_below : (p : ℕ → Bool) (n : ℕ) → 0 < n → unwrap_or (last_or None (filter p (range_with_len 0 n))) 0 < n
last_below p zero some = absurd (omega (arith, some))
last_below p (suc zero) some = (let last = last_more p None 0 0 in elim (cases_Bool (p (0 + 0))) [ inl h ↦ rw last (rw h (omega arith)) | inr h ↦ rw last (rw h (omega arith)) ])
last_below p (suc (suc n)) some = (let last = last_more p None 0 (suc n) in elim (cases_Bool (p (0 + suc n))) [
  | inl h ↦ rw last (rw h (omega arith))
  | inr h ↦ rw last (rw h (let before = last_below p (suc n) (omega arith) in omega (arith, before)))
])

pub best_below : (ls : List Level) (columns w first n len best : ℕ) → best ≡ last_with_columns ls columns w first n → n ≡ len → 0 < len → best < len
best_below ls columns w first n len best is same some =
    let below = last_below (λ k. option_map_or (has_columns columns w first) (slice_get ls k) false) n (omega (arith, same, some)) in
    omega (arith, is, same, below)

-- ---- the levels of a file

count_is : (f : List ℕ) (ls : List Level) → HasLevels f ls → length ls ≡ length (level_directories f)
unfolding layouts
count_is f ls h = sym (length-map ls described) ∙ ap length h.levels ∙ length-map (level_directories f) (layout_at f)

not_there : (f : List ℕ) (ls : List Level) (n : ℕ) → HasLevels f ls → slice_get ls n ≡ None → is_none (level_directory f n) ≡ true
unfolding level_directory
not_there f ls n h none = elim (slice_get_cases ls n).1 [
  | inl some ↦ absurd (none-some some.0 (sym none ∙ some.2))
  | inr past ↦ (let far : length (level_directories f) ≤ n = omega (arith, past.0, count_is f ls h) in rw (slice_get_past (level_directories f) n far) refl)
]

directory_there : (f : List ℕ) (n v : ℕ) → level_value f n 256 0 ≡ Some v → is_none (level_directory f n) ≡ false
unfolding level_value
directory_there f n v is = at (level_directory f n) is where
  at : (o : Option ℕ) → (o >>= λ k. value f k 256 0) ≡ Some v → is_none o ≡ false
  at None is = absurd (none-some v is)
  at (Some k) is = refl

-- ---- outside

none_is : (w : ℕ) → (w == 0) ≡ not (nat_lt 0 w)
none_is zero = refl
none_is (suc w) = ne_eqb (suc w) 0 (λ is. absurd (omega (arith, is))) ∙ sym (ap not (lt-ltb 0 (suc w) (omega arith)))

past_is : (side end : ℕ) → nat_lt side end ≡ not (nat_le end side)
past_is side end = elim (cases_lt side end) [
  | inl less ↦ lt-ltb side end less ∙ sym (ap not (lt-leb end side less))
  | inr more ↦ le-ltb side end more ∙ sym (ap not (le-leb end side more))
]

four : (a b c d : Bool) → (not a || not b || false || not c || not d) ≡ not ((a && b) && (c && d))
four false b c d = refl
four true false c d = refl
four true true false d = refl
four true true true d = refl

third : (a b c d e : Bool) → c ≡ true → (a || b || c || d || e) ≡ true
third true b c d e is = refl
third false true c d e is = refl
third false false true d e is = refl
third false false false d e is = absurd (false≢true is)

outside_level : (f : List ℕ) (ls : List Level) (n x y w h : ℕ) (l : Level) → HasLevels f ls → slice_get ls n ≡ Some l → is_outside_level f n x y w h ≡ not (is_inside l x y w h)
outside_level f ls n x y w h l has is =
    let here = has.each n l is in
    rw (directory_there f n l.width here.width, here.width, here.length, none_is w, none_is h, past_is l.width (x + w), past_is l.length (y + h))
    (four (nat_lt 0 w) (nat_lt 0 h) (nat_le (x + w) l.width) (nat_le (y + h) l.length))

outside_all : (f : List ℕ) (ls : List Level) (n x y w h : ℕ) → HasLevels f ls → IfSome (slice_get ls n) (λ l. is_inside l x y w h ≡ false) → is_outside_level f n x y w h ≡ true
outside_all f ls n x y w h has bad = at (slice_get ls n) refl bad where
  at : (o : Option Level) → slice_get ls n ≡ o → IfSome o (λ l. is_inside l x y w h ≡ false) → is_outside_level f n x y w h ≡ true
  at None is bad = third (w == 0) (h == 0) (is_none (level_directory f n)) (passes (x + w) (level_value f n 256 0)) (passes (y + h) (level_value f n 257 0)) (not_there f ls n has is)
  at (Some l) is bad = outside_level f ls n x y w h l has is ∙ ap not bad

inside_level : (f : List ℕ) (ls : List Level) (n x y w h : ℕ) (l : Level) → HasLevels f ls → slice_get ls n ≡ Some l → IsTrue (is_inside l x y w h) → is_outside_level f n x y w h ≡ false
inside_level f ls n x y w h l has is good = outside_level f ls n x y w h l has is ∙ ap not good

-- ---- too large

large_is : (f : List ℕ) (ls : List Level) (q : Query) (r : asked.Rectangle) (l : Level) → HasLevels f ls → slice_get ls r.level ≡ Some l → rectangle f q ≡ Some r → is_too_large f q ≡ nat_lt MAX_WINDOW_SAMPLES (r.width * r.height * l.samples)
unfolding is_too_large
large_is f ls q r l has is there = rw (there, (has.each r.level l is).samples) refl

both_false : (a b : Bool) → a ≡ false → b ≡ false → (a || b) ≡ false
both_false a b x y = rw (x, y) refl

-- the rectangle of a query in a level
in_level : (ls : List Level) (q : Query) (r : Rectangle) (l : Level) → slice_get ls r.level ≡ Some l → IsTrue (is_inside l r.x r.y r.w r.h) → nat_lt MAX_WINDOW_SAMPLES (r.w * r.h * l.samples) ≡ false
    → ((f : List ℕ) → HasLevels f ls → is_outside f q ≡ false) → ((f : List ℕ) → HasLevels f ls → rectangle f q ≡ Some (rectangle_of r)) → IsAsked ls q r
in_level ls q r l is inside few within there = record {
  rectangle = there;
  good = λ f has. both_false (is_outside f q) (is_too_large f q) (within f has) (large_is f ls q (rectangle_of r) l has is (there f has) ∙ few);
  small = some_and ls r l is (record { inside = inside; few = within_few (r.w * r.h * l.samples) few });
} where
  some_and : (ls : List Level) (r : Rectangle) (l : Level) → slice_get ls r.level ≡ Some l → IsSmall l r → IsSomeAnd (slice_get ls r.level) (λ l. IsSmall l r)
  some_and ls r l is small = rw is small

  within_few : (n : ℕ) → nat_lt MAX_WINDOW_SAMPLES n ≡ false → n ≤ MAX_WINDOW_SAMPLES
  within_few n few = elim (cases_lt MAX_WINDOW_SAMPLES n) [ inl more ↦ absurd (false≢true (sym few ∙ lt-ltb MAX_WINDOW_SAMPLES n more)) | inr fits ↦ fits ]

too_large : (ls : List Level) (q : Query) (r : Rectangle) (l : Level) → slice_get ls r.level ≡ Some l → nat_lt MAX_WINDOW_SAMPLES (r.w * r.h * l.samples) ≡ true
    → ((f : List ℕ) → HasLevels f ls → rectangle f q ≡ Some (rectangle_of r)) → IsRefusedBy ls q TooLarge
too_large ls q r l is many there f has = large_is f ls q (rectangle_of r) l has is (there f has) ∙ many

pub asked_by : (ls : List Level) (q : Query) (r : Rectangle) (l : Level) (result : Result Rectangle FileFault) → slice_get ls r.level ≡ Some l → IsTrue (is_inside l r.x r.y r.w r.h)
    → ((f : List ℕ) → HasLevels f ls → is_outside f q ≡ false) → ((f : List ℕ) → HasLevels f ls → rectangle f q ≡ Some (rectangle_of r))
    → IfOk result (λ s. (s ≡ r) × (nat_lt MAX_WINDOW_SAMPLES (r.w * r.h * l.samples) ≡ false)) → IfOk result (IsAsked ls q)
asked_by ls q r l (Ok s) is inside within there (same, few) = subst (IsAsked ls q) (sym same) (in_level ls q r l is inside few within there)
asked_by ls q r l (Err e) is inside within there good = tt

pub refused_by : (ls : List Level) (q : Query) (r : Rectangle) (l : Level) (result : Result Rectangle FileFault) → slice_get ls r.level ≡ Some l
    → ((f : List ℕ) → HasLevels f ls → rectangle f q ≡ Some (rectangle_of r))
    → IfErr result (λ fault. (fault ≡ TooLarge) × (nat_lt MAX_WINDOW_SAMPLES (r.w * r.h * l.samples) ≡ true)) → IfErr result (IsRefusedBy ls q)
refused_by ls q r l (Ok s) is there bad = tt
refused_by ls q r l (Err e) is there (same, many) = subst (IsRefusedBy ls q) (sym same) (too_large ls q r l is many there)

-- ---- a window of a level

pub level_within : (ls : List Level) (n x y w h : ℕ) (l : Level) → slice_get ls n ≡ Some l → IsTrue (is_inside l x y w h) → (f : List ℕ) → HasLevels f ls → is_outside f (Window x y w h (pick.Level n)) ≡ false
unfolding is_outside
level_within ls n x y w h l is inside f has = inside_level f ls n x y w h l has is inside

pub level_outside : (ls : List Level) (n x y w h : ℕ) (fault : FileFault) → (fault ≡ Outside) × IfSome (slice_get ls n) (λ l. is_inside l x y w h ≡ false) → IsRefusedBy ls (Window x y w h (pick.Level n)) fault
unfolding is_outside
level_outside ls n x y w h fault (same, bad) = subst (IsRefusedBy ls (Window x y w h (pick.Level n))) (sym same) (λ f has. outside_all f ls n x y w h has bad)

pub level_rectangle : (ls : List Level) (n x y w h : ℕ) (f : List ℕ) → HasLevels f ls → rectangle f (Window x y w h (pick.Level n)) ≡ Some (rectangle_of (record { level = n; x = x; y = y; w = w; h = h }))
unfolding rectangle
level_rectangle ls n x y w h f has = refl

-- ---- a window by its columns

filter_same : (p q : ℕ → Bool) (a n : ℕ) → ((k : ℕ) → a ≤ k → k < a + n → p k ≡ q k) → filter p (range_with_len a n) ≡ filter q (range_with_len a n)
filter_same p q a zero same = refl
filter_same p q a (suc n) same =
    let here : p a ≡ q a = same a (omega arith) (omega arith) in
    let rest = filter_same p q (a + 1) n (λ k more less. same k (omega (arith, more)) (omega (arith, less))) in
    rw (here, rest) refl

columns_same : (f : List ℕ) (ls : List Level) (columns w k : ℕ) (first : Level) → HasLevels f ls → slice_get ls 0 ≡ Some first → k < length ls
    → asked.has_columns f columns w k ≡ option_map_or (has_columns columns w first.width) (slice_get ls k) false
columns_same f ls columns w k first has is less = elim (slice_get_cases ls k).1 [
  | inl some ↦ rw ((has.each k some.0 some.2).width, (has.each 0 first is).width, some.2) refl
  | inr past ↦ absurd (omega (arith, past.0, less))
]

smallest_is : (f : List ℕ) (ls : List Level) (columns w : ℕ) (first : Level) → HasLevels f ls → slice_get ls 0 ≡ Some first → smallest_level f columns w ≡ last_with_columns ls columns w first.width (length ls)
unfolding smallest_level
smallest_is f ls columns w first has is =
    let p : ℕ → Bool = λ k. option_map_or (has_columns columns w first.width) (slice_get ls k) false in
    ap (λ n. unwrap_or (last_or None (filter (asked.has_columns f columns w) (range_with_len 0 n))) 0) (sym (count_is f ls has))
    ∙ ap (λ ks. unwrap_or (last_or None ks) 0) (filter_same (asked.has_columns f columns w) p 0 (length ls) (λ k more less. columns_same f ls columns w k first has is (omega (arith, less))))

scaled_is : (f : List ℕ) (ls : List Level) (n x y w h : ℕ) (first l : Level) → HasLevels f ls → slice_get ls 0 ≡ Some first → slice_get ls n ≡ Some l → scaled f n x y w h ≡ Some (outwards n first l x y w h)
unfolding scaled
scaled_is f ls n x y w h first l has is there =
    let a = has.each 0 first is in
    let b = has.each n l there in
    rw (a.width, a.length, b.width, b.length) refl

pub columns_rectangle : (ls : List Level) (columns n x y w h : ℕ) (first l : Level) (r : Rectangle) → (columns == 0) ≡ false → slice_get ls 0 ≡ Some first → n ≡ last_with_columns ls columns w first.width (length ls) → slice_get ls n ≡ Some l
    → rectangle_of r ≡ outwards n first l x y w h → (f : List ℕ) → HasLevels f ls → rectangle f (Window x y w h (pick.Columns columns)) ≡ Some (rectangle_of r)
unfolding rectangle
columns_rectangle ls columns n x y w h first l r some is smallest there same f has =
    rw some (ap (λ k. scaled f k x y w h) (smallest_is f ls columns w first has is ∙ sym smallest) ∙ scaled_is f ls n x y w h first l has is there ∙ ap Some (sym same))

pub columns_within : (ls : List Level) (columns x y w h : ℕ) (l : Level) → (columns == 0) ≡ false → slice_get ls 0 ≡ Some l → IsTrue (is_inside l x y w h) → (f : List ℕ) → HasLevels f ls → is_outside f (Window x y w h (pick.Columns columns)) ≡ false
unfolding is_outside
columns_within ls columns x y w h l some is inside f has = both_false (columns == 0) (is_outside_level f 0 x y w h) some (inside_level f ls 0 x y w h l has is inside)

pub columns_outside : (ls : List Level) (columns x y w h : ℕ) (fault : FileFault) → (fault ≡ Outside) × IfSome (slice_get ls 0) (λ l. is_inside l x y w h ≡ false) → IsRefusedBy ls (Window x y w h (pick.Columns columns)) fault
unfolding is_outside
columns_outside ls columns x y w h fault (same, bad) = subst (IsRefusedBy ls (Window x y w h (pick.Columns columns))) (sym same) (λ f has. either (columns == 0) (is_outside_level f 0 x y w h) (outside_all f ls 0 x y w h has bad)) where
  either : (a b : Bool) → b ≡ true → (a || b) ≡ true
  either true b is = refl
  either false b is = is

pub no_columns : (ls : List Level) (columns x y w h : ℕ) → (columns == 0) ≡ true → IsRefusedBy ls (Window x y w h (pick.Columns columns)) Outside
unfolding is_outside
no_columns ls columns x y w h none f has = rw none refl

-- ---- refusals that are passed on

pub passed_on : {A E : Type 0} (result : Result A E) (error : E) (P : E → Type 0) → IsErrAnd result (λ e. e ≡ error) → P error → IfErr result P
passed_on (Ok a) error P bad good = absurd bad
passed_on (Err e) error P is good = subst P (sym is) good

-- The bytes of a text, and how many masks there are, one more after another.
use Rattle.std.proofs.Common.{◌≡◌, ℕ, zero, suc, ◌+◌, ◌<◌, ◌≤◌, ◌/◌, ◌%◌, ◌⊎◌, Bool, true, false, cond, List, [], ◌∷◌, ◌++◌, length, get_or, All, None, Some, refl, sym, ap, subst, ◌∙◌, arith, inl, inr}
use Rattle.std.specs.Prelude.{slice_get, is_some, IsSome, ◌≢◌, ◌==◌}
use Rattle.std.specs.List.{filter, range_with_len}
use Rattle.std.proofs.lemmas.Bool.{cases_lt}
use Rattle.std.proofs.lemmas.Bool.Decides.{eqb_tells}
use Rattle.std.proofs.lemmas.Grind.{same_number_lists}
use Rattle.std.proofs.lemmas.List.Elements.{All-get_or, All-same}
use Rattle.std.proofs.lemmas.List.FromFn.{get_or-range_with_len, length-range_with_len}
use Rattle.std.proofs.lemmas.Option.{same_Some, slice_get-get_or}
use Rattle.tiff_dir.specs.File.{directories, value}
use Rattle.text_description.specs.NoData.{HaveTypes, is_mask, IsNoDataText, IsShortText}

-- Masks

-- one number more, which passes or not
count_more : (p : ℕ → Bool) (a n : ℕ) → length (filter p (range_with_len a (suc n))) ≡ length (filter p (range_with_len a n)) + cond (p (a + n)) 1 0
count_more p a zero =
    let place : a + 0 ≡ a = omega arith in
    rw place (elim (p a) as (λ t. length (cond t (a ∷ []) []) ≡ 0 + cond t 1 0) [ true ↦ omega arith | false ↦ omega arith ])
count_more p a (suc n) =
    let place : a + 1 + n ≡ a + suc n = omega arith in
    let rest = count_more p (a + 1) n ∙ ap (λ i. length (filter p (range_with_len (a + 1) n)) + cond (p i) 1 0) place in
    elim (p a) as (λ t. length (cond t (a ∷ filter p (range_with_len (a + 1) (suc n))) (filter p (range_with_len (a + 1) (suc n))))
    ≡ length (cond t (a ∷ filter p (range_with_len (a + 1) n)) (filter p (range_with_len (a + 1) n))) + cond (p (a + suc n)) 1 0) [
      | true ↦ omega (arith, rest)
      | false ↦ rest
    ]

-- the masks among the first directories
abbrev pub masks_below : List ℕ → ℕ → ℕ
masks_below f k = length (filter (is_mask f) (range_with_len 0 k))

masks_next : (f : List ℕ) (k next count v : ℕ) (t : Bool) → next ≡ k + 1 → count ≡ masks_below f k → value f k 254 0 ≡ Some v → (v / 4 % 2 == 1) ≡ t
    → count + cond t 1 0 ≡ masks_below f next
masks_next f k next count v t is before told same =
    let e : next ≡ suc k = omega arith in
    let here : is_mask f (0 + k) ≡ t = (let place : 0 + k ≡ k = omega arith in rw (place, told) same) in
    rw e (ap (λ n. n + cond t 1 0) before ∙ sym (count_more (is_mask f) 0 k ∙ ap (λ u. masks_below f k + cond u 1 0) here))

pub one_more_mask : (f : List ℕ) (k next count v : ℕ) → next ≡ k + 1 → count ≡ masks_below f k → value f k 254 0 ≡ Some v → v / 4 % 2 ≡ 1
    → count + 1 ≡ masks_below f next
one_more_mask f k next count v is before told bit = masks_next f k next count v true is before told (ap (λ n. n == 1) bit)

pub no_more_mask : (f : List ℕ) (k next count v : ℕ) → next ≡ k + 1 → count ≡ masks_below f k → value f k 254 0 ≡ Some v → (v / 4 % 2 ≡ 1 → ⊥)
    → count ≡ masks_below f next
no_more_mask f k next count v is before told bit = elim (eqb_tells (v / 4 % 2) 1) [
  | inl e ↦ absurd (bit e.1)
  | inr e ↦ omega (arith, masks_next f k next count v false is before told e.0)
]

-- no directory is without its type where each has one
pub type_missing : (f : List ℕ) (n k : ℕ) → directories f ≡ range_with_len 0 n → HaveTypes f → k < n → value f k 254 0 ≡ None → ⊥
type_missing f n k are types below none =
    let within : k < length (range_with_len 0 n) = omega (arith, below, length-range_with_len 0 n) in
    let here = All-get_or (λ k. IsSome (value f k 254 0)) (range_with_len 0 n) k 0 within (All-same (λ k. IsSome (value f k 254 0)) (range_with_len 0 n) (directories f) (sym are) types) in
    let place : get_or (range_with_len 0 n) k 0 ≡ k = get_or-range_with_len 0 n k 0 below ∙ omega arith in
    let some : IsSome (value f k 254 0) = subst (λ i. IsSome (value f i 254 0)) place here in
    let clash : true ≡ false = sym some ∙ ap is_some none in cc

-- Texts

pub get_more : (xs : List ℕ) (x i b : ℕ) → slice_get (xs ++ x ∷ []) i ≡ Some b → (slice_get xs i ≡ Some b) ⊎ ((i ≡ length xs) × (x ≡ b))
get_more [] x zero b at = inr (refl, cc)
get_more [] x (suc i) b at = absurd (cc)
get_more (y ∷ ys) x zero b at = inl at
get_more (y ∷ ys) x (suc i) b at = elim (get_more ys x i b at) [
  | inl e ↦ inl e
  | inr e ↦ inr ((let same = e.0 in omega (arith, same)), e.1)
]

-- one more byte that is the next value
pub bytes_more : (f xs more : List ℕ) (n byte : ℕ) → more ≡ xs ++ byte ∷ [] → length xs ≡ n
    → ((i b : ℕ) → slice_get xs i ≡ Some b → value f 0 42113 i ≡ Some b) → value f 0 42113 n ≡ Some byte
    → (i b : ℕ) → slice_get more i ≡ Some b → value f 0 42113 i ≡ Some b
bytes_more f xs more n byte is long before told i b at = elim (get_more xs byte i b (ap (λ ys. slice_get ys i) (sym is) ∙ at)) [
  | inl e ↦ before i b e
  | inr e ↦ ap (value f 0 42113) (e.0 ∙ long) ∙ told ∙ ap Some e.1
]

-- the bytes so far are the field's first values, and none is 0
module _ (f xs : List ℕ) (bytes : (i byte : ℕ) → slice_get xs i ≡ Some byte → value f 0 42113 i ≡ Some byte) (first : All (λ byte. byte ≢ 0) xs) where
  -- so they end where a value is 0
  pub ended : (n : ℕ) → value f 0 42113 n ≡ Some 0 → length xs ≤ n
  ended n ends = elim (cases_lt n (length xs)) [
    | inl before ↦ absurd (All-get_or (λ byte. byte ≢ 0) xs n 0 before first (same_Some _ _ (sym (bytes n (get_or xs n 0) (slice_get-get_or xs n 0 before)) ∙ ends)))
    | inr past ↦ past
  ]

  -- the text is those bytes where a 0 follows
  pub whole_text : (text : List ℕ) → IsNoDataText f text → value f 0 42113 (length xs) ≡ Some 0 → xs ≡ text
  whole_text text is ends =
      let short : length xs ≤ length text = ended (length text) is.ends in
      let long : length text ≤ length xs = not_longer in
      same_number_lists xs text (omega (arith, short, long)) (λ k below. same_Some _ _
      (sym (bytes k (get_or xs k 0) (slice_get-get_or xs k 0 below)) ∙ is.bytes k (get_or text k 0) (slice_get-get_or text k 0 (omega (arith, below, short))))) where
        not_longer : length text ≤ length xs
        not_longer = elim (cases_lt (length xs) (length text)) [
          | inl before ↦ absurd (All-get_or (λ byte. byte ≢ 0) text (length xs) 0 before is.first (same_Some _ _ (sym (is.bytes (length xs) (get_or text (length xs) 0) (slice_get-get_or text (length xs) 0 before)) ∙ ends)))
          | inr past ↦ past
        ]

  -- and the next value is below 256
  pub next_below : (text : List ℕ) → IsNoDataText f text → IsShortText text → (v : ℕ) × (value f 0 42113 (length xs) ≡ Some v) × (v < 256)
  next_below text is short =
      let few : length xs ≤ length text = ended (length text) is.ends in
      elim (cases_lt (length xs) (length text)) [
        | inl before ↦ (get_or text (length xs) 0, is.bytes (length xs) (get_or text (length xs) 0) (slice_get-get_or text (length xs) 0 before), All-get_or (λ byte. byte < 256) text (length xs) 0 before short.1)
        | inr past ↦ (0, (let same : length xs ≡ length text = omega (arith, few, past) in rw same is.ends), omega arith)
      ]

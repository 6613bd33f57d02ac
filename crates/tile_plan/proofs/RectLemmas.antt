-- The last level with so many columns, and places along sides.
use Rattle.std.proofs.Common.{◌≡◌, ℕ, zero, suc, ◌+◌, Bool, true, false, List, Option, Some, None, refl, sym, ap, ◌∙◌, arith, inl, inr}
use Rattle.std.specs.Prelude.{if◌then◌else◌, unwrap_or, slice_get}
use Rattle.std.specs.Option.{option_map_or}
use Rattle.std.specs.List.{filter, last_or, range_with_len}
use Rattle.std.proofs.lemmas.Bool.{cases_Bool}
use Rattle.tiff_dir.specs.declared.level.Level.{Level}
use Rattle.tile_plan.specs.Levels.{has_columns, last_with_columns}

-- the last one of the numbers from a on that pass, one number more
pub last_more : (p : ℕ → Bool) (o : Option ℕ) (a n : ℕ) → last_or o (filter p (range_with_len a (suc n))) ≡ (if p (a + n) then Some (a + n) else last_or o (filter p (range_with_len a n)))
last_more p o a zero = (let here : a + 0 ≡ a = omega arith in elim (cases_Bool (p a)) [ inl h ↦ rw (here, h) refl | inr h ↦ rw (here, h) refl ])
last_more p o a (suc n) =
    let here : a + 1 + n ≡ a + suc n = omega arith in
    elim (cases_Bool (p a)) [
      | inl h ↦ (let rest = last_more p (Some a) (a + 1) n in rw h (rest ∙ ap (λ k. if p k then Some k else last_or (Some a) (filter p (range_with_len (a + 1) n))) here))
      | inr h ↦ (let rest = last_more p o (a + 1) n in rw h (rest ∙ ap (λ k. if p k then Some k else last_or o (filter p (range_with_len (a + 1) n))) here))
    ]

-- one level more
pub more_levels : (ls : List Level) (columns w first n : ℕ) (l : Level) → slice_get ls n ≡ Some l
    → last_with_columns ls columns w first (n + 1) ≡ (if has_columns columns w first l then n else last_with_columns ls columns w first n)
more_levels ls columns w first n l is =
    let p : ℕ → Bool = λ k. option_map_or (has_columns columns w first) (slice_get ls k) false in
    let next : n + 1 ≡ suc n = omega arith in
    let here : 0 + n ≡ n = omega arith in
    let passes : p n ≡ has_columns columns w first l = rw is refl in
    let last : last_or None (filter p (range_with_len 0 (suc n))) ≡ (if has_columns columns w first l then Some n else last_or None (filter p (range_with_len 0 n))) =
    last_more p None 0 n ∙ ap (λ k. if p k then Some k else last_or None (filter p (range_with_len 0 n))) here ∙ ap (λ b. if b then Some n else last_or None (filter p (range_with_len 0 n))) passes in
    ap (λ k. unwrap_or (last_or None (filter p (range_with_len 0 k))) 0) next ∙ ap (λ o. unwrap_or o 0) last ∙ chosen (has_columns columns w first l) n (last_or None (filter p (range_with_len 0 n))) where
      chosen : (b : Bool) (n : ℕ) (o : Option ℕ) → unwrap_or (if b then Some n else o) 0 ≡ (if b then n else unwrap_or o 0)
      chosen true n o = refl
      chosen false n o = refl

pub next_best : (ls : List Level) (columns w first n best next : ℕ) (l : Level) (b : Bool) → slice_get ls n ≡ Some l → b ≡ has_columns columns w first l
    → best ≡ last_with_columns ls columns w first n → next ≡ (if b then n else best) → next ≡ last_with_columns ls columns w first (n + 1)
next_best ls columns w first n best next l b is passes so_far chosen =
    chosen ∙ ap (λ t. if t then n else best) passes ∙ ap (λ k. if has_columns columns w first l then n else k) so_far ∙ sym (more_levels ls columns w first n l is)

-- The first value that isn't read, directory by directory.
use Rattle.std.proofs.Common.{◌≡◌, ℕ, suc, ◌+◌, ◌-◌, ◌<◌, ◌≤◌, Bool, true, false, List, ◌∷◌, Option, Some, None, refl, sym, ap, ◌∙◌, arith}
use Rattle.std.specs.Prelude.{not}
use Rattle.std.specs.List.{filter, filter_map, find, range_with_len}
use Rattle.tiff_dir.specs.File.{directories, value}
use Rattle.tiff_dir.specs.Level.{is_level, level_directories}
use Rattle.text_report.specs.Found.{first_unread, is_read}

-- of the first values of the field in the levels among these directories, the first one that isn't read
abbrev pub first_among : List ℕ → ℕ → List ℕ → Option ℕ
first_among f tag ks = find (λ v. not (is_read tag v)) (filter_map (λ k. value f k tag 0) (filter (is_level f) ks))

-- of `n` directories, those before directory `k` have no such value
abbrev pub NoneBefore : List ℕ → ℕ → ℕ → ℕ → Type 0
NoneBefore f tag n k = first_among f tag (range_with_len 0 n) ≡ first_among f tag (range_with_len k (n - k))

front : (n k : ℕ) → k < n → range_with_len k (n - k) ≡ k ∷ range_with_len (k + 1) (n - (k + 1))
front n k below = let more : n - k ≡ suc (n - (k + 1)) = omega arith in rw more refl

pub by_levels : (f : List ℕ) (tag n : ℕ) → directories f ≡ range_with_len 0 n → first_unread f tag ≡ first_among f tag (range_with_len 0 n)
unfolding level_directories
by_levels f tag n are = ap (first_among f tag) are

pub none_first : (f : List ℕ) (tag n : ℕ) → NoneBefore f tag n 0
none_first f tag n = let same : n ≡ n - 0 = omega arith in ap (λ m. first_among f tag (range_with_len 0 m)) same

pub none_last : (f : List ℕ) (tag n k : ℕ) → directories f ≡ range_with_len 0 n → n ≤ k → NoneBefore f tag n k → None ≡ first_unread f tag
none_last f tag n k are past before =
    let none : n - k ≡ 0 = omega arith in
    sym (by_levels f tag n are ∙ before ∙ ap (λ m. first_among f tag (range_with_len k m)) none)

-- a directory that isn't a level
pub past_mask : (f : List ℕ) (tag n k next : ℕ) → next ≡ k + 1 → k < n → is_level f k ≡ false → NoneBefore f tag n k → NoneBefore f tag n next
past_mask f tag n k next is below mask before =
    let here : first_among f tag (k ∷ range_with_len (k + 1) (n - (k + 1))) ≡ first_among f tag (range_with_len (k + 1) (n - (k + 1))) = rw mask refl in
    rw is (before ∙ ap (first_among f tag) (front n k below) ∙ here)

-- a directory without the value
pub past_absent : (f : List ℕ) (tag n k next : ℕ) → next ≡ k + 1 → k < n → value f k tag 0 ≡ None → NoneBefore f tag n k → NoneBefore f tag n next
past_absent f tag n k next is below absent before =
    let rest = range_with_len (k + 1) (n - (k + 1)) in
    let at : (b : Bool) → is_level f k ≡ b → first_among f tag (k ∷ rest) ≡ first_among f tag rest =
    λ b level. elim b as (λ b. is_level f k ≡ b → first_among f tag (k ∷ rest) ≡ first_among f tag rest) [
      | true ↦ λ e. rw (e, absent) refl
      | false ↦ λ e. rw e refl
    ] level in
    rw is (before ∙ ap (first_among f tag) (front n k below) ∙ at (is_level f k) refl)

-- a level with a value that is read
pub past_read : (f : List ℕ) (tag n k next v : ℕ) → next ≡ k + 1 → k < n → is_level f k ≡ true → value f k tag 0 ≡ Some v → is_read tag v ≡ true
    → NoneBefore f tag n k → NoneBefore f tag n next
past_read f tag n k next v is below level has read before =
    let rest = range_with_len (k + 1) (n - (k + 1)) in
    let here : first_among f tag (k ∷ rest) ≡ first_among f tag rest = rw (level, has, read) refl in
    rw is (before ∙ ap (first_among f tag) (front n k below) ∙ here)

-- a level with a value that isn't
pub found_here : (f : List ℕ) (tag n k v : ℕ) → directories f ≡ range_with_len 0 n → k < n → is_level f k ≡ true → value f k tag 0 ≡ Some v → is_read tag v ≡ false
    → NoneBefore f tag n k → Some v ≡ first_unread f tag
found_here f tag n k v are below level has unread before =
    let rest = range_with_len (k + 1) (n - (k + 1)) in
    let here : first_among f tag (k ∷ rest) ≡ Some v = rw (level, has, unread) refl in
    sym (by_levels f tag n are ∙ before ∙ ap (first_among f tag) (front n k below) ∙ here)

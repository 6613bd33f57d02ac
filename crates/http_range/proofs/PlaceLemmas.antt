-- The parts of a text round a byte.
use Rattle.std.proofs.Common.{◌≡◌, ℕ, ◌+◌, ◌<◌, ◌≤◌, Bool, true, false, List, [], ◌∷◌, ◌++◌, length, take, drop, ap, ◌∙◌, arith}
use Rattle.std.specs.Prelude.{not}
use Rattle.std.specs.List.{AllPass, position_or_len, before_first, after_first}
use Rattle.std.specs.Char.{is_ascii_digit}
use Rattle.std.specs.Str.{all_ascii_digits}
use Rattle.std.proofs.Math.Dec.{eqb}
use Rattle.std.proofs.Math.Seq.{take-append_seam, drop-append-add}
use Rattle.std.proofs.lemmas.Bool.{and_parts, ne_eqb, leb-true}
use Rattle.std.proofs.lemmas.List.Elements.{All-nil, All-cons, All-head, All-tail}

pub digit_range : (b : ℕ) → is_ascii_digit b ≡ true → (48 ≤ b) × (b ≤ 57)
digit_range b h = let parts = and_parts _ _ h in (leb-true _ _ parts.0, leb-true _ _ parts.1)

pub place_at : (p : ℕ → Bool) (xs : List ℕ) (y : ℕ) (ys : List ℕ) → AllPass (λ b. not (p b)) xs → p y ≡ true
    → position_or_len p (xs ++ y ∷ ys) ≡ length xs
place_at p [] y ys none here = rw here
place_at p (x ∷ xs) y ys none here =
    let P : ℕ → Type 0 = λ b. not (p b) ≡ true in
    let other : not (p x) ≡ true = All-head P x xs none in
    let later = place_at p xs y ys (All-tail P x xs none) here in
    rw other (omega (arith, later))

pub before_at : (p : ℕ → Bool) (xs : List ℕ) (y : ℕ) (ys : List ℕ) → AllPass (λ b. not (p b)) xs → p y ≡ true
    → before_first p (xs ++ y ∷ ys) ≡ xs
before_at p xs y ys none here =
    ap (λ (n : ℕ). take n (xs ++ y ∷ ys)) (place_at p xs y ys none here) ∙ take-append_seam xs (y ∷ ys)

pub after_at : (p : ℕ → Bool) (xs : List ℕ) (y : ℕ) (ys : List ℕ) → AllPass (λ b. not (p b)) xs → p y ≡ true
    → after_first p (xs ++ y ∷ ys) ≡ ys
after_at p xs y ys none here =
    ap (λ (n : ℕ). drop (n + 1) (xs ++ y ∷ ys)) (place_at p xs y ys none here) ∙ drop-append-add xs (y ∷ ys) 1

-- no digit is this byte
pub digits_miss : (c : ℕ) → c < 48 → (ds : List ℕ) → all_ascii_digits ds ≡ true → AllPass (λ b. not (eqb b c)) ds
digits_miss c low [] h = All-nil _
digits_miss c low (d ∷ ds) h =
    let parts = and_parts (is_ascii_digit d) (all_ascii_digits ds) h in
    let range = digit_range d parts.0 in
    let other : eqb d c ≡ false = ne_eqb d c (λ e. omega arith) in
    All-cons (λ b. not (eqb b c) ≡ true) d ds (rw other) (digits_miss c low ds parts.1)

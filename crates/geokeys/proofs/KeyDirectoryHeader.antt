-- The head of a directory.
use Rattle.std.proofs.Common.{◌≡◌, ◌≢◌, ℕ, ◌+◌, ◌*◌, ◌/◌, ◌%◌, ◌<◌, ◌≤◌, true, false, cond, List, length, Option, Some, None, refl, sym, ap, ◌∙◌, subst, arith, inl, inr, nat_eq}
use Rattle.std.proofs.lemmas.Bool.{ne_eqb, eq-eqb, le-leb}
use Rattle.std.specs.Option.{IsSomeAnd}
use Rattle.tiff_dir.specs.declared.order.Order.{Order}
use Rattle.tiff_dir.specs.Number.{number_in}
use Rattle.tiff_dir.specs.Keys.{IsBadKeyHead}
use Rattle.geokeys.specs.declared.entry.KeyDirectoryHeader.{KeyDirectoryHeader}
use Rattle.geokeys.specs.Keys.{number_at, key_source}
use Rattle.geokeys.specs.KeyEntry.{IsHead}

pub some_and : (o : Option ℕ) (x : ℕ) (P : ℕ → Type 0) → o ≡ Some x → P x → IsSomeAnd o P
some_and o x P e h = subst (λ (q : Option ℕ). IsSomeAnd q P) (sym e) h

pub and_some : (o : Option ℕ) (x : ℕ) (P : ℕ → Type 0) → o ≡ Some x → IsSomeAnd o P → P x
and_some o x P e h = subst (λ (q : Option ℕ). IsSomeAnd q P) e h

-- a number whose bytes are there
pub number_there : (order : Order) (d : List ℕ) (i : ℕ) → 2 * i + 2 ≤ length d → number_at order d i ≡ Some (number_in order (2 * i) 2 d)
unfolding number_at
number_there order d i le = ap (λ b. cond b (Some (number_in order (2 * i) 2 d)) None) (le-leb (2 * i + 2) (length d) le)

-- a directory that isn't empty has a count
pub count_there : (d : List ℕ) → 0 < length d → cond (nat_eq (length d) 0) None (Some (length d / 2)) ≡ Some (length d / 2)
count_there d some = ap (λ b. cond b None (Some (length d / 2))) (ne_eqb (length d) 0 (λ e. omega arith))

pub bad_version : (order : Order) (d doubles ascii : List ℕ) → 2 ≤ length d → number_in order 0 2 d ≢ 1 → IsBadKeyHead (key_source order d doubles ascii)
bad_version order d doubles ascii le other = inl (some_and (number_at order d 0) (number_in order 0 2 d) (λ version. version ≢ 1) (number_there order d 0 le) other)

pub bad_revision : (order : Order) (d doubles ascii : List ℕ) → 4 ≤ length d → number_in order 2 2 d ≢ 1 → IsBadKeyHead (key_source order d doubles ascii)
bad_revision order d doubles ascii le other = inr (inl (some_and (number_at order d 1) (number_in order 2 2 d) (λ revision. revision ≢ 1) (number_there order d 1 le) other))

pub bad_size : (order : Order) (d doubles ascii : List ℕ) → 8 ≤ length d → length d % 2 ≡ 0 → length d ≢ 8 + 8 * number_in order 6 2 d → IsBadKeyHead (key_source order d doubles ascii)
bad_size order d doubles ascii le even other =
    let n = number_in order 6 2 d in
    let differs : nat_eq (length d / 2) (4 + 4 * n) ≡ false = ne_eqb (length d / 2) (4 + 4 * n) (λ e. other (omega (arith, e, even))) in
    inr (inr (inr (some_and _ (length d / 2) (λ count. IsSomeAnd (number_at order d 3) (λ k. nat_eq count (4 + 4 * k) ≡ false)) (count_there d (omega arith))
    (some_and (number_at order d 3) n (λ k. nat_eq (length d / 2) (4 + 4 * k) ≡ false) (number_there order d 3 le) differs))))

pub good_head : (order : Order) (d doubles ascii : List ℕ) (head : KeyDirectoryHeader) → IsHead order d head → IsBadKeyHead (key_source order d doubles ascii) → ⊥
good_head order d doubles ascii head is bad =
    let count = count_there d (omega (arith, is.size)) in
    elim bad [
      | inl version ↦ and_some (number_at order d 0) 1 (λ n. n ≢ 1) is.version version refl
      | inr bad ↦ elim bad [
        | inl revision ↦ and_some (number_at order d 1) 1 (λ n. n ≢ 1) is.revision revision refl
        | inr bad ↦ elim bad [
          | inl few ↦ let less : length d / 2 < 4 = and_some _ (length d / 2) (λ n. n < 4) count few in omega (arith, less, is.size)
          | inr misfit ↦
              let here : IsSomeAnd (number_at order d 3) (λ k. nat_eq (length d / 2) (4 + 4 * k) ≡ false) =
              and_some _ (length d / 2) (λ n. IsSomeAnd (number_at order d 3) (λ k. nat_eq n (4 + 4 * k) ≡ false)) count misfit in
              let differs : nat_eq (length d / 2) (4 + 4 * head.keys) ≡ false = and_some (number_at order d 3) head.keys (λ k. nat_eq (length d / 2) (4 + 4 * k) ≡ false) is.keys here in
              let half : length d / 2 ≡ 4 + 4 * head.keys = omega (arith, is.size) in
              let same : nat_eq (length d / 2) (4 + 4 * head.keys) ≡ true = eq-eqb (length d / 2) (4 + 4 * head.keys) half in
              let e : true ≡ false = sym same ∙ differs in cc
        ]
      ]
    ]

-- One row after another.
use Rattle.std.proofs.Common.{◌≡◌, ℕ, ◌+◌, ◌-◌, ◌*◌, ◌<◌, ◌≤◌, ◌⊎◌, inl, inr, List, ◌++◌, length, get_or, take, drop, sym, subst, ap, ◌∙◌, arith, refl, length-append, length-drop}
use Rattle.std.proofs.Math.Nat.{mul-le-mul_right}
use Rattle.std.proofs.lemmas.Bool.{cases_lt}
use Rattle.std.proofs.lemmas.List.{get_or-take, get_or-drop, length-take-le}
use Rattle.std.proofs.lemmas.List.{get_or_append_left, get_or-append-add}
use borrow.Rule.Slice.PartMut.{put_mid}
use Rattle.tile_plan.specs.declared.rows.Rows.{Rows}
use Rattle.tile_plan.specs.Rows.{at, from_row, AreCopied}

append_right : (xs ys : List ℕ) (n i : ℕ) → length xs ≡ n → get_or (xs ++ ys) (n + i) 0 ≡ get_or ys i 0
append_right xs ys n i size = ap (λ m. get_or (xs ++ ys) (m + i) 0) (sym size) ∙ get_or-append-add xs ys i 0

length_put : (a k : ℕ) (xs ys : List ℕ) → a + k ≤ length xs → length ys ≡ k → length (put_mid a k xs ys) ≡ length xs
length_put a k xs ys fits size =
    let front : length (take a xs) ≡ a = length-take-le a xs (omega (arith, fits)) in
    omega (arith, length-append (take a xs) (ys ++ drop k (drop a xs)), length-append ys (drop k (drop a xs)), length-drop k (drop a xs), length-drop a xs, front, size)

put_inside : (a k : ℕ) (xs ys : List ℕ) (i : ℕ) → a ≤ length xs → i < length ys → get_or (put_mid a k xs ys) (a + i) 0 ≡ get_or ys i 0
put_inside a k xs ys i fits less = append_right (take a xs) (ys ++ drop k (drop a xs)) a i (length-take-le a xs fits) ∙ get_or_append_left ys (drop k (drop a xs)) 0 i less

put_outside : (a k : ℕ) (xs ys : List ℕ) (i : ℕ) → a + k ≤ length xs → length ys ≡ k → (i < a) ⊎ (a + k ≤ i) → get_or (put_mid a k xs ys) i 0 ≡ get_or xs i 0
put_outside a k xs ys i fits size (inl less) =
    let front : length (take a xs) ≡ a = length-take-le a xs (omega (arith, fits)) in
    get_or_append_left (take a xs) (ys ++ drop k (drop a xs)) 0 i (omega (arith, front, less)) ∙ get_or-take a xs i 0 less
put_outside a k xs ys i fits size (inr more) =
    let front : length (take a xs) ≡ a = length-take-le a xs (omega (arith, fits)) in
    let j = i - a - k in
    let place : i ≡ a + (k + j) = omega (arith, more) in
    ap (λ m. get_or (put_mid a k xs ys) m 0) place ∙ append_right (take a xs) (ys ++ drop k (drop a xs)) a (k + j) front ∙ append_right ys (drop k (drop a xs)) k j size
    ∙ get_or-drop k (drop a xs) j 0 ∙ get_or-drop a xs (k + j) 0 ∙ ap (λ m. get_or xs m 0) (sym place)

-- the rows below n, and row n
pub copied_more : (n len : ℕ) (from : List ℕ) (read : Rows) (old now : List ℕ) (write : Rows) (k : ℕ) (ys : List ℕ) → k ≡ len → length ys ≡ len → at write n len ≤ length now → len ≤ write.step
    → ((s : ℕ) → s < len → get_or ys s 0 ≡ get_or from (at read n s) 0) → AreCopied n len from read old now write → AreCopied (n + 1) len from read old (put_mid (write.first + n * write.step) k now ys) write
copied_more n len from read old now write k ys same size fits apart here before =
    let a = write.first + n * write.step in
    let room : a + k ≤ length now = omega (arith, fits, same) in
    let whole : length ys ≡ k = omega (arith, size, same) in
    record {
      size = length_put a k now ys room whole ∙ before.size;
      copied = λ m s less inside. elim (cases_lt m n) [
        | inl below ↦ (
            let up : (m + 1) * write.step ≤ n * write.step = mul-le-mul_right write.step (omega (arith, below)) in
            put_outside a k now ys (at write m s) room whole (inl (omega (arith, up, inside, apart))) ∙ before.copied m s below inside
            )
        | inr last ↦ (
            let is : m ≡ n = omega (arith, less, last) in
            subst (λ m. get_or (put_mid a k now ys) (at write m s) 0 ≡ get_or from (at read m s) 0) (sym is)
            (put_inside a k now ys s (omega (arith, room)) (omega (arith, inside, size)) ∙ here s inside)
            )
      ];
      others = λ i apart_of. (
          let kept = before.others i (λ m s less inside. apart_of m s (omega (arith, less)) inside) in
          elim (cases_lt i a) [
            | inl below ↦ put_outside a k now ys i room whole (inl below) ∙ kept
            | inr above ↦ elim (cases_lt i (a + k)) [
              | inl inside ↦ absurd (apart_of n (i - a) (omega arith) (omega (arith, inside, above, same)) (omega (arith, above)))
              | inr past ↦ put_outside a k now ys i room whole (inr past) ∙ kept
            ]
          ]
          );
    }

-- no row
pub copied_none : (len : ℕ) (from : List ℕ) (read : Rows) (now : List ℕ) (write : Rows) → AreCopied 0 len from read now now write
copied_none len from read now write = record {
  size = refl;
  copied = λ n s less inside. absurd (omega (arith, less));
  others = λ i apart. refl;
}

-- one row
pub copied_one : (len : ℕ) (from : List ℕ) (read : Rows) (now : List ℕ) (write : Rows) (k : ℕ) (ys : List ℕ) → k ≡ len → length ys ≡ len → write.first + len ≤ length now → len ≤ write.step
    → ((s : ℕ) → s < len → get_or ys s 0 ≡ get_or from (read.first + s) 0) → AreCopied 1 len from read now (put_mid write.first k now ys) write
copied_one len from read now write k ys same size fits apart here =
    let place : write.first + 0 * write.step ≡ write.first = omega arith in
    subst (λ a. AreCopied 1 len from read now (put_mid a k now ys) write) place
    (subst (λ n. AreCopied n len from read now (put_mid (write.first + 0 * write.step) k now ys) write) (let one : 0 + 1 ≡ 1 = omega arith in one)
    (copied_more 0 len from read now now write k ys same size (omega (arith, fits)) apart
    (λ s inside. here s inside ∙ ap (λ i. get_or from i 0) (let is : read.first + s ≡ at read 0 s = omega arith in is)) (copied_none len from read now write)))

-- a row behind others
pub behind : (r : Rows) (n j s : ℕ) → at r (n + j) s ≡ at (from_row r n) j s
behind r n j s = omega arith

-- some rows, and those behind them
pub copied_join : (n k len : ℕ) (from : List ℕ) (read : Rows) (old mid new : List ℕ) (write : Rows) → len ≤ write.step → AreCopied n len from read old mid write
    → AreCopied k len from (from_row read n) mid new (from_row write n) → AreCopied (n + k) len from read old new write
copied_join n k len from read old mid new write apart first next = record {
  size = next.size ∙ first.size;
  copied = λ m s less inside. elim (cases_lt m n) [
    | inl below ↦ (
        let up : (m + 1) * write.step ≤ n * write.step = mul-le-mul_right write.step (omega (arith, below)) in
        next.others (at write m s) (λ j t more within same. absurd (omega (arith, same, up, inside, apart))) ∙ first.copied m s below inside
        )
    | inr above ↦ (
        let j = m - n in
        let is : m ≡ n + j = omega (arith, above) in
        let to : at write m s ≡ at (from_row write n) j s = ap (λ i. at write i s) is ∙ behind write n j s in
        let of : at read m s ≡ at (from_row read n) j s = ap (λ i. at read i s) is ∙ behind read n j s in
        ap (λ i. get_or new i 0) to ∙ next.copied j s (omega (arith, less, above)) inside ∙ ap (λ i. get_or from i 0) (sym of)
        )
  ];
  others = λ i apart_of.
      next.others i (λ j t less inside same. apart_of (n + j) t (omega (arith, less)) inside (same ∙ sym (behind write n j t)))
      ∙ first.others i (λ m s less inside same. apart_of m s (omega (arith, less)) inside same);
}

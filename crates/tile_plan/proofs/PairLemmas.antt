-- Pairs exchanged in a part of some bytes.
use Rattle.std.proofs.Common.{◌≡◌, ℕ, zero, suc, ◌+◌, ◌-◌, ◌*◌, ◌<◌, ◌≤◌, List, [], ◌∷◌, ◌++◌, length, take, drop, refl, sym, ap, ◌∙◌, arith, append_assoc, length-drop, length-append, append-nil}
use Rattle.std.proofs.lemmas.List.{take_at, drop_at, length-take-le, drop-drop, take_all, drop_all, take-append-drop}
use Rattle.std.proofs.Math.Seq.{take-add}
use borrow.Rule.Slice.PartMut.{put_mid}
use Rattle.tile_plan.specs.Pairs.{exchanged}

pub length-exchanged : (xs : List ℕ) → length (exchanged xs) ≡ length xs
length-exchanged [] = refl
length-exchanged (x ∷ []) = refl
length-exchanged (x ∷ y ∷ rest) = ap (λ n. suc (suc n)) (length-exchanged rest)

pub exchanged-append : (xs ys : List ℕ) (k : ℕ) → length xs ≡ 2 * k → exchanged (xs ++ ys) ≡ exchanged xs ++ exchanged ys
exchanged-append [] ys k even = refl
exchanged-append (x ∷ []) ys k even = absurd (omega arith)
exchanged-append (x ∷ y ∷ rest) ys zero even = absurd (omega arith)
exchanged-append (x ∷ y ∷ rest) ys (suc k) even = ap (λ l. y ∷ x ∷ l) (exchanged-append rest ys k (omega arith))

-- the next n bytes are exchanged
pub exchanged_more : (old bytes new : List ℕ) (at n k : ℕ) → at ≡ 2 * k → at + n ≤ length old → bytes ≡ exchanged (take at old) ++ drop at old →
    new ≡ exchanged (take n (drop at bytes)) → put_mid at n bytes new ≡ exchanged (take (at + n) old) ++ drop (at + n) old
exchanged_more old bytes new at n k even within is new_is =
    let size : length (take at old) ≡ at = length-take-le at old (omega arith) in
    let long : length (exchanged (take at old)) ≡ at = length-exchanged (take at old) ∙ size in
    let front : take at bytes ≡ exchanged (take at old) = ap (take at) is ∙ take_at (exchanged (take at old)) (drop at old) at long in
    let back : drop at bytes ≡ drop at old = ap (drop at) is ∙ drop_at (exchanged (take at old)) (drop at old) at long in
    let part : new ≡ exchanged (take n (drop at old)) = new_is ∙ ap (λ l. exchanged (take n l)) back in
    ap (λ l. l ++ (new ++ drop n (drop at bytes))) front
    ∙ ap (λ l. exchanged (take at old) ++ (l ++ drop n (drop at bytes))) part
    ∙ ap (λ l. exchanged (take at old) ++ (exchanged (take n (drop at old)) ++ drop n l)) back
    ∙ ap (λ l. exchanged (take at old) ++ (exchanged (take n (drop at old)) ++ l)) (drop-drop n at old)
    ∙ sym (append_assoc (exchanged (take at old)) (exchanged (take n (drop at old))) (drop (at + n) old))
    ∙ ap (λ l. l ++ drop (at + n) old) (sym (exchanged-append (take at old) (take n (drop at old)) k (size ∙ even)) ∙ ap exchanged (sym (take-add at n old)))

short : (xs : List ℕ) → length xs < 2 → exchanged xs ≡ xs
short [] h = refl
short (x ∷ []) h = refl
short (x ∷ y ∷ rest) h = absurd (omega arith)

-- all but a last byte without a pair are
pub exchanged_all : (old bytes : List ℕ) (at k : ℕ) → at ≡ 2 * k → at ≤ length old → length old - at < 2 → bytes ≡ exchanged (take at old) ++ drop at old → bytes ≡ exchanged old
exchanged_all old bytes at k even within left is =
    let size : length (take at old) ≡ at = length-take-le at old within in
    is ∙ ap (λ l. exchanged (take at old) ++ l) (sym (short (drop at old) (omega (arith, length-drop at old))))
    ∙ sym (exchanged-append (take at old) (drop at old) k (size ∙ even)) ∙ ap exchanged (take-append-drop at old)

-- the rest is exchanged
pub exchanged_rest : (old bytes new : List ℕ) (at n k : ℕ) → at ≡ 2 * k → at ≤ length old → n ≡ length old - at → bytes ≡ exchanged (take at old) ++ drop at old →
    new ≡ exchanged (take n (drop at bytes)) → put_mid at n bytes new ≡ exchanged old
exchanged_rest old bytes new at n k even within all is new_is =
    let whole : at + n ≡ length old = omega arith in
    exchanged_more old bytes new at n k even (omega arith) is new_is
    ∙ ap (λ m. exchanged (take m old) ++ drop m old) whole
    ∙ ap (λ l. exchanged l ++ drop (length old) old) (take_all (length old) old (omega arith))
    ∙ ap (λ l. exchanged old ++ l) (drop_all (length old) old (omega arith)) ∙ append-nil (exchanged old)

pub fits_in : (bytes new : List ℕ) (at n m : ℕ) → at ≤ length bytes → m ≤ length new → at + m ≤ length (put_mid at n bytes new)
fits_in bytes new at n m within few =
    omega (arith, length-take-le at bytes within, few, length-append (take at bytes) (new ++ drop n (drop at bytes)), length-append new (drop n (drop at bytes)))

-- ---- a loop that exchanges part after part

-- the first bytes, up to a place, are exchanged in whole pairs, and the others are as they were
pub record IsExchangedTo (old bytes : List ℕ) (at : ℕ) : Type 0 where
  pub inside : at ≤ length bytes
  pub pairs : ℕ
  pub even : at ≡ 2 * pairs
  pub parts : bytes ≡ exchanged (take at old) ++ drop at old

pub exchanged_none : (bytes : List ℕ) → IsExchangedTo bytes bytes 0
exchanged_none bytes = record { inside = omega arith; pairs = 0; even = refl; parts = refl }

-- the next bytes, so many pairs, are exchanged
pub exchanged_on : (old bytes new : List ℕ) (at n part pairs : ℕ) → n ≡ part → part ≡ 2 * pairs → at + part ≤ length bytes → length bytes ≡ length old →
    IsExchangedTo old bytes at → new ≡ exchanged (take n (drop at bytes)) → IsExchangedTo old (put_mid at n bytes new) (at + part)
exchanged_on old bytes new at n part pairs count even room same kept is =
    let place : at + n ≡ at + part = omega arith in
    let size : length new ≡ part = ap length is ∙ length-exchanged (take n (drop at bytes))
    ∙ length-take-le n (drop at bytes) (omega (arith, length-drop at bytes)) ∙ count in
    record {
      inside = fits_in bytes new at n part kept.inside (omega arith);
      pairs = kept.pairs + pairs;
      even = omega (arith, kept.even);
      parts = exchanged_more old bytes new at n kept.pairs kept.even (omega arith) kept.parts is ∙ ap (λ m. exchanged (take m old) ++ drop m old) place;
    }

-- What a part of a file says of the file's byte order and of a number there.
use Rattle.std.proofs.Common.{◌≡◌, ℕ, zero, suc, ◌+◌, ◌-◌, ◌<◌, ◌≤◌, Bool, true, false, List, [], ◌∷◌, length, take, drop, Option, Some, None, refl, sym, ap, ◌∙◌, arith}
use Rattle.std.specs.Prelude.{IfSome, nat_eq, nat_le, ◌&&◌, if◌then◌else◌, slice_range}
use Rattle.std.proofs.lemmas.Bool.{le-leb, lt-leb}
use Rattle.std.proofs.lemmas.List.{get_or-drop, length-take}
use Rattle.byteorder.specs.Endian.{big_from, little_from}
use Rattle.byteorder.specs.Numbers.{big_from-take, little_from-take}
use Rattle.tiff_dir.specs.declared.order.Order.{Order}
use Rattle.tiff_dir.specs.declared.order.Order.TheVariants.{Little, Big}
use Rattle.tiff_dir.specs.File.{◌>>=◌, number, order_of}
use Rattle.tiff_dir.specs.Number.{number_in}
use Rattle.known_fields.specs.Reads.{Reads}
use Rattle.known_fields.proofs.ReadsLemmas.{outside, settled}

-- Numbers in an order

pub in_little : (n : ℕ) (xs : List ℕ) → little_from 0 n xs ≡ number_in Little 0 n xs
unfolding number_in
in_little n xs = refl

pub in_big : (n : ℕ) (xs : List ℕ) → big_from 0 n xs ≡ number_in Big 0 n xs
unfolding number_in
in_big n xs = refl

little_from-drop : (i n at : ℕ) (xs : List ℕ) → little_from i n (drop at xs) ≡ little_from (at + i) n xs
little_from-drop i zero at xs = refl
little_from-drop i (suc n) at xs =
    let rest : little_from (suc i) n (drop at xs) ≡ little_from (suc (at + i)) n xs =
    little_from-drop (suc i) n at xs ∙ ap (λ (k : ℕ). little_from k n xs) (omega arith) in
    rw (get_or-drop at xs i 0, rest) refl

big_from-drop : (i n at : ℕ) (xs : List ℕ) → big_from i n (drop at xs) ≡ big_from (at + i) n xs
big_from-drop i zero at xs = refl
big_from-drop i (suc n) at xs =
    let rest : big_from (suc i) n (drop at xs) ≡ big_from (suc (at + i)) n xs =
    big_from-drop (suc i) n at xs ∙ ap (λ (k : ℕ). big_from k n xs) (omega arith) in
    rw (get_or-drop at xs i 0, rest) refl

-- the number of all bytes of a part
in_part : (o : Order) (f : List ℕ) (at n : ℕ) → number_in o 0 n (take n (drop at f)) ≡ number_in o at n f
unfolding number_in
in_part Little f at n =
    little_from-take 0 n n (drop at f) (omega arith) ∙ little_from-drop 0 n at f ∙ ap (λ (k : ℕ). little_from k n f) (omega arith)
in_part Big f at n = big_from-take 0 n n (drop at f) (omega arith) ∙ big_from-drop 0 n at f ∙ ap (λ (k : ℕ). big_from k n f) (omega arith)

range_is : (f : List ℕ) (at n : ℕ) → slice_range f at (at + n) ≡ take n (drop at f)
range_is f at n = let len : at + n - at ≡ n = omega arith in ap (λ (k : ℕ). take k (drop at f)) len

number_inside : (f text : List ℕ) (o : Order) (at n : ℕ) → order_of f ≡ Some o → at + n ≤ length f → text ≡ slice_range f at (at + n) → number f at n ≡ Some (number_in o 0 n text)
unfolding number
number_inside f text o at n named inside part =
    let same : number_in o at n f ≡ number_in o 0 n text = sym (ap (number_in o 0 n) (part ∙ range_is f at n) ∙ in_part o f at n) in
    rw (named, le-leb (at + n) (length f) inside, same) refl

-- there is no number past the end
number_outside : (f : List ℕ) (at n : ℕ) → length f < at + n → number f at n ≡ None
unfolding number
number_outside f at n past = go (order_of f) where
  go : (o : Option Order) → (o >>= λ order. if nat_le (at + n) (length f) then Some (number_in order at n f) else None) ≡ None
  go None = refl
  go (Some o) = rw (lt-leb (at + n) (length f) past) refl

-- The byte order

order_short : (f : List ℕ) → length f < 2 → order_of f ≡ None
unfolding order_of
order_short [] few = refl
order_short (a ∷ []) few = cut (nat_eq 73 a) (nat_eq 77 a) where
  cut : (x y : Bool) → (if x && false then Some Little else if y && false then Some Big else None) ≡ None
  cut true true = refl
  cut true false = refl
  cut false true = refl
  cut false false = refl
order_short (a ∷ b ∷ f) few = absurd (omega arith)

order_front : (f : List ℕ) → 2 ≤ length f → order_of (take 2 f) ≡ order_of f
unfolding order_of
order_front [] some = absurd (omega arith)
order_front (a ∷ []) some = absurd (omega arith)
order_front (a ∷ b ∷ f) some = refl

module _ (is_of : List ℕ → Type 0) (is_known : ℕ → ℕ → Bool) where
  pub order_read : (text : List ℕ) (r : Option Order) → is_known 0 2 ≡ true → ((f : List ℕ) → is_of f → (0 + 2 ≤ length f) × (text ≡ slice_range f 0 (0 + 2))) → r ≡ order_of text → Reads is_of is_known order_of r
  order_read text r seen part is = record { known = at r is; whole = λ f of all. is ∙ same f of } where
    same : (f : List ℕ) → is_of f → order_of text ≡ order_of f
    same f of = ap order_of (part f of).1 ∙ order_front f (omega (arith, (part f of).0))

    at : (x : Option Order) → x ≡ order_of text → IfSome x (λ v. (f : List ℕ) → is_of f → order_of f ≡ Some v)
    at None is = tt
    at (Some v) is = λ f of. sym (is ∙ same f of)

  pub order_unknown : is_known 0 2 ≡ false → Reads is_of is_known order_of None
  order_unknown unknown = record { known = tt; whole = λ f of all. sym (order_short f (outside is_known f 0 2 all unknown (omega arith))) }

  pub number_read : (o : Order) (at n m v : ℕ) (text : List ℕ) → ((f : List ℕ) → is_of f → order_of f ≡ Some o)
      → ((f : List ℕ) → is_of f → (at + m ≤ length f) × (text ≡ slice_range f at (at + m))) → m ≡ n → length text ≡ m → v ≡ number_in o 0 (length text) text → Reads is_of is_known (λ f. number f at n) (Some v)
  number_read o at n m v text named part is len told =
      let same : v ≡ number_in o 0 n text = told ∙ ap (λ (k : ℕ). number_in o 0 k text) (len ∙ is) in
      settled (λ f. number f at n) (Some v) (λ f of. rw is at (number_inside f text o at m (named f of) (part f of).0 (part f of).1) ∙ ap Some (sym same))

  pub number_unknown : (at n m : ℕ) → is_known at m ≡ false → m ≡ n → 0 < n → Reads is_of is_known (λ f. number f at n) None
  number_unknown at n m unknown is some =
      let unseen : is_known at n ≡ false = rw is at unknown in
      record { known = tt; whole = λ f of all. sym (number_outside f at n (outside is_known f at n all unseen some)) }

pub front : (n : ℕ) (xs : List ℕ) → n ≤ length xs → length (take n xs) ≡ n
front n xs few = omega (arith, length-take n xs)

-- What a part of a file tells of the file.
use Rattle.std.proofs.Common.{◌≡◌, ℕ, zero, suc, ◌+◌, ◌-◌, ◌*◌, ◌<◌, ◌≤◌, List, length, take, drop, Some, refl, sym, ap, ◌∙◌, arith}
use Rattle.std.proofs.lemmas.Bool.{le-leb}
use Rattle.std.proofs.lemmas.List.{length-take, length-drop}
use Rattle.tiff_dir.specs.declared.order.Order.{Order}
use Rattle.tiff_dir.specs.Number.{number_in}
use Rattle.tiff_dir.specs.File.{order_of, number}
use Rattle.extents.specs.Extent.{bytes_in}
use Rattle.tiff_dir.specs.Table.{entries_from}
use Rattle.tiff_dir.proofs.Numbers.{number_in-drop, number_in-take}

-- the bytes in a range, without its end
in_range : (f : List ℕ) (a m : ℕ) → bytes_in f (record { first = a; len = m }) ≡ take m (drop a f)
in_range f a m = let len : a + m - a ≡ m = omega arith in ap (λ (n : ℕ). take n (drop a f)) len

-- a whole part lies in the file
pub part_inside : (f bytes : List ℕ) (a m : ℕ) → bytes ≡ bytes_in f (record { first = a; len = m }) → length bytes ≡ m → 0 < m → a + m ≤ length f
part_inside f bytes a m part len some = omega (arith, ap length part, length-take (a + m - a) (drop a f), length-drop a f)

pub number_in-part : (f bytes : List ℕ) (o : Order) (a m i n : ℕ) → bytes ≡ bytes_in f (record { first = a; len = m }) → i + n ≤ m → number_in o i n bytes ≡ number_in o (a + i) n f
number_in-part f bytes o a m i n part fits = ap (number_in o i n) (part ∙ in_range f a m) ∙ number_in-take o i n m (drop a f) fits ∙ number_in-drop o i n a f

-- a number of a file, within it
pub number_inside : (f : List ℕ) (o : Order) (at n : ℕ) → order_of f ≡ Some o → at + n ≤ length f → number f at n ≡ Some (number_in o at n f)
unfolding number
number_inside f o at n named inside = rw (named, le-leb (at + n) (length f) inside) refl

pub number_part : (f bytes : List ℕ) (o : Order) (a m i n : ℕ) → order_of f ≡ Some o → bytes ≡ bytes_in f (record { first = a; len = m }) → length bytes ≡ m → i + n ≤ m → 0 < n → number f (a + i) n ≡ Some (number_in o i n bytes)
number_part f bytes o a m i n named part len fits some =
    let inside = part_inside f bytes a m part len (omega arith) in
    number_inside f o (a + i) n named (omega arith) ∙ ap Some (sym (number_in-part f bytes o a m i n part fits))

pub entries-part : (f : List ℕ) (o : Order) (a m at n : ℕ) → at + 12 * n ≤ m → entries_from o a at n (bytes_in f (record { first = a; len = m })) ≡ entries_from o 0 (a + at) n f
unfolding entries_from
entries-part f o a m at zero fits = refl
entries-part f o a m at (suc n) fits =
    let bytes = bytes_in f (record { first = a; len = m }) in
    let tag = number_in-part f bytes o a m at 2 refl (omega arith) in
    let kind : number_in o (at + 2) 2 bytes ≡ number_in o (a + at + 2) 2 f = number_in-part f bytes o a m (at + 2) 2 refl (omega arith) ∙ ap (λ (k : ℕ). number_in o k 2 f) (omega arith) in
    let count : number_in o (at + 4) 4 bytes ≡ number_in o (a + at + 4) 4 f = number_in-part f bytes o a m (at + 4) 4 refl (omega arith) ∙ ap (λ (k : ℕ). number_in o k 4 f) (omega arith) in
    let short : number_in o (at + 8) 2 bytes ≡ number_in o (a + at + 8) 2 f = number_in-part f bytes o a m (at + 8) 2 refl (omega arith) ∙ ap (λ (k : ℕ). number_in o k 2 f) (omega arith) in
    let long : number_in o (at + 8) 4 bytes ≡ number_in o (a + at + 8) 4 f = number_in-part f bytes o a m (at + 8) 4 refl (omega arith) ∙ ap (λ (k : ℕ). number_in o k 4 f) (omega arith) in
    let place : a + at ≡ 0 + (a + at) = omega arith in
    let rest : entries_from o a (at + 12) n bytes ≡ entries_from o 0 (a + at + 12) n f = entries-part f o a m (at + 12) n (omega arith) ∙ ap (λ (k : ℕ). entries_from o 0 k n f) (omega arith) in
    cc

-- Looking for an entry by its tag, and the order of the tags.
use Rattle.std.proofs.Common.{◌≡◌, ℕ, zero, suc, ◌+◌, ◌<◌, ◌≤◌, ◌==◌, cond, nat_lt, ◌&&◌, true, List, map, Some, None, refl, arith}
use Rattle.tiff_dir.specs.declared.order.Order.{Order}
use Rattle.tiff_dir.specs.Number.{number_in}
use Rattle.tiff_dir.specs.Table.{entry_at, entries_from, entry_with_tag, field_of}
use Rattle.tiff_dir.specs.Fault.{ascends}

-- the first entry, or what is among the others
pub find_go : (o : Order) (base at next n left tag : ℕ) (bytes : List ℕ) → next ≡ at + 12 → n ≡ left + 1 → entry_with_tag tag (entries_from o base at n bytes) ≡ cond (number_in o at 2 bytes == tag) (Some (entry_at o base at bytes)) (entry_with_tag tag (entries_from o base next left bytes))
unfolding entries_from
find_go o base at next n left tag bytes e1 e2 =
    let e : n ≡ suc left = omega arith in
    rw (e, e1) refl

pub find_none : (o : Order) (base at n tag : ℕ) (bytes : List ℕ) → n ≡ 0 → entry_with_tag tag (entries_from o base at n bytes) ≡ None
unfolding entries_from
find_none o base at n tag bytes e = rw e refl

ascends_step : (o : Order) (base at n : ℕ) (bytes : List ℕ) → ascends (map field_of (entries_from o base at (suc (suc n)) bytes)) ≡ (nat_lt (number_in o at 2 bytes) (number_in o (at + 12) 2 bytes) && ascends (map field_of (entries_from o base (at + 12) (suc n) bytes)))
unfolding entries_from ascends
ascends_step o base at n bytes = refl

pub ascends_few : (o : Order) (base at n : ℕ) (bytes : List ℕ) → n ≤ 1 → ascends (map field_of (entries_from o base at n bytes)) ≡ true
unfolding entries_from ascends
ascends_few o base at zero bytes h = refl
ascends_few o base at (suc zero) bytes h = refl
ascends_few o base at (suc (suc n)) bytes h = absurd (omega arith)

-- the first two tags, and the rest from the second entry on
pub ascends_go : (o : Order) (base at here next n left : ℕ) (bytes : List ℕ) → here ≡ at + 12 → next ≡ at + 12 → n ≡ left + 1 → 0 < left → ascends (map field_of (entries_from o base at n bytes)) ≡ (nat_lt (number_in o at 2 bytes) (number_in o here 2 bytes) && ascends (map field_of (entries_from o base next left bytes)))
ascends_go o base at here next n zero bytes e1 e2 e3 some = absurd (omega arith)
ascends_go o base at here next n (suc m) bytes e1 e2 e3 some =
    let e : n ≡ suc (suc m) = omega arith in
    rw (e, e1, e2) (ascends_step o base at m bytes)

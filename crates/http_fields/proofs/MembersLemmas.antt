-- The members of a list, part by part.
use Rattle.std.proofs.Common.{◌≡◌, ℕ, suc, ◌+◌, ◌<◌, ◌≤◌, Bool, true, false, cond, not, ◌&&◌, List, [], ◌∷◌, length, length-take, inl, inr, get_or, map, take, drop, refl, ap, arith}
use Rattle.std.specs.List.{onto_first}
use Rattle.std.proofs.Math.Dec.{eqb}
use Rattle.std.proofs.lemmas.Bool.{cases_lt}
use Rattle.std.proofs.lemmas.List.{drop_more}
use Rattle.httparse.specs.Grammar.{trim_ows}
use Rattle.http_fields.specs.Members.{parts_from, members}
use Rattle.http_fields.specs.MemberWalk.{first_part}

-- whether a quoted string is open behind b
abbrev pub is_open : Bool → Bool → ℕ → Bool
is_open quotes open_before b = cond (quotes && eqb b 34) (not open_before) open_before

-- where the first part ends
abbrev pub part_end : Bool → Bool → List ℕ → ℕ
part_end quotes open_before [] = 0
part_end quotes open_before (b ∷ bytes) =
    cond (eqb b 44 && not open_before) 0 (suc (part_end quotes (is_open quotes open_before b) bytes))

-- the first part ends at a comma
parts_at : (quotes open_before : Bool) (xs : List ℕ) → part_end quotes open_before xs < length xs
    → parts_from quotes open_before xs
    ≡ take (part_end quotes open_before xs) xs ∷ parts_from quotes false (drop (suc (part_end quotes open_before xs)) xs)
parts_at quotes open_before [] inside = absurd (omega arith)
parts_at quotes open_before (b ∷ bytes) inside =
    by_test (eqb b 44 && not open_before) (parts_at quotes (is_open quotes open_before b) bytes) inside
  where
    by_test : (t : Bool)
        → (part_end quotes (is_open quotes open_before b) bytes < length bytes
        → parts_from quotes (is_open quotes open_before b) bytes
        ≡ take (part_end quotes (is_open quotes open_before b) bytes) bytes
        ∷ parts_from quotes false (drop (suc (part_end quotes (is_open quotes open_before b) bytes)) bytes))
        → cond t 0 (suc (part_end quotes (is_open quotes open_before b) bytes)) < suc (length bytes)
        → cond t ([] ∷ parts_from quotes false bytes) (onto_first b (parts_from quotes (is_open quotes open_before b) bytes))
        ≡ take (cond t 0 (suc (part_end quotes (is_open quotes open_before b) bytes))) (b ∷ bytes)
        ∷ parts_from quotes false (drop (suc (cond t 0 (suc (part_end quotes (is_open quotes open_before b) bytes)))) (b ∷ bytes))
    by_test true later inside = refl
    by_test false later inside = ap (onto_first b) (later (omega arith))

-- there is only one part
parts_whole : (quotes open_before : Bool) (xs : List ℕ) → length xs ≤ part_end quotes open_before xs
    → parts_from quotes open_before xs ≡ xs ∷ []
parts_whole quotes open_before [] past = refl
parts_whole quotes open_before (b ∷ bytes) past =
    by_test (eqb b 44 && not open_before) (parts_whole quotes (is_open quotes open_before b) bytes) past
  where
    by_test : (t : Bool)
        → (length bytes ≤ part_end quotes (is_open quotes open_before b) bytes
        → parts_from quotes (is_open quotes open_before b) bytes ≡ bytes ∷ [])
        → suc (length bytes) ≤ cond t 0 (suc (part_end quotes (is_open quotes open_before b) bytes))
        → cond t ([] ∷ parts_from quotes false bytes) (onto_first b (parts_from quotes (is_open quotes open_before b) bytes))
        ≡ (b ∷ bytes) ∷ []
    by_test true later past = absurd (omega arith)
    by_test false later past = ap (onto_first b) (later (omega arith))

pub members_at : (quotes : Bool) (xs : List ℕ) → part_end quotes false xs < length xs
    → members quotes xs ≡ trim_ows (take (part_end quotes false xs) xs) ∷ members quotes (drop (part_end quotes false xs + 1) xs)
unfolding members
members_at quotes xs inside =
    let e : part_end quotes false xs + 1 ≡ suc (part_end quotes false xs) = omega arith in
    rw e (ap (map trim_ows) (parts_at quotes false xs inside))

pub members_whole : (quotes : Bool) (xs : List ℕ) → length xs ≤ part_end quotes false xs → members quotes xs ≡ trim_ows xs ∷ []
unfolding members
members_whole quotes xs past = ap (map trim_ows) (parts_whole quotes false xs past)

-- ---- where a part ends, byte by byte

module _ (quotes quoted : Bool) (xs : List ℕ) (i : ℕ) (inside : i < length xs) where
  pub end_here : (eqb (get_or xs i 0) 44 && not quoted) ≡ true → part_end quotes quoted (drop i xs) ≡ 0
  end_here is = rw (drop_more xs i 0 inside, is)

-- ---- the first part

pub end-le : (quotes open_before : Bool) (xs : List ℕ) → part_end quotes open_before xs ≤ length xs
end-le quotes open_before [] = omega arith
end-le quotes open_before (b ∷ bytes) = by_test (eqb b 44 && not open_before) (end-le quotes (is_open quotes open_before b) bytes)
  where
    by_test : (t : Bool) → part_end quotes (is_open quotes open_before b) bytes ≤ length bytes
        → cond t 0 (suc (part_end quotes (is_open quotes open_before b) bytes)) ≤ suc (length bytes)
    by_test true later = omega arith
    by_test false later = omega arith

pub length-first_part : (quotes : Bool) (xs : List ℕ) → length (first_part quotes xs) ≡ part_end quotes false xs
length-first_part quotes xs = elim (cases_lt (part_end quotes false xs) (length xs)) [
  | inl inside ↦
      let long = end-le quotes false xs in
      rw (parts_at quotes false xs inside) (omega (arith, length-take (part_end quotes false xs) xs))
  | inr past ↦ let long = end-le quotes false xs in rw (parts_whole quotes false xs past) (omega arith)
]

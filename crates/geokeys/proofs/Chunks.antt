-- Items of eight bytes, one after another.
use Rattle.std.proofs.Common.{◌≡◌, ℕ, ◌+◌, ◌-◌, ◌*◌, ◌/◌, ◌<◌, ◌≤◌, List, ◌++◌, length, take, drop, sym, ap, ◌∙◌, arith, length-append, length-drop}
use Rattle.std.proofs.lemmas.List.{take_at, drop_at, drop-drop}
use Rattle.std.specs.List.{slice_range}

-- the bytes go on with item n
pub record Goes (bytes item rest : List ℕ) (n : ℕ) : Type 0 where
  pub is : item ≡ slice_range bytes (8 * n) (8 * n + 8)
  pub rest_is : rest ≡ drop (8 * (n + 1)) bytes
  pub within : 8 * (n + 1) ≤ length bytes

pub item_next : (bytes item before rest : List ℕ) (n : ℕ) → 8 * n ≤ length bytes → before ≡ drop (8 * n) bytes → before ≡ item ++ rest → length item ≡ 8 → Goes bytes item rest n
item_next bytes item before rest n within there split size =
    let parts : drop (8 * n) bytes ≡ item ++ rest = sym there ∙ split in
    let count : 8 * n + 8 - 8 * n ≡ 8 = omega arith in
    let place : 8 * n + 8 ≡ 8 * (n + 1) = omega arith in
    let long : length (drop (8 * n) bytes) ≡ length item + length rest = ap length parts ∙ length-append item rest in
    record {
      is = sym (take_at item rest 8 size) ∙ ap (take 8) (sym parts) ∙ ap (λ k. take k (drop (8 * n) bytes)) (sym count);
      rest_is = sym (drop_at item rest 8 size) ∙ ap (drop 8) (sym parts) ∙ drop-drop 8 (8 * n) bytes ∙ ap (λ k. drop k bytes) place;
      within = omega (arith, long, size, length-drop (8 * n) bytes);
    }

pub items_end : (bytes rest : List ℕ) (n : ℕ) → 8 * n ≤ length bytes → rest ≡ drop (8 * n) bytes → length rest < 8 → n ≡ length bytes / 8
items_end bytes rest n within there few =
    let long : length rest ≡ length bytes - 8 * n = ap length there ∙ length-drop (8 * n) bytes in
    omega (arith, long, few, within)

-- The bytes of blocks and of pieces.
use Rattle.std.proofs.Common.{◌≡◌, ℕ, zero, suc, ◌+◌, ◌-◌, ◌*◌, ◌/◌, ◌%◌, ◌<◌, ◌≤◌, true, false, cond, List, [], ◌∷◌, ◌++◌, length, take, drop, map, get_or, min, max, Option, Some, None, is_some, refl, sym, ap, ◌∙◌, arith, nat_eq, length-take, length-drop, inl, inr}
use Rattle.std.proofs.lemmas.Bool.{eqb-true}
use Rattle.std.proofs.lemmas.Bool.Decides.{eqb_tells}
use Rattle.std.proofs.lemmas.List.{take-take, drop-take, drop-drop, get_or-take, get_or-drop}
use Rattle.std.proofs.lemmas.Slice.{take-put_mid}
use borrow.Rule.Slice.PartMut.{put_mid}
use Rattle.std.specs.Global.{Vec}
use Rattle.std.specs.List.{All, range_with_len, slice_range}
use Rattle.std.specs.Map.{lookup, lookup_entry}
use Rattle.std.specs.Option.{option_map_or}
use Rattle.extents.specs.declared.limits.TheConstants.{BLOCK_SIZE}
use Rattle.extents.specs.Block.{block_of, first_block, blocks}
use Rattle.range_cache.specs.Numbers.{has, AreThere}
use Rattle.range_cache.specs.Cache.{Block, block_at, blocks_in, byte_at, left_in, numbers}
use Rattle.range_cache.proofs.Entries.{block, is_some-lookup_entry, number_of_entry}
use Rattle.range_cache.proofs.Fronts.{All-found}

-- a part of a part
pub slice_of_slice : (xs : List ℕ) (a b i j : ℕ) → i ≤ j → a + j ≤ b → slice_range (slice_range xs a b) i j ≡ slice_range xs (a + i) (a + j)
slice_of_slice xs a b i j le fits =
    let m : ℕ = b - a - i in
    let all : b - a ≡ i + m = omega arith in
    let few : j - i ≤ m = omega arith in
    let count : j - i ≡ a + j - (a + i) = omega arith in
    ap (λ k. take (j - i) (drop i (take k (drop a xs)))) all
    ∙ ap (take (j - i)) (drop-take i m (drop a xs)) ∙ take-take (j - i) m (drop i (drop a xs)) few
    ∙ ap (take (j - i)) (drop-drop i a xs) ∙ ap (λ k. take k (drop (a + i) xs)) count

abbrev pub IsOf : List ℕ → Block → Type 0
IsOf f b = b.1 ≡ block_of f b.0

pub blocks-some : (first len : ℕ) → 0 < len → blocks first len ≡ (first + len - 1) / 16384 - first / 16384 + 1
blocks-some first len some = elim (eqb_tells len 0) [
  | inl e ↦ absurd (let none = e.1 in omega arith)
  | inr e ↦ ap (λ t. cond t 0 ((first + len - 1) / 16384 - first / 16384 + 1)) e.0
]

-- numbers whose bytes are known one by one
pub mapped : (g : ℕ → ℕ) (xs : List ℕ) (a : ℕ) → ((k : ℕ) → k < length xs → get_or xs k 0 ≡ g (a + k)) → xs ≡ map g (range_with_len a (length xs))
mapped g [] a each = refl
mapped g (x ∷ xs) a each =
    let place : a + 0 ≡ a = omega arith in
    let head : x ≡ g a = each 0 (omega arith) ∙ ap g place in
    let tail = mapped g xs (a + 1) (λ k less. let next : a + suc k ≡ a + 1 + k = omega arith in each (suc k) (omega arith) ∙ ap g next) in
    ap (λ y. y ∷ xs) head ∙ ap (λ ys. g a ∷ ys) tail

-- two parts, one after the other
pub parts_join : (g : ℕ → ℕ) (a n m : ℕ) → map g (range_with_len a n) ++ map g (range_with_len (a + n) m) ≡ map g (range_with_len a (n + m))
parts_join g a zero m =
    let place : a + 0 ≡ a = omega arith in
    let count : 0 + m ≡ m = omega arith in
    ap (λ k. map g (range_with_len k m)) place ∙ sym (ap (λ k. map g (range_with_len a k)) count)
parts_join g a (suc n) m =
    let place : a + suc n ≡ a + 1 + n = omega arith in
    let count : suc n + m ≡ suc (n + m) = omega arith in
    ap (λ k. g a ∷ (map g (range_with_len (a + 1) n) ++ map g (range_with_len k m))) place
    ∙ ap (λ ys. g a ∷ ys) (parts_join g (a + 1) n m) ∙ sym (ap (λ k. map g (range_with_len a k)) count)

-- one part more is copied
pub copied_more : (g : ℕ → ℕ) (out new : List ℕ) (first end n start stop : ℕ) → first + length out ≡ end → first / 16384 ≤ n → n * 16384 < end →
    start ≡ max first (n * 16384) → stop ≡ min ((n + 1) * 16384) end → length new ≡ stop - start →
    take (min (max first (n * 16384)) end - first) out ≡ map g (range_with_len first (min (max first (n * 16384)) end - first)) →
    new ≡ map g (range_with_len start (length new)) →
    take (min (max first ((n + 1) * 16384)) end - first) (put_mid (start - first) (stop - first - (start - first)) out new)
    ≡ map g (range_with_len first (min (max first ((n + 1) * 16384)) end - first))
copied_more g out new first end n start stop long low high start_is stop_is size before new_is =
    let was : min (max first (n * 16384)) end ≡ start = omega arith in
    let next : min (max first ((n + 1) * 16384)) end ≡ stop = omega arith in
    let all : stop - first ≡ start - first + length new = omega arith in
    let room : start - first ≤ length out = omega arith in
    let place : first + (start - first) ≡ start = omega arith in
    ap (λ k. take (k - first) (put_mid (start - first) (stop - first - (start - first)) out new)) next
    ∙ take-put_mid (start - first) (stop - first - (start - first)) out new (stop - first) all room
    ∙ ap (λ l. l ++ new) (ap (λ k. take (k - first) out) (sym was) ∙ before ∙ ap (λ k. map g (range_with_len first (k - first))) was)
    ∙ ap (λ l. map g (range_with_len first (start - first)) ++ l) (new_is ∙ ap (λ k. map g (range_with_len k (length new))) (sym place))
    ∙ parts_join g first (start - first) (length new)
    ∙ ap (λ k. map g (range_with_len first k)) (sym all)
    ∙ ap (λ k. map g (range_with_len first (k - first))) (sym next)

-- a byte of a block that is looked up

found_byte : (n : ℕ) (g : List ℕ → ℕ) (es : List (ℕ × Vec ℕ)) →
    option_map_or (λ (b : Block). g b.1) (lookup_entry (nat_eq n) (blocks_in es)) 0 ≡ option_map_or (λ (v : Vec ℕ). g v.items) (lookup (nat_eq n) es) 0
found_byte n g [] = refl
found_byte n g (e ∷ es) =
    elim (nat_eq n e.0) as (λ t. option_map_or (λ (b : Block). g b.1) (cond t (Some (block e)) (lookup_entry (nat_eq n) (blocks_in es))) 0
    ≡ option_map_or (λ (v : Vec ℕ). g v.items) (cond t (Some e.1) (lookup (nat_eq n) es)) 0) [
      | true ↦ refl
      | false ↦ found_byte n g es
    ]

pub byte_found : (n j k : ℕ) (es : List (ℕ × Vec ℕ)) (o : Option (Vec ℕ)) → o ≡ lookup (nat_eq n) es → j < BLOCK_SIZE → k ≡ n * BLOCK_SIZE + j →
    byte_at (blocks_in es) k ≡ option_map_or (λ (v : Vec ℕ). get_or v.items j 0) o 0
byte_found n j k es o is less k_is =
    let number : k / 16384 ≡ n = omega arith in
    let place : k % 16384 ≡ j = omega arith in
    ap (λ m. option_map_or (λ (b : Block). get_or b.1 (k % 16384) 0) (lookup_entry (nat_eq m) (blocks_in es)) 0) number
    ∙ ap (λ i. option_map_or (λ (b : Block). get_or b.1 i 0) (lookup_entry (nat_eq n) (blocks_in es)) 0) place
    ∙ found_byte n (λ l. get_or l j 0) es ∙ ap (λ p. option_map_or (λ (v : Vec ℕ). get_or v.items j 0) p 0) (sym is)

pub left_found : (n at len : ℕ) (es : List (ℕ × Vec ℕ)) (o : Option (Vec ℕ)) → o ≡ lookup (nat_eq n) es →
    left_in (block_at n (blocks_in es)) at len ≡ option_map_or (λ (v : Vec ℕ). min len (min BLOCK_SIZE (length v.items) - at)) o 0
left_found n at len es o is =
    found_byte n (λ l. min len (min BLOCK_SIZE (length l) - at)) es
    ∙ ap (λ p. option_map_or (λ (v : Vec ℕ). min len (min BLOCK_SIZE (length v.items) - at)) p 0) (sym is)

-- a byte of a file, in a block that is there

byte_of_block : (f : List ℕ) (k : ℕ) → get_or (block_of f (k / 16384)) (k % 16384) 0 ≡ get_or f k 0
byte_of_block f k =
    let start : ℕ = k / 16384 * 16384 in
    let less : k % 16384 < (k / 16384 + 1) * 16384 - start = omega arith in
    let place : start + k % 16384 ≡ k = omega arith in
    get_or-take ((k / 16384 + 1) * 16384 - start) (drop start f) (k % 16384) 0 less
    ∙ get_or-drop start f (k % 16384) 0 ∙ ap (λ i. get_or f i 0) place

pub byte_of : (f : List ℕ) (k : ℕ) (bs : List Block) → All (IsOf f) bs → has (k / 16384) (numbers bs) ≡ true → byte_at bs k ≡ get_or f k 0
byte_of f k bs held there =
    (elim (block_at (k / 16384) bs) as (λ o. block_at (k / 16384) bs ≡ o → option_map_or (λ (b : Block). get_or b.1 (k % 16384) 0) o 0 ≡ get_or f k 0) [
      | None ↦ λ none. absurd (let e : true ≡ false = sym there ∙ sym (is_some-lookup_entry (k / 16384) bs) ∙ ap is_some none in cc)
      | Some b ↦ λ some.
          let number : k / 16384 ≡ b.0 = eqb-true (k / 16384) b.0 (number_of_entry (k / 16384) bs b some) in
          ap (λ l. get_or l (k % 16384) 0) (All-found (IsOf f) (k / 16384) bs b held some ∙ ap (block_of f) (sym number)) ∙ byte_of_block f k
    ]) refl

-- the bytes of a range whose blocks are there
pub bytes_of : (f : List ℕ) (first len : ℕ) (bs : List Block) → first + len ≤ length f → 0 < len → All (IsOf f) bs →
    AreThere (numbers bs) (first_block first) (blocks first len) → map (byte_at bs) (range_with_len first len) ≡ slice_range f first (first + len)
bytes_of f first len bs within some held there =
    let count = blocks-some first len some in
    let size : length (slice_range f first (first + len)) ≡ len = omega (arith, length-take (first + len - first) (drop first f), length-drop first f) in
    ap (λ n. map (byte_at bs) (range_with_len first n)) (sym size)
    ∙ sym (mapped (byte_at bs) (slice_range f first (first + len)) first (λ k less.
    let less' : k < first + len - first = omega (arith, size, less) in
    get_or-take (first + len - first) (drop first f) k 0 less' ∙ get_or-drop first f k 0
    ∙ sym (byte_of f (first + k) bs held (there ((first + k) / 16384) (omega arith) (omega (arith, count, less'))))))

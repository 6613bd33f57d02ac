-- Packets one after another.
use Rattle.std.proofs.Common.{◌≡◌, ℕ, ◌+◌, ◌-◌, ◌%◌, ◌≤◌, ◌<◌, List, [], ◌∷◌, ◌++◌, length, replicate, drop, take, get_or, slice_get, slice_range, Some, refl, sym, ap, ◌∙◌, arith, append_assoc, append-nil, subst}
use Rattle.std.specs.List.{flat_map, AllByRecursion}
use Rattle.std.proofs.lemmas.Grind.{flat_map-append}
use Rattle.std.proofs.lemmas.List.{length-append}
use Rattle.std.proofs.lemmas.List.Folds.{drop_split}
use Rattle.std.proofs.Math.Seq.{drop-append_seam}
use Rattle.std.proofs.lemmas.List.{length-take-le, length-drop, take_all}
use Rattle.tiff_dir.specs.Packets.{Packet, IsPacket, KeepRows, written, output, Packs}
use Rattle.reference_support.specs.Unpacking.{IsNextPacket, IsUnpackedTo}

-- a text is its first byte, a stretch and the rest
pub first_and_rest : (bytes : List ℕ) (n m : ℕ) → slice_get bytes 0 ≡ Some n → 1 ≤ m → bytes ≡ n ∷ (slice_range bytes 1 m ++ drop m bytes)
first_and_rest [] n m first some = cc
first_and_rest (b ∷ bs) n m first some =
    let same : b ≡ n = cc in
    let rest : bs ≡ slice_range (b ∷ bs) 1 m ++ drop m (b ∷ bs) = drop_split (b ∷ bs) 1 m some in
    λ i. same i ∷ rest i

pub slice_length : (xs : List ℕ) (a b : ℕ) → a ≤ b → b ≤ length xs → length (slice_range xs a b) ≡ b - a
slice_length xs a b order inside = length-take-le (b - a) (drop a xs) (omega (arith, length-drop a xs))

pub copied_begins : (bytes : List ℕ) (n m : ℕ) → slice_get bytes 0 ≡ Some (n - 1) → length (slice_range bytes 1 m) ≡ n → 1 ≤ m
    → bytes ≡ (length (slice_range bytes 1 m) - 1) ∷ slice_range bytes 1 m ++ drop m bytes
copied_begins bytes n m first size some = first_and_rest bytes (n - 1) m first some ∙ ap (λ k. (k - 1) ∷ (slice_range bytes 1 m ++ drop m bytes)) (sym size)

pub first_two : (bytes : List ℕ) (n m : ℕ) → slice_get bytes 0 ≡ Some n → 1 < length bytes → ((d : ℕ) → m ≡ get_or bytes 1 d) → bytes ≡ n ∷ m ∷ drop 2 bytes
first_two [] n m first long second = absurd (omega (arith, long))
first_two (b ∷ []) n m first long second = absurd (omega (arith, long))
first_two (a ∷ b ∷ bs) n m first long second =
    let same : a ≡ n = cc in
    λ i. same i ∷ sym (second 0) i ∷ bs

pub first_one : (bytes : List ℕ) (n : ℕ) → 0 < length bytes → ((d : ℕ) → n ≡ get_or bytes 0 d) → bytes ≡ n ∷ drop 1 bytes
first_one [] n some first = absurd (omega (arith, some))
first_one (b ∷ bs) n some first = λ i. sym (first 0) i ∷ bs

pub has_room : (at n count size row : ℕ) → at ≡ n → size ≡ count → at % row + count ≤ row → n % row + size ≤ row
has_room at n count size row same sizes fits = subst (λ m. m % row + size ≤ row) same (subst (λ m. at % row + m ≤ row) (sym sizes) fits)

-- a longer text with the same byte after it
pub resized : (xs ys : List ℕ) (n m k b : ℕ) → n ≡ length xs + m → k ≡ length xs → ys ≡ take n xs ++ replicate (n - k) b → ys ≡ xs ++ replicate m b
resized xs ys n m k b size old items =
    let times : n - k ≡ m = omega (arith, size, old) in
    let fits : length xs ≤ n = omega (arith, size) in
    items ∙ (λ i. take_all n xs fits i ++ replicate (times i) b)

all_more : (ps : List Packet) (p : Packet) → AllByRecursion IsPacket ps → IsPacket p → AllByRecursion IsPacket (ps ++ p ∷ [])
all_more [] p lawful one = (one, tt)
all_more (q ∷ ps) p lawful one = (lawful.0, all_more ps p lawful.1 one)

fits_at : (row at place : ℕ) (p : Packet) → at ≡ place → at % row + length (output p) ≤ row → place % row + length (output p) ≤ row
fits_at row at place p same fits = subst (λ n. n % row + length (output p) ≤ row) same fits

rows_more : (row at : ℕ) (ps : List Packet) (p : Packet) → KeepRows row at ps → (at + length (flat_map output ps)) % row + length (output p) ≤ row
    → KeepRows row at (ps ++ p ∷ [])
rows_more row at [] p keep fits = (fits_at row (at + length (flat_map output [])) at p (omega arith) fits, tt)
rows_more row at (q ∷ ps) p keep fits = (
  keep.0,
  rows_more row (at + length (output q)) ps p keep.1
      (fits_at row (at + length (output q ++ flat_map output ps)) (at + length (output q) + length (flat_map output ps)) p
      (omega (arith, length-append (output q) (flat_map output ps))) fits),
)

-- one packet more
pub packs_more : (row : ℕ) (before out : List ℕ) (p : Packet) → Packs row before out → IsPacket p → length out % row + length (output p) ≤ row
    → Packs row (before ++ written p) (out ++ output p)
packs_more row before out p packs lawful fits = record {
  packets = packs.packets ++ p ∷ [];
  lawful = all_more packs.packets p packs.lawful lawful;
  bytes_are = flat_map-append written packs.packets (p ∷ []) ∙ (λ i. packs.bytes_are i ++ append-nil (written p) i);
  out_is = flat_map-append output packs.packets (p ∷ []) ∙ (λ i. packs.out_is i ++ append-nil (output p) i);
  rows = rows_more row 0 packs.packets p packs.rows
      (fits_at row (length out) (0 + length (flat_map output packs.packets)) p (omega (arith, ap length packs.out_is)) fits);
}

pub packs_none : (row : ℕ) → Packs row [] []
packs_none row = record { packets = []; lawful = tt; bytes_are = refl; out_is = refl; rows = tt }

-- a packet more of the bytes is unpacked
pub unpacked_more : (row : ℕ) (bytes : List ℕ) (at len : ℕ) (out new : List ℕ) → IsUnpackedTo row bytes at out → IsNextPacket row (drop at bytes) len out new
    → IsUnpackedTo row bytes (at + len) new
unpacked_more row bytes at len out new so_far next = record {
  before = so_far.before ++ written next.packet;
  after = next.after;
  parts = so_far.parts ∙ ap (λ ys. so_far.before ++ ys) (sym (drop_parts bytes so_far.before so_far.after at so_far.parts so_far.place) ∙ next.begins)
      ∙ sym (append_assoc so_far.before (written next.packet) next.after);
  place = omega (arith, so_far.place, next.size, length-append so_far.before (written next.packet));
  packs = subst (λ o. Packs row (so_far.before ++ written next.packet) o) (sym next.added)
      (packs_more row so_far.before out next.packet so_far.packs next.lawful next.fits);
}
  where
    drop_parts : (all xs ys : List ℕ) (n : ℕ) → all ≡ xs ++ ys → n ≡ length xs → drop n all ≡ ys
    drop_parts all xs ys n parts size = rw (parts, size) (drop-append_seam xs ys)

pub rest_of : (xs : List ℕ) (at : ℕ) → take (length xs - at) (drop at xs) ≡ drop at xs
rest_of xs at = take_all (length xs - at) (drop at xs) (omega (arith, length-drop at xs))

pub unpacked_all : (row : ℕ) (bytes : List ℕ) (at : ℕ) (out : List ℕ) → IsUnpackedTo row bytes at out → length bytes ≤ at → Packs row bytes out
unpacked_all row bytes at out so_far past = subst (λ bs. Packs row bs out) (sym (so_far.parts ∙ all_before so_far.before so_far.after
    (omega (arith, past, so_far.place, ap length so_far.parts, length-append so_far.before so_far.after)))) so_far.packs
  where
    all_before : (xs ys : List ℕ) → length ys ≡ 0 → xs ++ ys ≡ xs
    all_before xs [] size = append-nil xs
    all_before xs (y ∷ ys) size = absurd (omega (arith, size))

pub unpacked_none : (row : ℕ) (bytes : List ℕ) → IsUnpackedTo row bytes 0 []
unpacked_none row bytes = record { before = []; after = bytes; parts = refl; place = refl; packs = packs_none row }

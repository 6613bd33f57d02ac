-- The bytes of a range that a cache has.
use Rattle.std.proofs.Common.{◌≡◌, ℕ, zero, suc, ◌+◌, ◌-◌, ◌≤◌, length, map, take, drop, sym, ap, ◌∙◌, arith}
use Rattle.std.specs.Prelude.{slice_range}
use Rattle.std.specs.List.{range_with_len}
use Rattle.std.proofs.lemmas.List.FromFn.{length-map-range_with_len, take-map-range_with_len}
use Rattle.range_cache.specs.Cache.{Blocks, bytes_at, byte_at}

-- there are as many as are asked for
pub length_of : (b : Blocks) (first len : ℕ) → length (bytes_at b first len) ≡ len
unfolding bytes_at
length_of b first len = length-map-range_with_len (byte_at b.entries) first len

-- without the first ones, those of a later range
dropped : (f : ℕ → ℕ) (first at n : ℕ) → drop at (map f (range_with_len first (at + n))) ≡ map f (range_with_len (first + at) n)
dropped f first zero n =
    let count : 0 + n ≡ n = omega arith in
    let place : first + 0 ≡ first = omega arith in
    ap (λ k. map f (range_with_len first k)) count ∙ sym (ap (λ k. map f (range_with_len k n)) place)
dropped f first (suc at) n =
    let count : suc at + n ≡ suc (at + n) = omega arith in
    let place : first + 1 + at ≡ first + suc at = omega arith in
    ap (λ k. drop (suc at) (map f (range_with_len first k))) count ∙ dropped f (first + 1) at n ∙ ap (λ k. map f (range_with_len k n)) place

-- and a part of them are those of a smaller range
pub part_of : (b : Blocks) (first len at count : ℕ) → at + count ≤ len → slice_range (bytes_at b first len) at (at + count) ≡ bytes_at b (first + at) count
unfolding bytes_at
part_of b first len at count within =
    let f = byte_at b.entries in
    let whole : len ≡ at + (len - at) = omega (arith, within) in
    let some : at + count - at ≡ count = omega arith in
    ap (λ k. take (at + count - at) (drop at (map f (range_with_len first k)))) whole
    ∙ ap (take (at + count - at)) (dropped f first at (len - at))
    ∙ ap (λ k. take k (map f (range_with_len (first + at) (len - at)))) some
    ∙ take-map-range_with_len f (first + at) (len - at) count (omega (arith, within))

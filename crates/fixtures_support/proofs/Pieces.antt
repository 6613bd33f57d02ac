-- One more piece at the end of what a loop has appended.
use Rattle.std.proofs.Common.{◌≡◌, ℕ, ◌+◌, ◌*◌, List, [], ◌∷◌, ◌++◌, map, replicate, sym, ap, ◌∙◌, append_assoc, zero-add}
use Rattle.std.specs.List.{flat_map, range_with_len}
use Rattle.std.proofs.lemmas.List.{flat_map_more, map-id}
use Rattle.std.proofs.lemmas.List.FromFn.{map-range_with_len_more}
use Rattle.fixtures_support.specs.declared.build.Order.{Order}
use Rattle.fixtures_support.specs.declared.build.Order.TheVariants.{Little}
use Rattle.fixtures_support.specs.Tiff.{number}
use Rattle.fixtures_support.specs.Files.{colour_rows, colour_tiles, deep_samples, even_tiles, numbers, packed_rows, rising_samples, tile_places}

-- the piece of one more item
flat_map_next : {X A : Type 0} (f : X → List A) (xs ys : List X) (x : X) (start out new : List A) → ys ≡ xs ++ x ∷ []
    → out ≡ start ++ flat_map f xs → new ≡ out ++ f x → new ≡ start ++ flat_map f ys
flat_map_next f xs ys x start out new more was added =
    added ∙ ap (λ zs. zs ++ f x) was ∙ flat_map_more f start xs x ∙ ap (λ zs. start ++ flat_map f zs) (sym more)

range_next : (n : ℕ) → range_with_len 0 (n + 1) ≡ range_with_len 0 n ++ n ∷ []
range_next n =
    sym (map-id (range_with_len 0 (n + 1))) ∙ map-range_with_len_more (λ k. k) 0 n n (zero-add n)
    ∙ ap (λ xs. xs ++ n ∷ []) (map-id (range_with_len 0 n))

-- one more sample
pub rising_samples_next : (n : ℕ) (start out new : List ℕ) → out ≡ start ++ rising_samples n → new ≡ out ++ n ∷ []
    → new ≡ start ++ rising_samples (n + 1)
unfolding rising_samples
rising_samples_next n start out new was added =
    added ∙ ap (λ zs. zs ++ n ∷ []) was ∙ append_assoc start (range_with_len 0 n) (n ∷ [])
    ∙ ap (λ zs. start ++ zs) (sym (range_next n))

-- one more tile
pub even_tiles_next : (size : ℕ) (value : ℕ → ℕ) (n : ℕ) (start out new : List ℕ) → out ≡ start ++ even_tiles size value n
    → new ≡ out ++ replicate size (value n) → new ≡ start ++ even_tiles size value (n + 1)
unfolding even_tiles
even_tiles_next size value n start out new was added =
    flat_map_next (λ t. replicate size (value t)) (range_with_len 0 n) (range_with_len 0 (n + 1)) n start out new
    (range_next n) was added

-- one more row
pub packed_rows_next : (n : ℕ) (start out new : List ℕ) → out ≡ start ++ packed_rows n
    → new ≡ out ++ 0xf1 ∷ n ∷ [] → new ≡ start ++ packed_rows (n + 1)
unfolding packed_rows
packed_rows_next n start out new was added =
    flat_map_next (λ y. 0xf1 ∷ y ∷ []) (range_with_len 0 n) (range_with_len 0 (n + 1)) n start out new
    (range_next n) was added

-- one more sample of 16 bits
pub deep_samples_next : (order : Order) (n : ℕ) (start out new : List ℕ) → out ≡ start ++ deep_samples order n
    → new ≡ out ++ number order 2 (32768 + n) → new ≡ start ++ deep_samples order (n + 1)
unfolding deep_samples
deep_samples_next order n start out new was added =
    let value : ℕ → ℕ = λ t. 32768 + t in
    flat_map_next (number order 2) (map value (range_with_len 0 n)) (map value (range_with_len 0 (n + 1))) (value n)
    start out new (map-range_with_len_more value 0 n n (zero-add n)) was added

-- one more row of RGB
pub colour_rows_next : (t n : ℕ) (start out new : List ℕ) → out ≡ start ++ colour_rows t n
    → new ≡ out ++ 2 ∷ n ∷ t ∷ 0xff ∷ 0xd4 ∷ 0x80 ∷ [] → new ≡ start ++ colour_rows t (n + 1)
unfolding colour_rows
colour_rows_next t n start out new was added =
    flat_map_next (λ y. 2 ∷ y ∷ t ∷ 0xff ∷ 0xd4 ∷ 0x80 ∷ []) (range_with_len 0 n) (range_with_len 0 (n + 1)) n start out new
    (range_next n) was added

-- one more tile of RGB
pub colour_tiles_next : (n : ℕ) (start out new : List ℕ) → out ≡ start ++ colour_tiles n
    → new ≡ out ++ colour_rows n 16 → new ≡ start ++ colour_tiles (n + 1)
unfolding colour_tiles
colour_tiles_next n start out new was added =
    flat_map_next (λ t. colour_rows t 16) (range_with_len 0 n) (range_with_len 0 (n + 1)) n start out new
    (range_next n) was added

-- the place of one more tile
pub tile_places_next : (first size n : ℕ) (start out new : List ℕ) → out ≡ start ++ tile_places first size n
    → new ≡ out ++ number Little 4 (first + size * n) → new ≡ start ++ tile_places first size (n + 1)
unfolding tile_places numbers
tile_places_next first size n start out new was added =
    let place : ℕ → ℕ = λ t. first + size * t in
    flat_map_next (number Little 4) (map place (range_with_len 0 n)) (map place (range_with_len 0 (n + 1))) (place n)
    start out new (map-range_with_len_more place 0 n n (zero-add n)) was added

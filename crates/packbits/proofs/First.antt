-- The first packet of some bytes.
use Rattle.std.proofs.Common.{◌≡◌, ℕ, suc, ◌+◌, ◌-◌, ◌<◌, ◌≤◌, List, [], ◌∷◌, ◌++◌, length, take, drop, get_or, replicate, refl, sym, ap, ◌∙◌, arith}
use Rattle.std.proofs.lemmas.List.{take-append-drop, length-take-le}
use Rattle.tiff_dir.specs.Packets.{Copied, Repeated}
use Rattle.packbits.specs.Unpacking.{IsFirst}

pub copied_first : (bytes text : List ℕ) (head : ℕ) → get_or bytes 0 0 ≡ head → head < 128 → head + 1 < length bytes → text ≡ take (head + 1) (drop 1 bytes) →
    IsFirst bytes (head + 1 + 1) text
copied_first [] text head is low room text_is = absurd (omega arith)
copied_first (b ∷ bs) text head is low room text_is =
    let part : List ℕ = take (head + 1) bs in
    let size : length part ≡ head + 1 = length-take-le (head + 1) bs (omega arith) in
    let count : length part - 1 ≡ b = omega (arith, size, is) in
    let end : head + 1 + 1 ≡ suc (head + 1) = omega arith in
    record {
      packet = Copied part;
      lawful = (omega (arith, size), omega (arith, size));
      begins = ap (λ k. k ∷ bs) (sym count) ∙ ap (λ l. (length part - 1) ∷ l) (sym (take-append-drop (head + 1) bs)) ∙ ap (λ k. (length part - 1) ∷ (part ++ drop k (b ∷ bs))) (sym end);
      size = omega (arith, size);
      text_is = text_is;
    }

pub repeated_first : (bytes text : List ℕ) (head : ℕ) → get_or bytes 0 0 ≡ head → 128 < head → head < 256 → 2 ≤ length bytes → text ≡ replicate (257 - head) (get_or bytes 1 0) →
    IsFirst bytes 2 text
repeated_first [] text head is low high room text_is = absurd (omega arith)
repeated_first (b ∷ []) text head is low high room text_is = absurd (omega arith)
repeated_first (b ∷ value ∷ bs) text head is low high room text_is =
    let count : 257 - (257 - head) ≡ b = omega (arith, is) in
    record {
      packet = Repeated (257 - head) value;
      lawful = (omega arith, omega arith);
      begins = ap (λ k. k ∷ value ∷ bs) (sym count);
      size = refl;
      text_is = text_is;
    }

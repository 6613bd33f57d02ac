-- The next bytes of an answer that comes in pieces.
use Rattle.std.proofs.Common.{◌≡◌, ℕ, ◌+◌, ◌<◌, List, ◌++◌, length, take, drop, min, sym, ap, ◌∙◌, arith, length-take, take-append-drop}
use Rattle.std.proofs.Math.Seq.{take-append_seam}
use Rattle.std.proofs.lemmas.List.{drop-drop, nil_from_length}
use Rattle.cog_client.specs.Pieces.{Brings}

-- n bytes of what is left are copied to the front of out
pub brings_next : (old left items out copied : List ℕ) (at size n : ℕ) → left ≡ drop at items → left ≡ old → n ≡ min (length left) size
    → 0 < size → copied ≡ take n left → Brings old (copied ++ drop n out) n (drop (at + n) items)
brings_next old left items out copied at size n from same few some is =
    let long : length copied ≡ n = ap length is ∙ omega (arith, length-take n left) in
    record {
      parts =
          sym same ∙ sym (take-append-drop n left)
          ∙ ap (λ (t : List ℕ). t ++ drop n left) (sym is)
          ∙ ap (λ (t : List ℕ). t ++ drop n left) (sym (ap (λ (m : ℕ). take m (copied ++ drop n out)) (sym long) ∙ take-append_seam copied (drop n out)))
          ∙ ap (λ (t : List ℕ). take n (copied ++ drop n out) ++ t) (ap (drop n) from ∙ drop-drop n at items ∙ ap (λ (m : ℕ). drop m items) (omega arith));
      ends = λ none. sym same ∙ nil_from_length left (omega arith);
    }

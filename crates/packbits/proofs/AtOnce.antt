-- More bytes than are meant are written at once.
use Rattle.std.proofs.Common.{◌≡◌, ◌≤◌, ◌++◌, ℕ, List, length, take, drop, ap, ◌∙◌, arith}
use Rattle.std.proofs.lemmas.List.{take-append-le, length-take-le}

-- n bytes are meant, k are written
pub front : (n k : ℕ) (out new bytes : List ℕ) → n ≤ k → k ≤ length out → length new ≡ length (take k out) → new ≡ bytes → take n (new ++ drop k out) ≡ take n bytes
front n k out new bytes few room len is =
    let size : length new ≡ k = len ∙ length-take-le k out room in
    take-append-le n new (drop k out) (omega (arith, size, few)) ∙ ap (take n) is

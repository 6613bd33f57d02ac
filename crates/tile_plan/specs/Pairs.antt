-- Bytes in pairs.
use Rattle.std.specs.Prelude.{ℕ, List, [], ◌∷◌}

-- bytes 2i and 2i + 1 exchanged; a last one without a pair stays
abbrev pub exchanged : List ℕ → List ℕ
exchanged [] = []
exchanged (x ∷ []) = x ∷ []
exchanged (x ∷ y ∷ rest) = y ∷ x ∷ exchanged rest

-- What the text of Info says first.
use Rattle.std.specs.Prelude.{◌≡◌, ℕ, List, ◌++◌, codes}

-- the first line of the text names the file's ETag
abbrev pub IsOfTag : (tag text : List ℕ) → Type 0
IsOfTag tag text = (facts : List ℕ) × (text ≡ codes "tag " ++ tag ++ codes "\n" ++ facts)

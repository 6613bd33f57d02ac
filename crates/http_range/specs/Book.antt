-- Files that were published, and those that a server offers of them.
use Rattle.std.specs.Prelude.{◌≡◌, ◌≢◌, ◌≤◌, ◌⊎◌, ℕ, IsTrue, if◌then◌else◌, List, [], ◌∷◌, ◌++◌, length, codes, decimal, Option, Some}
use Rattle.std.specs.List.{AllByRecursion, AllPairs, find}
use Rattle.std.specs.Str.{bytes_eq}
use Rattle.http_fields.specs.Names.{is_name}
use Rattle.http_fields.specs.Tag.{is_kept_tag}
use Rattle.http_range.specs.declared.publication.TheConstants.{FILE_LIMIT}

-- one revision of a file: its bytes, and the name and ETag under which it was published
pub record Publication : Type 0 where
  pub name : List ℕ
  pub tag : List ℕ
  pub file : List ℕ

-- name, ETag and file keep the limits; a file has 1 to 67,108,864 bytes
pub record IsPublication (p : Publication) : Type 0 where
  pub named : IsTrue (is_name p.name)
  pub tagged : IsTrue (is_kept_tag p.tag)
  pub some : 1 ≤ length p.file
  pub small : length p.file ≤ FILE_LIMIT

-- ---- books: all publications so far, the newest first

abbrev pub Book : Type 0
Book = List Publication

-- `p` is in the book
abbrev pub In : Publication → Book → Type 0
In p [] = ⊥
In p (q ∷ book) = (p ≡ q) ⊎ In p book

-- all that is in `book` is in `later`, too
abbrev pub Includes : Book → Book → Type 0
Includes later book = (p : Publication) → In p book → In p later

-- no two publications in the book have one ETag, whatever their names
abbrev pub HasDistinctTags : Book → Type 0
HasDistinctTags book = AllPairs (λ p q. p.tag ≢ q.tag) book

-- ---- catalogues: the last publication of each name

abbrev pub Catalogue : Type 0
Catalogue = List Publication

-- each publication keeps the limits
abbrev pub IsCatalogue : Catalogue → Type 0
IsCatalogue catalogue = AllByRecursion IsPublication catalogue

-- the publication under a name
abbrev pub published : List ℕ → Catalogue → Option Publication
published name catalogue = find (λ p. bytes_eq p.name name) catalogue

-- all that the catalogue has is in the book
abbrev pub Covers : Book → Catalogue → Type 0
Covers book catalogue = (name : List ℕ) (p : Publication) → published name catalogue ≡ Some p → In p book

-- the catalogue after `p` is published: `p` replaces the publication of its name, or is added at the end
abbrev pub publish : Publication → Catalogue → Catalogue
publish p [] = p ∷ []
publish p (q ∷ catalogue) = if bytes_eq q.name p.name then p ∷ catalogue else q ∷ publish p catalogue

-- ---- ETags

-- `"E-N"`: the epoch, and the number of the publication in this epoch
unfoldable pub publication_tag : ℕ → ℕ → List ℕ
publication_tag epoch n = codes "\"" ++ decimal epoch ++ codes "-" ++ decimal n ++ codes "\""

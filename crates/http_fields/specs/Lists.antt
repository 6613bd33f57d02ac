-- Lists of entity tags in the value of a field, by the grammar (RFC 9110, sections 5.6.1, 5.6.3 and 8.8.3).
use Rattle.std.specs.Prelude.{◌≡◌, ℕ, Bool, IsTrue, List, ◌++◌, map, All}
use Rattle.std.specs.List.{Any, join_with_byte}
use Rattle.httparse.specs.Grammar.{AllPass, is_ows}
use Rattle.http_fields.specs.Conditional.{is_match, may_be_listed}

-- an element of a list: a member, and the white space before and after it
pub record Element : Type 0 where
  pub before : List ℕ
  pub member : List ℕ
  pub after : List ℕ

abbrev pub element_text : Element → List ℕ
element_text e = e.before ++ e.member ++ e.after

-- the white space is spaces and tabs, and the member is an entity tag or empty
pub record IsElement (e : Element) : Type 0 where
  pub before : AllPass is_ows e.before
  pub member : IsTrue (may_be_listed e.member)
  pub after : AllPass is_ows e.after

-- the value is the elements with commas between them
pub record IsTagList (value : List ℕ) (elements : List Element) : Type 0 where
  pub each : All IsElement elements
  pub joined : value ≡ join_with_byte 44 (map element_text elements)

-- a member of the list matches
abbrev pub HasMatch : Bool → List ℕ → List Element → Type 0
HasMatch strong tag elements = Any (λ e. IsTrue (is_match strong tag e.member)) elements

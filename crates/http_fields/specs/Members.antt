-- Lists in the value of a field (RFC 9110, section 5.6.1), as they are computed. Two laws tie them to the standard. `ListsAreMatched` says
-- which lists of entity tags these are. `MembersStandBetweenCommas` says what the members are where quotes don't count.
use Rattle.std.specs.Prelude.{ℕ, Bool, false, ◌&&◌, ◌==◌, not, if◌then◌else◌, List, [], ◌∷◌, map}
use Rattle.std.specs.List.{list_any, onto_first}
use Rattle.std.specs.Str.{str_eq_ignore_ascii_case}
use Rattle.httparse.specs.Grammar.{trim_ows}

-- The parts between commas. With `quotes`, a comma between two quotes of an entity tag doesn't count. There a backslash is a byte like
-- any other (RFC 9110, section 8.8.3).
abbrev pub parts_from : Bool → Bool → List ℕ → List (List ℕ)
parts_from quotes open_before [] = [] ∷ []
parts_from quotes open_before (b ∷ bytes) =
    if b == 44 && not open_before then [] ∷ parts_from quotes false bytes
    else onto_first b (parts_from quotes (if quotes && b == 34 then not open_before else open_before) bytes)

-- The members of a list, empty ones too, without spaces and tabs before and after them. With `quotes`, a comma between quotes belongs to
-- its member.
unfoldable pub members : Bool → List ℕ → List (List ℕ)
members quotes value = map trim_ows (parts_from quotes false value)

-- a member is this word; case is ignored
abbrev pub has_member : List ℕ → List ℕ → Bool
has_member word value = list_any (λ member. str_eq_ignore_ascii_case member word) (members false value)

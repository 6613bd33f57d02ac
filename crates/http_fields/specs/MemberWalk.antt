-- How the code walks through the members of a list.
use Rattle.std.specs.Prelude.{ℕ, Bool, false, List, [], slice_get, unwrap_or, Option, Some, None}
use Rattle.std.specs.Borrow.{Bor}
use Rattle.http_fields.specs.declared.members.Members.{Members}
use Rattle.http_fields.specs.Members.{members, parts_from}

-- the bytes before the first comma that cuts, or all
abbrev pub first_part : Bool → List ℕ → List ℕ
first_part quotes value = unwrap_or (slice_get (parts_from quotes false value) 0) []

abbrev pub members_of_rest : Bool → Option (Bor (List ℕ)) → List (List ℕ)
members_of_rest quotes None = []
members_of_rest quotes (Some rest) = members quotes rest.now

-- the members that are still to come
abbrev pub members_left : Members → List (List ℕ)
members_left m = members_of_rest m.quotes m.rest

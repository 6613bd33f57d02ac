-- A client's check whether the file is still the one that it reads (RFC 9110, section 13.1.2).
use Rattle.std.specs.Prelude.{◌≡◌, ℕ, if◌then◌else◌, List, Option, Some, None, IsSomeAnd, Result, Ok, Err}
use Rattle.std.specs.Option.{option_map}
use Rattle.std.specs.Str.{bytes_eq}
use Rattle.http_range.specs.declared.reading.Why.{Why}
use Rattle.http_range.specs.Ask.{check_with}
use Rattle.http_range.specs.Book.{Book, published}
use Rattle.http_range.specs.Honest.{IsHonest}
use Rattle.http_range.specs.Piece.{number_of_why}
use Rattle.http_range.specs.Reading.{ReadsCheck}
use Rattle.cog_client.specs.declared.delivered.Current.{Current}
use Rattle.cog_client.specs.declared.delivered.Current.TheVariants.{Same, Other, Unknown}
use Rattle.cog_client.specs.declared.delivered.Unknown as unknown
use Rattle.cog_client.specs.declared.delivered.Unknown.TheVariants.{NotUsed, NoRevision}
use Rattle.cog_client.specs.Client.{ClientState, fields_of, host_of, name_of, tag_of}

-- the numbers of the reasons why the result of a check is unknown
abbrev pub number_of_unknown : unknown.Unknown → ℕ
number_of_unknown (NotUsed w) = number_of_why w
number_of_unknown NoRevision = 12

-- the text of the client's check, if it has a revision
abbrev pub check_of : ClientState → Option (List ℕ)
check_of c = option_map (check_with (host_of c) (name_of c) (fields_of c)) (tag_of c)

-- what the answer to a check says to a client with this ETag, by how the answer is read
abbrev pub current_by : List ℕ → Result (List ℕ) Why → Current
current_by tag (Err w) = Unknown (NotUsed w)
current_by tag (Ok seen) = if bytes_eq tag seen then Same else Other

-- What an answer to the client's check says. Without a revision the result is unknown.
abbrev pub IsCurrent : Option (List ℕ) → List ℕ → Current → Type 0
IsCurrent None text current = current ≡ Unknown NoRevision
IsCurrent (Some tag) text current =
    (reading : Result (List ℕ) Why) × ReadsCheck text reading × (current ≡ current_by tag reading)

-- What holds if an honest answer says "same". It has the ETag of the file of this name. The catalogue that it is of has that file,
-- and the file's ETag is the client's.
abbrev pub IsStillThere : Option (List ℕ) → List ℕ → Type 0
IsStillThere tag text =
    (name : List ℕ) (book : Book) (honest : IsHonest text name book)
    → (honest.response.name ≡ Some name) × IsSomeAnd (published name honest.catalogue) (λ p. tag ≡ Some p.tag)

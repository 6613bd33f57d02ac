-- The conditions If-Match and If-None-Match (RFC 9110, sections 8.8.3.2, 13.1.1 and 13.1.2).
use Rattle.std.specs.Prelude.{ℕ, Bool, true, ◌&&◌, ◌||◌, not, if◌then◌else◌, List, drop, codes}
use Rattle.std.specs.List.{list_all, list_any}
use Rattle.std.specs.Str.{bytes_eq}
use Rattle.httparse.specs.Grammar.{trim_ows}
use Rattle.http_fields.specs.Tag.{is_weak_tag, is_entity_tag}
use Rattle.http_fields.specs.Fields.{is_there}
use Rattle.http_fields.specs.Members.{members}

-- The entity tag `text` matches the strong one `tag`. By the strong comparison both have the same text. By the weak comparison they have
-- the same opaque tag: what follows the `W/` of a weak tag.
abbrev pub is_match : Bool → List ℕ → List ℕ → Bool
is_match strong tag text = bytes_eq (if strong then text else if is_weak_tag text then drop 2 text else text) tag

-- a member of a list of entity tags is an entity tag, or empty
abbrev pub may_be_listed : List ℕ → Bool
may_be_listed member = not (is_there member) || is_entity_tag member

-- A value is `*`, or entity tags between commas of which one matches. A comma between quotes belongs to its entity tag.
abbrev pub any_match : List ℕ → List ℕ → Bool → Bool
any_match value tag strong =
    let tags = members true value in
    bytes_eq (trim_ows value) (codes "*") || (list_all may_be_listed tags && list_any (is_match strong tag) tags)

-- one of several values matches
abbrev pub one_matches : List (List ℕ) → List ℕ → Bool → Bool
one_matches values tag strong = list_any (λ value. any_match value tag strong) values

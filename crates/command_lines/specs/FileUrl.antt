-- What a URL of `http` names (`http://HOST[:PORT]/PATH[?QUERY]`), and why a word names nothing.
use Rattle.std.specs.Prelude.{◌≡◌, ◌≢◌, ◌⊎◌, ◌==◌, false, if◌then◌else◌, nat_lt, List, [], ◌++◌, drop, length, map, take, ℕ, IsTrue, IsSomeAnd, Option, Some, None, Ok, Err, codes, decimal, eqb, option_and_then, option_map, string_bytes, unwrap_or, ⊤}
use Rattle.std.specs.Char.{to_ascii_lowercase}
use Rattle.std.specs.List.{after_first, position_or_len, starts_with}
use Rattle.url.specs.declared.error.ParseError.TheVariants.{Overflow}
use Rattle.url.specs.Host.{host_text}
use Rattle.url.specs.Parser.{parse_url}
use Rattle.url.specs.Parts.{Parts, has_credentials, nonempty_host}
use Rattle.command_lines.specs.declared.urls.FileUrl.{FileUrl}
use Rattle.command_lines.specs.declared.urls.FileUrlError.{FileUrlError}
use Rattle.command_lines.specs.declared.urls.FileUrlError.TheVariants.{NotAUrl, Tls, Scheme, User, NoPath, Target, Memory}

-- the host of a URL, with this port after it, if there is one
abbrev pub host_with : Parts → Option ℕ → List ℕ
host_with url None = unwrap_or (option_map host_text (nonempty_host url)) []
host_with url (Some port) = unwrap_or (option_map host_text (nonempty_host url)) [] ++ codes ":" ++ decimal port

abbrev pub after_path : Option (List ℕ) → List ℕ
after_path None = []
after_path (Some query) = codes "?" ++ query

-- what is asked for: the path, and the query after it (RFC 9112, section 3.2.1)
abbrev pub target_text : Parts → List ℕ
target_text url = url.path ++ after_path url.query

-- the word begins with `front`, in letters of either case
abbrev pub BeginsWith : (front word : List ℕ) → Type 0
BeginsWith front word = map to_ascii_lowercase (take (length front) word) ≡ map to_ascii_lowercase front

-- the word is a URL of the web, whose scheme may have capitals (RFC 3986, section 3.1), and not a server's `HOST:PORT`
abbrev pub IsUrl : List ℕ → Type 0
IsUrl word = BeginsWith (codes "http://") word ⊎ BeginsWith (codes "https://") word

-- what follows the first byte `c` of a text, if the text has one
abbrev pub behind_first : (c : ℕ) → List ℕ → Option (List ℕ)
behind_first c text = if nat_lt (position_or_len (λ b. b == c) text) (length text) then Some (after_first (λ b. b == c) text) else None

-- what follows two slashes, if the text begins with them
abbrev pub behind_slashes : List ℕ → Option (List ℕ)
behind_slashes text = if starts_with eqb text (codes "//") then Some (drop 2 text) else None

-- the name in a URL as it was typed: what follows the first slash after `SCHEME://`
abbrev pub name_typed : List ℕ → Option (List ℕ)
name_typed word = option_and_then (behind_first 47) (option_and_then behind_slashes (behind_first 58 word))

-- path and query of a URL as they were typed
abbrev pub target_typed : List ℕ → Option (List ℕ)
target_typed word = option_map (λ name. codes "/" ++ name) (name_typed word)

-- this is wrong with the parts before the path
abbrev pub IsFrontError : Parts → FileUrlError → Type 0
IsFrontError url Tls = url.scheme ≡ codes "https"
IsFrontError url Scheme = (url.scheme ≢ codes "http") × (url.scheme ≢ codes "https")
IsFrontError url User = (url.scheme ≡ codes "http") × IsTrue (has_credentials url)
IsFrontError url error = ⊥

-- this is wrong with the path and the query as they were typed
abbrev pub IsTypedError : (word target : List ℕ) → FileUrlError → Type 0
IsTypedError word target NoPath = target_typed word ≡ None
IsTypedError word target Target = IsSomeAnd (target_typed word) (λ typed. typed ≢ target)
IsTypedError word target error = ⊥

-- This is wrong with the word. It is no URL (or one of 4 GB), its front is wrong, or path and query aren't as they were typed. Or memory
-- ran out.
abbrev pub IsFileUrlError : List ℕ → FileUrlError → Type 0
IsFileUrlError word Memory = ⊤
IsFileUrlError word (NotAUrl error) = (parse_url None word ≡ Err error) ⊎ (error ≡ Overflow)
IsFileUrlError word NoPath = (url : Parts) × (parse_url None word ≡ Ok url) × (url.scheme ≡ codes "http") × (has_credentials url ≡ false)
    × (target_typed word ≡ None)
IsFileUrlError word Target = (url : Parts) × (parse_url None word ≡ Ok url) × (url.scheme ≡ codes "http") × (has_credentials url ≡ false)
    × IsSomeAnd (target_typed word) (λ typed. typed ≢ target_text url)
IsFileUrlError word error = (url : Parts) × (parse_url None word ≡ Ok url) × IsFrontError url error

-- The word names this. The URL Standard's parser takes it, and it is of `http` without a user's name or a password. It was typed as it is
-- asked for. The server has port 80 if the URL has no port (RFC 9110, section 4.2.1).
pub record Names (word : List ℕ) (named : FileUrl) : Type 0 where
  pub url : Parts
  pub parsed : parse_url None word ≡ Ok url
  pub scheme : url.scheme ≡ codes "http"
  pub open_to_all : has_credentials url ≡ false
  pub server : string_bytes named.server ≡ host_with url (Some (unwrap_or url.port 80))
  pub authority : string_bytes named.authority ≡ host_with url url.port
  pub target : string_bytes named.target ≡ target_text url
  pub typed : target_typed word ≡ Some (target_text url)

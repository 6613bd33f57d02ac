-- The server of one epoch.
use Rattle.std.specs.Prelude.{◌≡◌, ◌≢◌, ◌⊎◌, ℕ, not, ◌&&◌, ◌==◌, nat_lt, nat_le, if◌then◌else◌, List, length, option_map, Option, Some, None, is_none}
use Rattle.http_range.specs.declared.publication.TheConstants.{FILE_LIMIT, NAMES_LIMIT}
use Rattle.http_fields.specs.Names.{is_name}
use Rattle.http_range.specs.Reply.{status_of}
use Rattle.http_range.specs.Seen.{SeenRequest}
use Rattle.http_range.specs.Book.{Catalogue, published}
use Rattle.http_range.specs.Response.{Response, IsAnswer, answer_by, target_name, text_of}
use Rattle.cog_server.specs.declared.error.PublishError.{PublishError}
use Rattle.cog_server.specs.declared.error.PublishError.TheVariants.{Name, Empty, TooLarge, TooManyNames, Exhausted, Memory}
use Rattle.cog_server.specs.declared.server.Answer.{Answer}

-- what callers know of a server
pub record ServerState : Type 0 where
  pub epoch : ℕ
  pub count : ℕ  -- how many publications of the epoch were accepted
  pub catalogue : Catalogue  -- the last publication of each name

-- ---- publications

-- why a file isn't published after `count` publications of the epoch: the first reason that holds
abbrev pub refusal_of : (count : ℕ) → Catalogue → (name file : List ℕ) → Option PublishError
refusal_of count catalogue name file =
    if not (is_name name) then Some Name
    else if length file == 0 then Some Empty
    else if nat_lt FILE_LIMIT (length file) then Some TooLarge
    else if is_none (published name catalogue) && nat_le NAMES_LIMIT (length catalogue) then Some TooManyNames
    else if count == 4294967295 then Some Exhausted
    else None

-- the refusal is this one, or a lack of memory if there is none
abbrev pub IsRefusal : Option PublishError → PublishError → Type 0
IsRefusal refusal e = (refusal ≡ Some e) ⊎ ((refusal ≡ None) × (e ≡ Memory))

-- every other name has the file that it had, and requests for it are answered as before
pub record OthersStay (name : List ℕ) (old new : Catalogue) : Type 0 where
  pub files : (other : List ℕ) → other ≢ name → published other new ≡ published other old
  pub answers : (r : SeenRequest) → target_name r ≢ name → answer_by new (Some r) ≡ answer_by old (Some r)

abbrev pub number_of_refusal : PublishError → ℕ
number_of_refusal Name = 1
number_of_refusal Empty = 2
number_of_refusal TooLarge = 3
number_of_refusal TooManyNames = 4
number_of_refusal Exhausted = 5
number_of_refusal Memory = 6

-- ---- answers

-- the answer that is returned is the one that is to be sent
pub record ShowsAnswer (a : Answer) (s : Response) : Type 0 where
  pub text : a.text.items ≡ text_of s
  pub close : a.close ≡ s.close
  pub name : option_map (λ n. n.items) a.name ≡ s.name
  pub status : a.status ≡ status_of s.reply
  pub body : a.body ≡ length s.body

-- `a` is the answer to this message
pub record IsAnswered (catalogue : Catalogue) (message : List ℕ) (a : Answer) : Type 0 where
  pub response : Response
  pub answers : IsAnswer catalogue message response
  pub shows : ShowsAnswer a response

-- The answer that is prepared.
use Rattle.std.specs.Prelude.{◌≡◌, Bool, ℕ, List, Option, option_copied}
use Rattle.http_range.specs.Book.{Catalogue}
use Rattle.http_range.specs.Response.{Response, answer_by}
use Rattle.http_range.specs.Seen.{SeenRequest, HasRequest}
use Rattle.cog_server.specs.Additions.{asks_first}
use Rattle.cog_server.specs.declared.placed.Prepared.{Prepared}

abbrev pub response_of : Prepared → Response
response_of p = record { reply = p.reply; close = p.close; name = option_copied p.name; body = p.body.now }

-- `p` is the answer of the table to the head at the front of the message, which is a preflight or isn't
pub record IsPrepared (catalogue : Catalogue) (message : List ℕ) (p : Prepared) : Type 0 where
  pub seen : Option SeenRequest
  pub reads : HasRequest message seen
  pub is : response_of p ≡ answer_by catalogue seen
  pub preflight : p.is_preflight ≡ asks_first seen

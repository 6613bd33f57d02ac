-- Transports over which a client gets its report.
use Rattle.std.specs.Prelude.{◌≡◌, ℕ, List, Some}
use Rattle.extents.specs.declared.span.Span.{Span}
use Rattle.http_range.specs.Ask.{CanAsk}
use Rattle.http_range.specs.Book.{Publication}
use Rattle.cog_client.specs.Calls.{request_for}
use Rattle.cog_client.specs.Client.{ClientState, Knows, ahead_of, asked_of, fields_of, host_of, name_of, revision_of, tag_of}
use Rattle.cog_client.specs.Keeps.{AsksFor}
use Rattle.cog_client.specs.Progress.{IsServed}
use Rattle.cog_client.specs.Transport.{Coming}

-- The client has the name of `p`, and asks for the span by this request. If it has the ETag of `p`, what it holds is of the file of `p`.
pub record AsksBy (p : Publication) (c : ClientState) (span : Span) (request : List ℕ) : Type 0 where
  pub named : p.name ≡ name_of c
  pub asked : asked_of c ≡ Some span
  pub asks : AsksFor c (revision_of c) (ahead_of c) span
  pub can : CanAsk (host_of c) (name_of c) (fields_of c) span.first span.last (tag_of c)
  pub text : Some request ≡ request_for c (Some span)
  pub knows : tag_of c ≡ Some p.tag → Knows p.file c

-- Each text that comes of a client's request is read as an answer of `p`. It has all that is asked for, or it is the whole file.
abbrev pub Serves : Coming → Publication → Type 0
Serves answers p = (c : ClientState) (span : Span) (request text : List ℕ) →
    AsksBy p c span request → answers request (Some text) → IsServed c p span text

-- Which byte ranges the clients of a schedule request, and by which exchange a report comes.
use Rattle.std.specs.Prelude.{◌≡◌, ◌⊎◌, ℕ, suc, ◌≤◌, true, List, ◌∷◌, ◌++◌, length, replicate, take, drop, Option, Some, None, IfSome, IsSomeAnd, slice_get}
use Rattle.tiff_dir.specs.declared.query.Query.{Query}
use Rattle.extents.specs.declared.span.Span.{Span}
use Rattle.tiff_dir.specs.Query.{cost}
use Rattle.http_range.specs.Ask.{request_by}
use Rattle.http_range.specs.Book.{Publication, In, published}
use Rattle.cog_client.specs.Take.{first_span}
use Rattle.cog_client.specs.Progress.{IsOfNeeded}
use Rattle.world.specs.declared.event.Event.{Event}
use Rattle.world.specs.declared.event.Event.TheVariants.{Open, Exchange}
use Rattle.world.specs.declared.event.AnsweredRequest.{AnsweredRequest}
use Rattle.world.specs.declared.event.Effect.{Effect}
use Rattle.world.specs.declared.event.Effect.TheVariants as effects
use Rattle.world.specs.declared.event.Entry.{Entry}
use Rattle.world.specs.World.{World, Seen, after_all, client_of, host, start}

-- ---- what is requested

-- the request in an entry, if it has one
abbrev pub asked_in : Effect → Option AnsweredRequest
asked_in (effects.Asked a) = Some a
asked_in (effects.Exchanged a what) = Some a
asked_in effect = None

-- The span that a request may be for. Without a revision (`None`) it is the span of the first 65,536 bytes. With one it is of blocks
-- that the client's query needs. They are of a file in the book that was published under the client's name, with the ETag `tag`.
abbrev pub IsNeededBy : World → Seen → Option (List ℕ) → Span → Type 0
IsNeededBy w s None span = span ≡ first_span
IsNeededBy w s (Some tag) span = (p : Publication)
    × In p w.book × (p.name ≡ s.name) × (p.tag ≡ tag) × IsSomeAnd s.query (λ q. IsOfNeeded p.file q span)

-- The request has the text of its client's request for `a.span`, and this span is needed.
pub record IsNeededIn (w : World) (a : AnsweredRequest) : Type 0 where
  pub seen : Seen
  pub there : slice_get w.clients a.client ≡ Some seen
  pub text : a.request.items ≡ request_by true host seen.name a.span.first a.span.last a.tag
  pub needed : IsNeededBy w seen a.tag a.span

-- If an entry has a request, its span is needed in the world `w`, in which it is made.
abbrev pub IsNeededEntry : World → Event → Entry → Type 0
IsNeededEntry w e n = IfSome (asked_in n.effect) (IsNeededIn w)

-- ---- when a report comes

-- client `i` opens the query `q`, and then only its exchanges follow, `n` of them
abbrev pub stretch : ℕ → Query → ℕ → List Event
stretch i q n = Open i q ∷ replicate n (Exchange i)

-- the entry of one of the events, which is client `i`'s, has a report for the query `q`
abbrev pub HasReport : ℕ → Query → List Event → List Entry → Type 0
HasReport i q (e ∷ es) (n ∷ ns) = ((client_of e ≡ Some i) × IsSomeAnd n.report (λ r. r.query ≡ q)) ⊎ HasReport i q es ns
HasReport i q es ns = ⊥

-- Let the events have such a stretch, and let the catalogue have `p` under the client's name when it begins. Then the log has the
-- client's report by exchange cost + 1. The cost is that of the query for the file of `p`. What the client held before doesn't matter.
abbrev pub AllReport : List Event → List Entry → Type 0
AllReport events entries = (i : ℕ) (q : Query) (n : ℕ) (before later : List Event) (s : Seen) (p : Publication) →
    let w = after_all start before entries in let from = suc (length before) in let most = suc (cost p.file q) in
    events ≡ before ++ stretch i q n ++ later → slice_get w.clients i ≡ Some s → published s.name w.catalogue ≡ Some p →
    most ≤ n → HasReport i q (take most (drop from events)) (take most (drop from entries))

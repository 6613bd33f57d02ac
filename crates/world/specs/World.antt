-- What a schedule makes of the world. Of a client it has the name and the last query alone. Of the log it has only which answers
-- were sent.
use Rattle.std.specs.Prelude.{◌≡◌, ℕ, zero, suc, ◌+◌, ◌↔◌, ⊤, Bool, true, nat_lt, if◌then◌else◌, List, [], ◌∷◌, ◌++◌, codes, Option, Some, None, IfSome, IsSomeAnd, slice_get, option_and_then}
use Rattle.std.specs.Global.{Vec}
use Rattle.std.specs.Option.{option_map, option_map_or, option_to_list}
use Rattle.std.specs.Str.{bytes_eq}
use Rattle.tiff_dir.specs.declared.query.Query.{Query}
use Rattle.http_range.specs.Book.{Publication, Book, Includes, Catalogue, published, publish, publication_tag}
use Rattle.http_range.specs.Honest.{IsHonest}
use Rattle.cog_reader.specs.declared.outcome.Outcome.{Outcome}
use Rattle.cog_reader.specs.declared.outcome.Outcome.TheVariants as outcomes
use Rattle.cog_reader.specs.declared.outcome.Window.{Window}
use Rattle.tile_plan.specs.Samples.{samples_in}
use Rattle.cog_server.specs.declared.error.PublishError.{PublishError}
use Rattle.cog_server.specs.declared.server.Answer.{Answer}
use Rattle.cog_server.specs.Server.{refusal_of}
use Rattle.cog_client.specs.declared.error.ClientError.{ClientError}
use Rattle.cog_client.specs.declared.delivered.Current.TheVariants.{Same}
use Rattle.cog_client.specs.declared.report.Report.{Report}
use Rattle.cog_client.specs.Report.{IsTrueReport, said_of}
use Rattle.cog_client.specs.Client.{ClientState, IsOfBook, client_refusal}
use Rattle.world.specs.declared.event.Event.{Event}
use Rattle.world.specs.declared.event.Event.TheVariants.{Publish, Epoch, NewClient, Open, Forget, AskFrom, Deliver, Exchange, Check}
use Rattle.world.specs.declared.event.AnsweredCheck.{AnsweredCheck}
use Rattle.world.specs.declared.event.Effect.{Effect}
use Rattle.world.specs.declared.event.Effect.TheVariants as effects
use Rattle.world.specs.declared.event.Entry.{Entry}

-- a client, by the name that it was made with, and the query of its last opening
pub record Seen : Type 0 where
  pub name : List ℕ
  pub query : Option Query

pub record World : Type 0 where
  pub epoch : ℕ
  pub count : ℕ  -- the accepted publications of the epoch
  pub catalogue : Catalogue  -- the last publication of each name in the epoch
  pub book : Book  -- all publications of all epochs
  pub sent : List Answer  -- the answers that were ever sent
  pub clients : List Seen

-- a world begins in epoch 0, without files
abbrev pub start : World
start = record { epoch = 0; count = 0; catalogue = []; book = []; sent = []; clients = [] }

-- the host of every client
abbrev pub host : List ℕ
host = codes "cog.test"

-- the publication, if it is accepted; its ETag has the epoch, and its number among the epoch's publications
abbrev pub next_of : World → List ℕ → List ℕ → Publication
next_of w name file = record { name = name; tag = publication_tag w.epoch (w.count + 1); file = file }

abbrev pub publish_by : World → Publication → Option PublishError → World
publish_by w p None = record w { count = w.count + 1; catalogue = publish p w.catalogue; book = p ∷ w.book }
publish_by w p (Some refusal) = w

-- a client is made, or refused
abbrev pub made_by : World → List ℕ → Option ClientError → World
made_by w name None = record w { clients = w.clients ++ record { name = name; query = None } ∷ [] }
made_by w name (Some refusal) = w

-- client `i` is asked the query `q`, if there is such a client
abbrev pub opened : List Seen → ℕ → Query → List Seen
opened [] i q = []
opened (s ∷ ss) zero q = record s { query = Some q } ∷ ss
opened (s ∷ ss) (suc i) q = s ∷ opened ss i q

-- What an event makes of the world, whatever is answered. Only a greater epoch changes the epoch, and its server has no files.
abbrev pub scheduled : World → Event → World
scheduled w (Publish name file) = publish_by w (next_of w name.items file.items) (refusal_of w.count w.catalogue name.items file.items)
scheduled w (Epoch e) = if nat_lt w.epoch e then record w { epoch = e; count = 0; catalogue = [] } else w
scheduled w (NewClient name blocks) = made_by w name.items (client_refusal host name.items blocks)
scheduled w (Open i q) = record w { clients = opened w.clients i q }
scheduled w e = w

-- the answer that was sent in an event, if one was
abbrev pub answer_in : Effect → Option Answer
answer_in (effects.Answered number answer) = Some answer
answer_in (effects.Asked a) = Some a.answer
answer_in (effects.Exchanged a what) = Some a.answer
answer_in (effects.Checked k) = Some k.answer
answer_in effect = None

-- The world after an event. An answer that was sent is kept, whoever asked for it.
abbrev pub after : World → Event → Effect → World
after w e effect = record (scheduled w e) { sent = w.sent ++ option_to_list (answer_in effect) }

abbrev pub after_all : World → List Event → List Entry → World
after_all w [] ns = w
after_all w (e ∷ es) [] = w
after_all w (e ∷ es) (n ∷ ns) = after_all (after w e n.effect) es ns

-- There is an entry for each event, and `P` holds at each event, with the world before it and its entry.
abbrev pub AtEach : (World → Event → Entry → Type 0) → World → List Event → List Entry → Type 0
AtEach P w [] [] = Unit {0}
AtEach P w (e ∷ es) (n ∷ ns) = P w e n × AtEach P (after w e n.effect) es ns
AtEach P w es ns = ⊥

-- ---- what is reported

-- the client that an event names, if it names one
abbrev pub client_of : Event → Option ℕ
client_of (Open i q) = Some i
client_of (Forget i) = Some i
client_of (AskFrom i) = Some i
client_of (Deliver i a cut) = Some i
client_of (Exchange i) = Some i
client_of (Check i) = Some i
client_of e = None

-- The client is there, and the report is true of what is published, for the client's name and last query.
abbrev pub IsTrueAt : World → Option ℕ → Report → Type 0
IsTrueAt w client r = IsSomeAnd (option_and_then (slice_get w.clients) client) (λ s. IsTrueReport r s.name s.query w.book)

-- The report of an entry, if there is one, is true of what is published after the event.
abbrev pub IsTrueEntry : World → Event → Entry → Type 0
IsTrueEntry w e n = IfSome n.report (IsTrueAt (after w e n.effect) (client_of e))

abbrev pub IsToldIn : Report → List Entry → Type 0
IsToldIn r ns = (i : ℕ) × IsSomeAnd (slice_get ns i) (λ n. n.report ≡ Some r)

-- the width and height, the samples of a pixel, the bits of a sample, and all samples
abbrev pub shown : Window → ℕ × ℕ × ℕ × ℕ × List ℕ
shown v = (v.w, v.h, v.samples, v.bits, samples_in v.bits v.pixels.items)

-- Both are equal windows. Or both have the same levels, keys and geo fields. Or both are faults.
abbrev pub SayTheSame : Outcome → Outcome → Type 0
SayTheSame (outcomes.Window a) (outcomes.Window b) = shown a ≡ shown b
SayTheSame (outcomes.Fault fault) (outcomes.Fault other) = ⊤
SayTheSame a b = said_of a ≡ said_of b

-- Reports of one ETag for one query say the same.
abbrev pub AreAlike : List Entry → Type 0
AreAlike ns = (r s : Report) → IsToldIn r ns → IsToldIn s ns → r.tag ≡ s.tag → r.query ≡ s.query → SayTheSame r.outcome s.outcome

-- ---- which answers are kept, and what checks say

-- the answer has the ETag of the file of this name, or no ETag
abbrev pub is_for : Answer → List ℕ → Bool
is_for a name = option_map_or (λ (other : Vec ℕ). bytes_eq other.items name) a.name true

-- the answer is honest for each name that it is for, in this book and in every later one
abbrev pub StaysHonest : Answer → Book → Type 0
StaysHonest a book =
    (name : List ℕ) (later : Book) → is_for a name ≡ true → Includes later book → IsHonest a.text.items name later

-- The answer that was sent in an event, if one was, is honest, whatever is published later.
abbrev pub IsHonestEntry : World → Event → Entry → Type 0
IsHonestEntry w e n = IfSome (answer_in n.effect) (λ a. StaysHonest a w.book)

-- Each client that has a revision is of one publication of the book.
abbrev pub AreOfBook : List ClientState → Book → Type 0
AreOfBook clients book = (i : ℕ) → IfSome (slice_get clients i) (λ c. IsOfBook c book)

-- the check of an entry
abbrev pub check_in : Effect → Option AnsweredCheck
check_in (effects.Checked k) = Some k
check_in effect = None

-- The check of an entry says "same" exactly where the catalogue that answered it has the ETag under the client's name.
abbrev pub IsExactEntry : World → Event → Entry → Type 0
IsExactEntry w e n = IfSome (check_in n.effect) (λ k. IsSomeAnd (slice_get w.clients k.client) (λ s.
    (k.current ≡ Same) ↔ (option_map (λ p. p.tag) (published s.name w.catalogue) ≡ Some k.tag)))

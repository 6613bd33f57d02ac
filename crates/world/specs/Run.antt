-- What each event of a run does to the clients, and what is logged of it, by the contracts of the calls.
use Rattle.std.specs.Prelude.{◌≡◌, ◌⊎◌, ℕ, ◌^◌, ◌<◌, nat_lt, if◌then◌else◌, List, [], ◌∷◌, ◌++◌, length, take, Option, Some, None, IfSome, is_some, option_and_then, slice_get, slice_set}
use Rattle.std.specs.Option.{option_map, option_map_or}
use Rattle.http_range.specs.Ask.{check_with}
use Rattle.http_range.specs.Book.{Catalogue, HasDistinctTags}
use Rattle.cog_server.specs.declared.error.PublishError.{PublishError}
use Rattle.cog_server.specs.declared.server.Answer.{Answer}
use Rattle.cog_server.specs.Server.{IsAnswered, refusal_of}
use Rattle.cog_client.specs.declared.error.ClientError.{ClientError}
use Rattle.cog_client.specs.declared.delivered.Delivered.{Delivered}
use Rattle.cog_client.specs.Report.{Told, told}
use Rattle.cog_client.specs.Client.{ClientState, client_refusal, fields_of, host_of, name_of, query_of, asked_of, tag_of, report_of}
use Rattle.cog_client.specs.Calls.{Starts, Opens, Forgets, Requests, Delivers}
use Rattle.cog_client.specs.Check.{IsCurrent}
use Rattle.world.specs.declared.event.Event.{Event}
use Rattle.world.specs.declared.event.Event.TheVariants.{Publish, Epoch, NewClient, Open, Forget, Ask, AskFrom, Deliver, Exchange, Check}
use Rattle.world.specs.declared.event.AnsweredRequest.{AnsweredRequest}
use Rattle.world.specs.declared.event.AnsweredCheck.{AnsweredCheck}
use Rattle.world.specs.declared.event.Effect.{Effect}
use Rattle.world.specs.declared.event.Effect.TheVariants as effects
use Rattle.world.specs.declared.event.Entry.{Entry}
use Rattle.world.specs.World.{World, Seen, host, start, is_for, next_of, after, after_all, client_of, AtEach, IsTrueEntry, IsExactEntry, IsHonestEntry, AreAlike, AreOfBook}
use Rattle.world.specs.Progress.{IsNeededEntry, AllReport}

abbrev pub seen : ClientState → Seen
seen c = record { name = name_of c; query = query_of c }

-- the report of an entry, if it has one, by its ETag, its query and what it says
abbrev pub told_of : Entry → Option Told
told_of n = option_map told n.report

-- the event has this effect and no report, and the clients stay as they are
pub record Quiet (n : Entry) (effect : Effect) (clients new : List ClientState) : Type 0 where
  pub done : n.effect ≡ effect
  pub report : told_of n ≡ None
  pub same : new ≡ clients

-- the report that a client has after a call, if it had none before it
abbrev pub news : ClientState → ClientState → Option Told
news old new = if is_some (report_of old) then None else option_map told (report_of new)

-- client `i` changes as `R` says, the entry has the client's new report, if there is one, and the other clients stay
pub record Changes (R : ClientState → ClientState → Type 0) (i : ℕ) (c : ClientState) (n : Entry) (old new : List ClientState) : Type 0 where
  pub next : ClientState
  pub changed : new ≡ slice_set old i next
  pub does : R c next
  pub tells : told_of n ≡ news c next

-- the client's call; without such a client the event is skipped
abbrev pub AtClient : Option ClientState → (ClientState → ClientState → Type 0) → ℕ → Entry → List ClientState → List ClientState → Type 0
AtClient None R i n old new = Quiet n effects.Skipped old new
AtClient (Some c) R i n old new = Changes R i c n old new

-- ---- the events

-- a file is published, or refused
abbrev pub publish_effect : List ℕ → Option PublishError → Effect
publish_effect tag None = effects.Published tag
publish_effect tag (Some refusal) = effects.Refused refusal

-- a client is made, or refused
abbrev pub MakesBy : Option ClientError → List ℕ → ℕ → Entry → List ClientState → List ClientState → Type 0
MakesBy None name blocks n old new =
    (made : ClientState) × Starts host name blocks made × Quiet n (effects.Made (length old)) (old ++ made ∷ []) new
MakesBy (Some refusal) name blocks n old new = Quiet n effects.Skipped old new

-- what is logged of a client's request that is answered from the catalogue
pub record IsAnswerTo (catalogue : Catalogue) (sent i : ℕ) (c : ClientState) (a : AnsweredRequest) : Type 0 where
  pub client : a.client ≡ i
  pub number : a.number ≡ sent
  pub span : asked_of c ≡ Some a.span
  pub tag : a.tag ≡ tag_of c
  pub answered : IsAnswered catalogue a.request.items a.answer

-- a client makes its request, if it has one, and the server answers it
pub record Asks (catalogue : Catalogue) (sent i : ℕ) (asked : Option AnsweredRequest) (c next : ClientState) : Type 0 where
  pub requests : Requests c (option_map (λ a. a.request.items) asked) next
  pub answered : IfSome asked (IsAnswerTo catalogue sent i next)

-- the effect of a request whose answer is only kept
abbrev pub asked_effect : ℕ → Option AnsweredRequest → Effect
asked_effect i None = effects.Nothing i
asked_effect i (Some a) = effects.Asked a

abbrev pub AsksWith : Catalogue → ℕ → ℕ → Effect → ClientState → ClientState → Type 0
AsksWith catalogue sent i effect c next =
    (asked : Option AnsweredRequest) × Asks catalogue sent i asked c next × (effect ≡ asked_effect i asked)

-- the answer is delivered to the client, whole and at once
abbrev pub IsExchanged : ℕ → Option AnsweredRequest → Effect → ClientState → ClientState → Type 0
IsExchanged i None effect mid next = (effect ≡ effects.Nothing i) × (next ≡ mid)
IsExchanged i (Some a) effect mid next =
    (what : Delivered) × (effect ≡ effects.Exchanged a what) × Delivers mid a.answer.text.items what next

abbrev pub ExchangesWith : Catalogue → ℕ → ℕ → Effect → ClientState → ClientState → Type 0
ExchangesWith catalogue sent i effect c next =
    (asked : Option AnsweredRequest) × (mid : ClientState) × Asks catalogue sent i asked c mid × IsExchanged i asked effect mid next

-- the client that gets a kept answer: `client`, unless there is no such answer, or it is for another name
abbrev pub receiver : Option Answer → Option ClientState → Option ClientState
receiver None client = None
receiver (Some a) client = option_and_then (λ c. if is_for a (name_of c) then Some c else None) client

-- the text that the client gets: the first `n` bytes, or all
abbrev pub cut_at : Option ℕ → List ℕ → List ℕ
cut_at None text = text
cut_at (Some n) text = take n text

abbrev pub DeliversWith : List ℕ → ℕ → Effect → ClientState → ClientState → Type 0
DeliversWith text i effect c next = (what : Delivered) × (effect ≡ effects.Delivered i what) × Delivers c text what next

-- what is logged of a client's check that is answered from the catalogue
pub record IsCheckOf (catalogue : Catalogue) (sent i : ℕ) (c : ClientState) (k : AnsweredCheck) : Type 0 where
  pub client : k.client ≡ i
  pub number : k.number ≡ sent
  pub tag : tag_of c ≡ Some k.tag
  pub text : k.request.items ≡ check_with (host_of c) (name_of c) (fields_of c) k.tag
  pub answered : IsAnswered catalogue k.request.items k.answer
  pub current : IsCurrent (Some k.tag) k.answer.text.items k.current

-- what is logged of a check: its request and answer, or, if the client has no revision, that there is none
abbrev pub IsChecked : Catalogue → ℕ → ℕ → ClientState → Effect → Type 0
IsChecked catalogue sent i c (effects.Checked k) = IsCheckOf catalogue sent i c k
IsChecked catalogue sent i c effect = (effect ≡ effects.Unchecked i) × (tag_of c ≡ None)

-- What one event does: `n` is logged of it, and the clients `old` become the clients `new`.
abbrev pub Step : World → List ClientState → Event → Entry → List ClientState → Type 0
Step w old (Publish name file) n new =
    Quiet n (publish_effect (next_of w name.items file.items).tag (refusal_of w.count w.catalogue name.items file.items)) old new
Step w old (Epoch e) n new = (e < 2 ^ 32) × Quiet n (if nat_lt w.epoch e then effects.Epoch e else effects.Skipped) old new
Step w old (NewClient name blocks) n new = MakesBy (client_refusal host name.items blocks) name.items blocks n old new
Step w old (Open i q) n new = AtClient (slice_get old i) (λ c next. (n.effect ≡ effects.Opened i) × Opens q c next) i n old new
Step w old (Forget i) n new = AtClient (slice_get old i) (λ c next. (n.effect ≡ effects.Forgot i) × Forgets c next) i n old new
Step w old (Ask message) n new =
    (answer : Answer) × IsAnswered w.catalogue message.items answer × Quiet n (effects.Answered (length w.sent) answer) old new
Step w old (AskFrom i) n new = AtClient (slice_get old i) (AsksWith w.catalogue (length w.sent) i n.effect) i n old new
Step w old (Deliver i k cut) n new =
    let text = cut_at cut (option_map_or (λ (a : Answer). a.text.items) (slice_get w.sent k) []) in
    AtClient (receiver (slice_get w.sent k) (slice_get old i)) (DeliversWith text i n.effect) i n old new
Step w old (Exchange i) n new = AtClient (slice_get old i) (ExchangesWith w.catalogue (length w.sent) i n.effect) i n old new
Step w old (Check i) n new =
    AtClient (slice_get old i) (λ c next. (next ≡ c) × IsChecked w.catalogue (length w.sent) i c n.effect) i n old new

-- The log has an entry for each event, in order, and each entry is what `Step` says. The clients are `old` before the run
-- and `new` after it.
abbrev pub Runs : World → List ClientState → List Event → List Entry → List ClientState → Type 0
Runs w old [] [] new = new ≡ old
Runs w old (e ∷ es) (n ∷ ns) new = (mid : List ClientState) × Step w old e n mid × Runs (after w e n.effect) mid es ns new
Runs w old es ns new = ⊥

-- What holds of every log. It has an entry for each event, and its reports are true. Reports of one ETag and one query say the same.
-- What is requested is needed, and reports come in time. Checks say what the catalogue has. No two publications have one ETag.
-- The answers are honest. Each client that has a revision has that of one publication.
pub record IsTrueLog (events : List Event) (entries : List Entry) (left : List ClientState) : Type 0 where
  pub whole : length entries ≡ length events
  pub true_reports : AtEach IsTrueEntry start events entries
  pub alike : AreAlike entries
  pub needed : AtEach IsNeededEntry start events entries
  pub progress : AllReport events entries
  pub checked : AtEach IsExactEntry start events entries
  pub distinct : HasDistinctTags (after_all start events entries).book
  pub honest : AtEach IsHonestEntry start events entries
  pub clients : AreOfBook left (after_all start events entries).book

-- no client changed but client `i`, if one is named
abbrev pub LeavesOthers : Option ℕ → List ClientState → List ClientState → Type 0
LeavesOthers None old new = new ≡ old
LeavesOthers (Some i) old new = (new ≡ old) ⊎ ((next : ClientState) × (new ≡ slice_set old i next))

-- An event that isn't logged was done. Or it was cut off, and no client changed but its own.
abbrev pub IsCutOff : World → List ClientState → Event → List ClientState → Type 0
IsCutOff w old e new = ((n : Entry) × Step w old e n new) ⊎ LeavesOthers (client_of e) old new

-- The log is that of the first `count` events, and all that is said of a whole log holds of it. The clients `left` are those after
-- these events, but for what the next event did before it was cut off.
pub record IsBeginning (events : List Event) (entries : List Entry) (left : List ClientState) : Type 0 where
  pub count : ℕ
  pub clients : List ClientState
  pub logged : Runs start [] (take count events) entries clients
  pub truth : IsTrueLog (take count events) entries clients
  pub event : Event
  pub next : slice_get events count ≡ Some event
  pub cut_off : IsCutOff (after_all start (take count events) entries) clients event left

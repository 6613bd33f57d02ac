-- What only the steps of the code and their proofs need. This is what a call keeps of the file that the client knows, and how the
-- code holds the world.
use Rattle.std.specs.Prelude.{◌≡◌, ℕ, ◌+◌, ◌^◌, ◌<◌, ◌⊎◌, ⊤, nat_lt, if◌then◌else◌, List, [], ◌∷◌, ◌++◌, length, Option, Some, None, IfSome, slice_get, slice_set, take, option_and_then}
use Rattle.std.specs.Option.{option_map}
use Rattle.std.specs.Bool.{MatchBool}
use Rattle.tiff_dir.specs.declared.query.Query.{Query}
use Rattle.http_range.specs.Ask.{CanCheck}
use Rattle.http_range.specs.Book.{Publication, Book, Catalogue, HasDistinctTags, publish, publication_tag}
use Rattle.http_range.specs.Honest.{IsFront, IsPieceOfBook, IsReadAs}
use Rattle.cog_server.specs.declared.error.PublishError.{PublishError}
use Rattle.cog_server.specs.declared.server.Answer.{Answer}
use Rattle.cog_server.specs.Server.{IsAnswered, ServerState, refusal_of}
use Rattle.cog_client.specs.declared.delivered.Delivered.{Delivered}
use Rattle.cog_client.specs.Report.{IsTrueReport}
use Rattle.cog_client.specs.Client.{ClientAgrees, ClientState, fields_of, host_of, name_of, query_of, report_of, tag_of}
use Rattle.cog_client.specs.Calls.{Forgets}
use Rattle.cog_client.specs.Keeps.{DeliversKeeping, OpensKeeping, RequestsKeeping}
use Rattle.world.specs.declared.calls.Call.{Call}
use Rattle.world.specs.declared.calls.Call.TheVariants as calls
use Rattle.world.specs.declared.event.Event.{Event}
use Rattle.world.specs.declared.event.Event.TheVariants.{Open, Forget, Ask, AskFrom, Deliver, Exchange, Check}
use Rattle.world.specs.declared.event.AnsweredCheck.{AnsweredCheck}
use Rattle.world.specs.declared.event.AnsweredRequest.{AnsweredRequest}
use Rattle.world.specs.declared.event.Effect.{Effect}
use Rattle.world.specs.declared.event.Effect.TheVariants as effects
use Rattle.world.specs.declared.event.Entry.{Entry}
use Rattle.world.specs.World.{World, after, after_all, answer_in, start}
use Rattle.world.specs.Run.{Asks, AsksWith, AtClient, DeliversWith, ExchangesWith, IsCheckOf, Quiet, Step, cut_at, publish_effect, receiver, told_of}

-- ---- what the calls keep

-- the client's report, if it has one, is true for each book that the client agrees with
abbrev pub StandsTrue : ClientState → Type 0
StandsTrue c = (book : Book) → ClientAgrees c book → IfSome (report_of c) (λ r. IsTrueReport r (name_of c) (query_of c) book)

-- a client's call, as `R` says; the report after it is true as above
pub record Keeping (R : ClientState → ClientState → Type 0) (c next : ClientState) : Type 0 where
  pub does : R c next
  pub stands : StandsTrue next

pub record OpensWithKeeping (query : Query) (i : ℕ) (effect : Effect) (c next : ClientState) : Type 0 where
  pub done : effect ≡ effects.Opened i
  pub opens : OpensKeeping query c next

pub record ForgetsAll (i : ℕ) (effect : Effect) (c next : ClientState) : Type 0 where
  pub done : effect ≡ effects.Forgot i
  pub forgets : Forgets c next

-- the text of a client's request, if it made one
abbrev pub request_in : Option AnsweredRequest → Option (List ℕ)
request_in asked = option_map (λ a. a.request.items) asked

pub record AsksWithKeeping (catalogue : Catalogue) (sent i : ℕ) (effect : Effect) (c next : ClientState) : Type 0 where
  pub seen : AsksWith catalogue sent i effect c next
  pub requests : RequestsKeeping c (request_in seen.0) next

abbrev pub IsDeliveredKeeping : Option AnsweredRequest → ClientState → ClientState → Type 0
IsDeliveredKeeping None mid next = ⊤
IsDeliveredKeeping (Some a) mid next = (what : Delivered) × DeliversKeeping mid a.answer.text.items what next

pub record ExchangesWithKeeping (catalogue : Catalogue) (sent i : ℕ) (effect : Effect) (c next : ClientState) : Type 0 where
  pub seen : ExchangesWith catalogue sent i effect c next
  pub requests : RequestsKeeping c (request_in seen.0) seen.1
  pub delivers : IsDeliveredKeeping seen.0 seen.1 next

pub record DeliversWithKeeping (text : List ℕ) (i : ℕ) (effect : Effect) (c next : ClientState) : Type 0 where
  pub seen : DeliversWith text i effect c next
  pub delivers : DeliversKeeping c text seen.0 next

-- what a client does in an event, by the call that the event makes
abbrev pub CallsWith : Catalogue → ℕ → ℕ → Call → Effect → ClientState → ClientState → Type 0
CallsWith catalogue sent i (calls.Open query) effect c next = OpensWithKeeping query i effect c next
CallsWith catalogue sent i calls.Forget effect c next = ForgetsAll i effect c next
CallsWith catalogue sent i calls.AskFrom effect c next = AsksWithKeeping catalogue sent i effect c next
CallsWith catalogue sent i calls.Exchange effect c next = ExchangesWithKeeping catalogue sent i effect c next
CallsWith catalogue sent i (calls.Deliver text) effect c next = DeliversWithKeeping text.now i effect c next

abbrev pub IsDeliveryKeeping : Option Answer → Option ClientState → Option ℕ → ℕ → Entry → List ClientState → List ClientState → Type 0
IsDeliveryKeeping None client cut i n old new = Quiet n effects.Skipped old new
IsDeliveryKeeping (Some a) client cut i n old new =
    AtClient (receiver (Some a) client) (Keeping (DeliversWithKeeping (cut_at cut a.text.items) i n.effect)) i n old new

-- a client's check that may be made, as `CanCheck` says
pub record IsCheckOfKeeping (catalogue : Catalogue) (sent i : ℕ) (c : ClientState) (k : AnsweredCheck) : Type 0 where
  pub seen : IsCheckOf catalogue sent i c k
  pub lawful : CanCheck (host_of c) (name_of c) (fields_of c) k.tag

abbrev pub IsCheckedKeeping : Catalogue → ℕ → ℕ → ClientState → Option AnsweredCheck → Effect → Type 0
IsCheckedKeeping catalogue sent i c None effect = (effect ≡ effects.Unchecked i) × (tag_of c ≡ None)
IsCheckedKeeping catalogue sent i c (Some k) effect = (effect ≡ effects.Checked k) × IsCheckOfKeeping catalogue sent i c k

-- The client's check is answered, if it has one. Without such a client the event is skipped. No client changes.
abbrev pub IsCheckBy : Option ClientState → Catalogue → ℕ → ℕ → Entry → List ClientState → List ClientState → Type 0
IsCheckBy None catalogue sent i n old new = Quiet n effects.Skipped old new
IsCheckBy (Some c) catalogue sent i n old new =
    (check : Option AnsweredCheck) × IsCheckedKeeping catalogue sent i c check n.effect × Quiet n n.effect old new

-- a message is answered from the catalogue, and no report is logged
pub record Answers (catalogue : Catalogue) (sent : ℕ) (message : List ℕ) (n : Entry) : Type 0 where
  pub answer : Answer
  pub done : n.effect ≡ effects.Answered sent answer
  pub report : told_of n ≡ None
  pub answered : IsAnswered catalogue message answer

-- one event, and then all events of a run, with what the calls keep
abbrev pub StepKeeping : World → List ClientState → Event → Entry → List ClientState → Type 0
StepKeeping w old (Open i q) n new = AtClient (slice_get old i) (Keeping (OpensWithKeeping q i n.effect)) i n old new
StepKeeping w old (Forget i) n new = AtClient (slice_get old i) (Keeping (ForgetsAll i n.effect)) i n old new
StepKeeping w old (AskFrom i) n new = AtClient (slice_get old i) (Keeping (AsksWithKeeping w.catalogue (length w.sent) i n.effect)) i n old new
StepKeeping w old (Ask message) n new = Answers w.catalogue (length w.sent) message.items n × (new ≡ old)
StepKeeping w old (Deliver i a cut) n new = IsDeliveryKeeping (slice_get w.sent a) (slice_get old i) cut i n old new
StepKeeping w old (Exchange i) n new = AtClient (slice_get old i) (Keeping (ExchangesWithKeeping w.catalogue (length w.sent) i n.effect)) i n old new
StepKeeping w old (Check i) n new = IsCheckBy (slice_get old i) w.catalogue (length w.sent) i n old new
StepKeeping w old e n new = Step w old e n new

abbrev pub RunsKeeping : World → List ClientState → List Event → List Entry → List ClientState → Type 0
RunsKeeping w old [] [] new = new ≡ old
RunsKeeping w old [] (n ∷ ns) new = ⊥
RunsKeeping w old (e ∷ es) [] new = ⊥
RunsKeeping w old (e ∷ es) (n ∷ ns) new = (mid : List ClientState) × StepKeeping w old e n mid × RunsKeeping (after w e n.effect) mid es ns new

-- ---- out of memory

-- The client still agrees with each book of distinct ETags that it agreed with. This holds if each text that it may have been given
-- is read as a piece of this book under the client's name.
abbrev pub StillAgrees : (List ℕ → Type 0) → ClientState → ClientState → Type 0
StillAgrees Given c next = (book : Book) → HasDistinctTags book → ClientAgrees c book
    → ((text : List ℕ) → Given text → IsReadAs (IsPieceOfBook (name_of c) book) text) → ClientAgrees next book

-- the texts that a client may have been given, by the call that was cut off
abbrev pub IsGiven : Catalogue → ℕ → ℕ → Call → ClientState → List ℕ → Type 0
IsGiven catalogue sent i calls.Exchange c text = (a : AnsweredRequest) × (mid : ClientState)
    × Asks catalogue sent i (Some a) c mid × RequestsKeeping c (Some a.request.items) mid × IsFront text a.answer.text.items
IsGiven catalogue sent i (calls.Deliver whole) c text = IsFront text whole.now
IsGiven catalogue sent i call c text = ⊥

-- a call of client `i` was cut off, and the other clients stay
abbrev pub StopsAt : Option ClientState → (ClientState → List ℕ → Type 0) → ℕ → List ClientState → List ClientState → Type 0
StopsAt None Given i old new = new ≡ old
StopsAt (Some c) Given i old new = (next : ClientState) × (new ≡ slice_set old i next) × StillAgrees (Given c) c next

abbrev pub StopsDelivering : Option Answer → Option ClientState → Option ℕ → ℕ → List ClientState → List ClientState → Type 0
StopsDelivering None client cut i old new = new ≡ old
StopsDelivering (Some a) client cut i old new =
    StopsAt (receiver (Some a) client) (λ c text. IsFront text (cut_at cut a.text.items)) i old new

-- an event was cut off
abbrev pub StopsStep : World → List ClientState → Event → List ClientState → Type 0
StopsStep w old (Open i q) new = StopsAt (slice_get old i) (λ c text. ⊥) i old new
StopsStep w old (Forget i) new = StopsAt (slice_get old i) (λ c text. ⊥) i old new
StopsStep w old (AskFrom i) new = StopsAt (slice_get old i) (λ c text. ⊥) i old new
StopsStep w old (Exchange i) new = StopsAt (slice_get old i) (IsGiven w.catalogue (length w.sent) i calls.Exchange) i old new
StopsStep w old (Deliver i k cut) new = StopsDelivering (slice_get w.sent k) (slice_get old i) cut i old new
StopsStep w old e new = new ≡ old

-- an event that isn't logged was done, or it was cut off
abbrev pub IsDoneOrLeft : World → List ClientState → Event → List ClientState → Type 0
IsDoneOrLeft w old e new = ((n : Entry) × StepKeeping w old e n new) ⊎ StopsStep w old e new

-- A run was cut off. The clients `left` are what the first `count` events made of them, and what the next one did, which isn't logged.
pub record StopsWithin (events : List Event) (entries : List Entry) (left : List ClientState) : Type 0 where
  pub count : ℕ
  pub clients : List ClientState
  pub runs : RunsKeeping start [] (take count events) entries clients
  pub event : Event
  pub next : slice_get events count ≡ Some event
  pub stops : IsDoneOrLeft (after_all start (take count events) entries) clients event left

-- each client agrees with the book in all that it holds
abbrev pub AllAgree : List ClientState → Book → Type 0
AllAgree clients book = (i : ℕ) → IfSome (slice_get clients i) (λ c. ClientAgrees c book)

-- ---- the server

-- the state of the world's server
abbrev pub server_of : World → ServerState
server_of w = record { epoch = w.epoch; count = w.count; catalogue = w.catalogue }

-- why the world's server refuses a file, if it does
abbrev pub refused_at : World → List ℕ → List ℕ → Option PublishError
refused_at w name file = refusal_of w.count w.catalogue name file

-- the server has published `p`, or it refused and has not changed
abbrev pub IsAtAfter : Option PublishError → Publication → ServerState → ServerState → Type 0
IsAtAfter None p old new = new ≡ record { epoch = old.epoch; count = old.count + 1; catalogue = publish p old.catalogue }
IsAtAfter (Some refusal) p old new = new ≡ old

pub record Publishes (name file : List ℕ) (n : Entry) (old new : ServerState) : Type 0 where
  pub done : n.effect ≡ publish_effect (publication_tag old.epoch (old.count + 1)) (refusal_of old.count old.catalogue name file)
  pub report : told_of n ≡ None
  pub server_at : IsAtAfter (refusal_of old.count old.catalogue name file)
      (record { name = name; tag = publication_tag old.epoch (old.count + 1); file = file }) old new

pub record Restarts (epoch : ℕ) (n : Entry) (old new : ServerState) : Type 0 where
  pub done : n.effect ≡ (if nat_lt old.epoch epoch then effects.Epoch epoch else effects.Skipped)
  pub report : told_of n ≡ None
  pub small : epoch < 2 ^ 32
  pub server_at : MatchBool (nat_lt old.epoch epoch) (new ≡ record { epoch = epoch; count = 0; catalogue = [] }) (new ≡ old)

-- ---- the entries that have the answers

-- the answer in the entry at a place, if it has one
abbrev pub answer_at : List Entry → ℕ → Option Answer
answer_at entries place = option_and_then (λ n. answer_in n.effect) (slice_get entries place)

-- the entries at these places have these answers, in this order
abbrev pub AreKept : List Entry → List ℕ → List Answer → Type 0
AreKept entries [] [] = Unit {0}
AreKept entries (p ∷ ps) [] = ⊥
AreKept entries [] (a ∷ sent) = ⊥
AreKept entries (p ∷ ps) (a ∷ sent) = (answer_at entries p ≡ Some a) × AreKept entries ps sent

-- the places, with `place` added if an effect there has an answer
abbrev pub noted : Option Answer → ℕ → List ℕ → List ℕ
noted None place places = places
noted (Some a) place places = places ++ place ∷ []

-- the server's state is the world's, and the entries at `places` have the answers that were sent
pub record IsState (w : World) (server : ServerState) (entries : List Entry) (places : List ℕ) : Type 0 where
  pub server_at : server ≡ server_of w
  pub kept : AreKept entries places w.sent

pub record Does (w : World) (old : List ClientState) (e : Event) (n : Entry) (new : List ClientState) (server : ServerState) : Type 0 where
  pub step : StepKeeping w old e n new
  pub server_at : server ≡ server_of (after w e n.effect)

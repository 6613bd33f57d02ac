-- What happened on a client's connections, and to the client: which answer each request got.
use Rattle.std.specs.Prelude.{◌≡◌, ⊤, ◌⊎◌, ◌+◌, ℕ, Bool, true, false, if◌then◌else◌, List, [], ◌∷◌, ◌++◌, length, Option, Some, None}
use Rattle.client_connection.specs.Answers.{Answer, AreAnswers, bytes_of, finals}
use Rattle.client_connection.specs.Status.{Status}
use Rattle.client_connection.specs.Run.{CanRun, Connection, Event, Past, none_yet, run}
use Rattle.cog_client.specs.declared.delivered.Delivered.{Delivered}
use Rattle.cog_client.specs.Client.{ClientState}
use Rattle.cog_client.specs.FedClient.{Fed}
use Rattle.cog_client.specs.Keeps.{DeliversKeeping, RequestsKeeping, StopsAsking, StopsDelivery}

-- an exchange: the request, what came of the answer, whether that is the whole answer, and what it did to the client
pub record Exchange : Type 0 where
  pub request : List ℕ
  pub text : List ℕ
  pub whole : Bool
  pub what : Delivered

-- One round of the client: it made an exchange, or had no request. Or memory ran out: for the request, for an answer that came, or so
-- that the rest of an answer was let go.
pub data Round : Type 0 where
  Made : (e : Exchange) → Round
  Rested : Round
  Unasked : Round
  Stopped : (request text : List ℕ) → Round
  LetGo : (request text : List ℕ) → Round

-- what the client's calls did in a round
abbrev pub IsRound : Round → ClientState → ClientState → Type 0
IsRound (Made e) old new = (asking : ClientState) × RequestsKeeping old (Some e.request) asking × DeliversKeeping asking e.text e.what new
IsRound Rested old new = RequestsKeeping old None new
IsRound Unasked old new = StopsAsking old new
IsRound (Stopped request text) old new =
    (asking : ClientState) × RequestsKeeping old (Some request) asking × StopsDelivery asking text new
IsRound (LetGo request text) old new = (asking : ClientState) × RequestsKeeping old (Some request) asking × Fed asking text new

-- The rounds follow each other, the last one first, and nothing else is done to the client.
abbrev pub AreRounds : List Round → ClientState → ClientState → Type 0
AreRounds [] old new = new ≡ old
AreRounds (r ∷ rs) old new = (mid : ClientState) × AreRounds rs old mid × IsRound r mid new

-- how many exchanges were begun
abbrev pub begun : List Round → ℕ
begun [] = 0
begun (Made e ∷ rs) = begun rs + 1
begun (Rested ∷ rs) = begun rs
begun (Unasked ∷ rs) = begun rs
begun (Stopped request text ∷ rs) = begun rs + 1
begun (LetGo request text ∷ rs) = begun rs + 1

-- ---- which request an answer belongs to

-- The request has a place on the connection. What came there after the answers to the requests before it begins with the text. So the text
-- is a front of the answer to this request, or all of it.
pub record IsBegunOn (e : Exchange) (c : Connection) : Type 0 where
  pub asked_before : List (List ℕ)
  pub asked_after : List (List ℕ)
  pub asked : c.asked ≡ asked_before ++ e.request ∷ asked_after
  pub answers : List Answer
  pub each : AreAnswers answers
  pub place : length asked_before ≡ length (finals answers)
  pub rest : List ℕ
  pub came : c.came ≡ bytes_of answers ++ (e.text ++ rest)

-- On the connection request and text have the same place: the text is the whole answer to this request.
pub record IsPlaced (e : Exchange) (c : Connection) : Type 0 where
  pub asked_before : List (List ℕ)
  pub asked_after : List (List ℕ)
  pub asked : c.asked ≡ asked_before ++ e.request ∷ asked_after
  pub texts_before : List (List ℕ)
  pub texts_after : List (List ℕ)
  pub texts : c.texts ≡ texts_before ++ e.text ∷ texts_after
  pub place : length asked_before ≡ length texts_before

abbrev pub IsOn : Exchange → Connection → Type 0
IsOn e c = IsBegunOn e c × (e.whole ≡ true → IsPlaced e c)

abbrev pub IsSomewhere : Exchange → List Connection → Type 0
IsSomewhere e [] = ⊥
IsSomewhere e (c ∷ cs) = IsOn e c ⊎ IsSomewhere e cs

-- what came is of the answer to its own request, on one of these connections; or nothing came
abbrev pub IsOwn : Exchange → List Connection → Type 0
IsOwn e cs = IsSomewhere e cs ⊎ ((e.whole ≡ false) × (e.text ≡ []))

-- this holds of each exchange
abbrev pub AreOwn : List Round → List Connection → Type 0
AreOwn [] cs = ⊤
AreOwn (Made e ∷ rs) cs = IsOwn e cs × AreOwn rs cs
AreOwn (Rested ∷ rs) cs = AreOwn rs cs
AreOwn (Unasked ∷ rs) cs = AreOwn rs cs
AreOwn (Stopped request text ∷ rs) cs = AreOwn rs cs
AreOwn (LetGo request text ∷ rs) cs = AreOwn rs cs

-- ---- histories

-- What is known of a dialogue: its connections, whether an exchange is under way, and how many more may be begun. A history speaks of these
-- alone. And of the exchange under way: whether its request is written only after a look, whether it was sent early, and how many bytes of
-- the body are still of use.
pub record Talk : Type 0 where
  pub status : Status
  pub asked : Bool
  pub exchanges : ℕ
  pub looks : Bool
  pub early : Bool
  pub useful : ℕ

-- what happened so far: on the connections; in rounds, the last one first; the client after these; and the request under way
pub record History : Type 0 where
  pub events : List Event
  pub rounds : List Round
  pub last : ClientState
  pub request : List ℕ

abbrev pub past_of : History → Past
past_of h = run h.events none_yet

abbrev pub connections_of : Past → List Connection
connections_of p = p.now ∷ p.before

-- what was fed of an answer: nothing while its head isn't whole
abbrev pub fed_of : Option ℕ → List ℕ → List ℕ
fed_of None front = []
fed_of (Some left) front = front

-- Without a connection nothing of the next answer is there.
abbrev pub IsFresh : Status → Type 0
IsFresh s = s.is_open ≡ false → (s.left ≡ None) × (s.head ≡ [])

-- Between exchanges the client is as the last round left it. Within one it made the request whose answer comes next, and was fed what came
-- of that answer.
abbrev pub IsUnder : Bool → ClientState → List ℕ → List ℕ → Status → ClientState → Type 0
IsUnder false last request front s c = (c ≡ last) × (s.left ≡ None)
IsUnder true last request front s c =
    (asking : ClientState) × RequestsKeeping last (Some request) asking × Fed asking (fed_of s.left front) c
    × ((early : List (List ℕ)) × (s.out ≡ request ∷ early)) × IsFresh s

-- How a dialogue and a client came about since the client's query began, when it was `start` and `allowed` exchanges were allowed.
pub record IsHistory (start : ClientState) (allowed : ℕ) (h : History) (t : Talk) (c : ClientState) : Type 0 where
  pub can : CanRun h.events none_yet
  pub status : (past_of h).status ≡ t.status
  pub rounds : AreRounds h.rounds start h.last
  pub under : IsUnder t.asked h.last h.request (past_of h).front t.status c
  pub own : AreOwn h.rounds (connections_of (past_of h))
  pub few : begun h.rounds + (t.exchanges + (if t.asked then 1 else 0)) ≡ allowed

-- Whole runs of a connection: what came, what was written, and from which catalogue each message was answered.
use Rattle.std.specs.Prelude.{◌≡◌, ◌≤◌, ◌⊎◌, ℕ, suc, true, false, List, [], ◌∷◌, ◌++◌, length, map, take, ⊤}
use Rattle.std.specs.List.{list_any, flat_map}
use Rattle.http_fields.specs.declared.limits.TheConstants.{ANSWERS_LIMIT}
use Rattle.http_range.specs.Book.{Catalogue}
use Rattle.http_range.specs.Response.{Response}
use Rattle.http_range.specs.Stream.{IsFirstMessage, IsUnfinished, IsAnswered, answers_text}
use Rattle.cog_server.specs.Additions.{IsSent, Sent, ServiceState, plain}
use Rattle.cog_server.specs.Serve.{AreFirstAnswers}
use Rattle.cog_server.specs.Status.{Status, start, is_closing, room_of, IsNext, after_bytes, after_end, after_answer, after_write}

-- a message, and what is sent for it by the service at that moment
pub record Exchange : Type 0 where
  pub service : ServiceState
  pub message : List ℕ
  pub sent : Sent

-- the message is whole by itself, and `sent` is what is sent for it after `n` answers
pub record IsExchange (n : ℕ) (e : Exchange) : Type 0 where
  pub whole : IsFirstMessage e.message e.message
  pub answers : IsSent e.service n e.message e.sent

-- exchanges after `n` answers; no message follows one whose answer closes
abbrev pub AreExchanges : ℕ → List Exchange → Type 0
AreExchanges n [] = ⊤
AreExchanges n (e ∷ es) = IsExchange n e × (e.sent.response.close ≡ true → es ≡ []) × AreExchanges (suc n) es

abbrev pub messages_of : List Exchange → List ℕ
messages_of es = flat_map (λ e. e.message) es

abbrev pub responses_of : List Exchange → List Response
responses_of es = map (λ e. e.sent.response) es

-- the bytes that are sent
abbrev pub texts_of : List Exchange → List ℕ
texts_of es = flat_map (λ e. e.sent.text) es

pub record Past : Type 0 where
  pub given : List ℕ
  pub written : List ℕ
  pub exchanges : List Exchange
  pub status : Status

-- What came begins with the messages that were answered. What is written and what waits are together the answers to them, each by
-- the service of its moment. What came after the message with the last answer is lost, and nothing before it.
pub record IsAnsweredAlone (p : Past) : Type 0 where
  pub lost : List ℕ
  pub lawful : AreExchanges 0 p.exchanges
  pub few : length p.exchanges ≤ ANSWERS_LIMIT
  pub came : p.given ≡ messages_of p.exchanges ++ (p.status.held ++ lost)
  pub went : p.written ++ p.status.waiting ≡ texts_of p.exchanges
  pub counted : p.status.answers ≡ length p.exchanges
  pub closed : p.status.is_closed ≡ list_any (λ r. r.close) (responses_of p.exchanges)
  pub dropped : p.status.dropped ≡ length lost
  pub kept : is_closing p.status ≡ false → lost ≡ []

abbrev pub none_yet : Past
none_yet = record { given = []; written = []; exchanges = []; status = start }

-- ---- events: the calls that change a connection, with what they were given

pub data Event : Type 0 where
  Came : (bytes : List ℕ) → Event
  Came_to_end : Event
  Answered : (exchange : Exchange) → Event
  Wrote : (n : ℕ) → Event

abbrev pub CanHappen : Event → Status → Type 0
CanHappen (Came bytes) s = length bytes ≤ room_of s
CanHappen Came_to_end s = ⊤
CanHappen (Answered e) s = IsNext e.service s e.message e.sent
CanHappen (Wrote n) s = n ≤ length s.waiting

-- what an event makes of the past; the status is what the contract of the call says
abbrev pub happened : Event → Past → Past
happened (Came bytes) p = record {
  given = p.given ++ bytes;
  written = p.written;
  exchanges = p.exchanges;
  status = after_bytes bytes p.status;
}
happened Came_to_end p =
    record { given = p.given; written = p.written; exchanges = p.exchanges; status = after_end p.status }
happened (Answered e) p = record {
  given = p.given;
  written = p.written;
  exchanges = p.exchanges ++ e ∷ [];
  status = after_answer e.message e.sent p.status;
}
happened (Wrote n) p = record {
  given = p.given;
  written = p.written ++ take n p.status.waiting;
  exchanges = p.exchanges;
  status = after_write n p.status;
}

abbrev pub run : List Event → Past → Past
run [] p = p
run (e ∷ es) p = run es (happened e p)

-- each event is one that may happen then
abbrev pub CanRun : List Event → Past → Type 0
CanRun [] p = ⊤
CanRun (e ∷ es) p = CanHappen e p.status × CanRun es (happened e p)

-- this holds of all runs
abbrev pub RunsAreAnswered : Type 0
RunsAreAnswered = (events : List Event) → CanRun events none_yet → IsAnsweredAlone (run events none_yet)

-- ---- one service

abbrev pub AreFrom : ServiceState → List Exchange → Type 0
AreFrom service [] = ⊤
AreFrom service (e ∷ es) = (e.service ≡ service) × AreFrom service es

-- The answers are the first answers to what came, and they are sent without added fields. If no further message can be answered, they
-- are all of the answers.
pub record IsServedAlone (catalogue : Catalogue) (p : Past) : Type 0 where
  pub first : AreFirstAnswers catalogue p.given (responses_of p.exchanges)
  pub sent : texts_of p.exchanges ≡ answers_text (responses_of p.exchanges)
  pub all : (is_closing p.status ≡ true) ⊎ IsUnfinished p.status.held → IsAnswered catalogue p.given (responses_of p.exchanges)

-- this holds if nothing is published meanwhile, and nothing is added
abbrev pub RunsAreServed : Type 0
RunsAreServed = (catalogue : Catalogue) (p : Past) → IsAnsweredAlone p → AreFrom (plain catalogue) p.exchanges → IsServedAlone catalogue p

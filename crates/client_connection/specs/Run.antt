-- Whole runs of a client's end: what went over each connection, and which request each answer belongs to.
use Rattle.std.specs.Prelude.{◌≡◌, ⊤, ◌≤◌, ◌+◌, ◌-◌, ◌<◌, ℕ, Bool, true, false, List, [], ◌∷◌, ◌++◌, length, take, drop, Option, Some, None, Ok}
use Rattle.http_range.specs.declared.frame.Frame.{Frame}
use Rattle.http_range.specs.Frame.{ReadsFrame, is_interim}
use Rattle.client_connection.specs.Answers.{Answer, AreAnswers, IsShort, LetGoOn, bytes_of, finals, joined, size_of}
use Rattle.client_connection.specs.Status.{Status, Takes, after_ask, after_finish, after_gone, after_open, after_write, over, sends, turn_of}
use Rattle.client_connection.specs.declared.parts.Turn.{Turn}
use Rattle.client_connection.specs.declared.parts.Turn.TheVariants.{Anew, Sends, Sent}
use Rattle.client_connection.specs.declared.parts.Part.{Part}
use Rattle.client_connection.specs.declared.parts.Part.TheVariants.{Interim, Stray}

-- what went over a connection: the bytes each way, the requests that were to be sent on it, and the answers that came whole
pub record Connection : Type 0 where
  pub wrote : List ℕ
  pub came : List ℕ
  pub asked : List (List ℕ)
  pub texts : List (List ℕ)

-- `front` is what came of the answer under way
pub record Past : Type 0 where
  pub before : List Connection
  pub now : Connection
  pub front : List ℕ
  pub status : Status

-- The bytes that were written are the requests, one after another. What came are answers, a front of one, and then bytes that may be lost.
-- The texts are the final answers. The text at a place answers the request at that place. The connection may go on after each answer
-- but the last.
pub record IsInOrder (c : Connection) (unwritten front lost : List ℕ) : Type 0 where
  pub wrote : c.wrote ++ unwritten ≡ joined c.asked
  pub answers : List Answer
  pub each : AreAnswers answers
  pub texts : c.texts ≡ finals answers
  pub came : c.came ≡ bytes_of answers ++ (front ++ lost)
  pub few : length c.texts ≤ length c.asked
  pub goes_on : LetGoOn (take (length answers - 1) answers)

abbrev pub IsOver : Connection → Type 0
IsOver c = (unwritten front lost : List ℕ) × IsInOrder c unwritten front lost

abbrev pub AreOver : List Connection → Type 0
AreOver [] = ⊤
AreOver (c ∷ cs) = IsOver c × AreOver cs

-- a front of an answer: what came of its head; or the head and a part of the body, with `left` bytes to come
abbrev pub IsUnderWay : Option ℕ → Status → List ℕ → Type 0
IsUnderWay None s front = front ≡ s.head
IsUnderWay (Some left) s front =
    (frame : Frame) × ReadsFrame front (Ok frame) × (is_interim frame ≡ false) × (frame.closes ≡ s.closes)
    × (length front + left ≡ size_of frame)

-- the connection that is open
pub record IsLive (p : Past) : Type 0 where
  pub order : IsInOrder p.now p.status.waits p.front []
  pub goes_on : LetGoOn order.answers
  pub under : IsUnderWay p.status.left p.status p.front
  pub out : p.status.out ≡ drop (length p.now.texts) p.now.asked
  pub begun : (left : ℕ) → p.status.left ≡ Some left → length p.now.texts < length p.now.asked

-- the connection is open, or the last one is over
abbrev pub IsNow : Bool → Past → Type 0
IsNow true p = IsLive p
IsNow false p = IsOver p.now

pub record IsOrderly (p : Past) : Type 0 where
  pub before : AreOver p.before
  pub now : IsNow p.status.is_open p

abbrev pub unused : Connection
unused = record { wrote = []; came = []; asked = []; texts = [] }

abbrev pub none_yet : Past
none_yet = record { before = []; now = unused; front = []; status = over [] }

-- ---- events: the calls, with what they were given; for bytes that came also what they were taken as

pub data Event : Type 0 where
  Asked : (text : List ℕ) → Event
  SentEarly : (text : List ℕ) → Event
  Opened : Event
  Wrote : (count : ℕ) → Event
  Came : (part : Part) (bytes : List ℕ) (after : Status) → Event
  Finished : Event
  Gone : Event
  Ended : Event

-- the call may be made then, and for bytes it has this result
abbrev pub CanHappen : Event → Status → Type 0
CanHappen (Asked text) s = ⊤
CanHappen (SentEarly text) s = s.is_open ≡ true
CanHappen Opened s = s.is_open ≡ false
CanHappen (Wrote count) s = (s.is_open ≡ true) × (count ≤ length s.waits)
CanHappen (Came part bytes after) s =
    (s.is_open ≡ true) × Takes part bytes s after × (¬ (part ≡ Stray) → 0 < length s.out)
CanHappen Finished s = (s.is_open ≡ true) × (s.left ≡ Some 0)
CanHappen Gone s = ⊤
CanHappen Ended s = ⊤

abbrev pub asks : Turn → List ℕ → Connection → Connection
asks Sends text c = record c { asked = c.asked ++ text ∷ [] }
asks Sent text c = c
asks Anew text c = c

-- what came of the answer under way, with these bytes
abbrev pub front_with : Part → List ℕ → List ℕ → List ℕ
front_with Interim front bytes = []
front_with part front bytes = front ++ bytes

-- what an event makes of the past; the status is what the contract of the call says
abbrev pub happened : Event → Past → Past
happened (Asked text) p = record p { now = asks (turn_of text p.status) text p.now; status = after_ask text p.status }
happened (SentEarly text) p = record p { now = asks Sends text p.now; status = sends text p.status }
happened Opened p = record {
  before = p.now ∷ p.before;
  now = record { wrote = []; came = []; asked = take 1 p.status.out; texts = [] };
  front = [];
  status = after_open p.status;
}
happened (Wrote count) p = record p {
  now = record (p.now) { wrote = p.now.wrote ++ take count p.status.waits };
  status = after_write count p.status;
}
happened (Came part bytes after) p = record p {
  now = record (p.now) { came = p.now.came ++ bytes };
  front = front_with part p.front bytes;
  status = after;
}
happened Finished p = record p {
  now = record (p.now) { texts = p.now.texts ++ p.front ∷ [] };
  front = [];
  status = after_finish p.status;
}
happened Gone p = record p { status = after_gone p.status }
happened Ended p = record p { status = over [] }

abbrev pub run : List Event → Past → Past
run [] p = p
run (e ∷ es) p = run es (happened e p)

-- each event is one that may happen then
abbrev pub CanRun : List Event → Past → Type 0
CanRun [] p = ⊤
CanRun (e ∷ es) p = CanHappen e p.status × CanRun es (happened e p)

-- On each connection the answers are those to its own requests, in their order.
abbrev pub AnswersAreInOrder : Type 0
AnswersAreInOrder = (events : List Event) → CanRun events none_yet → IsOrderly (run events none_yet)

-- Bytes can be divided into answers, with a short rest, in only one way. So it doesn't matter in which pieces they come.
abbrev pub CutsDoNotMatter : Type 0
CutsDoNotMatter = (answers others : List Answer) (front rest : List ℕ) → AreAnswers answers → AreAnswers others
    → IsShort front → IsShort rest → bytes_of answers ++ front ≡ bytes_of others ++ rest → answers ≡ others

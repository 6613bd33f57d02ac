-- What is known of a client's end of its connections, and what each call makes of it.
use Rattle.std.specs.Prelude.{◌≡◌, ◌⊎◌, ◌≤◌, ◌<◌, ◌&&◌, ◌-◌, ◌+◌, ℕ, not, is_none, Bool, true, false, if◌then◌else◌, List, [], ◌∷◌, ◌++◌, length, take, drop, unwrap_or, Option, Some, None, Ok, Err}
use Rattle.std.specs.Str.{bytes_eq}
use Rattle.http_range.specs.declared.frame.Frame.{Frame}
use Rattle.http_range.specs.declared.reading.Why.TheVariants.{Cut, Head as NoHead}
use Rattle.http_range.specs.Frame.{ReadsFrame, is_interim}
use Rattle.client_connection.specs.Answers.{joined, is_timeout, IsNoAnswer}
use Rattle.client_connection.specs.declared.connection.TheConstants.{INTERIM_LIMIT}
use Rattle.client_connection.specs.declared.parts.Turn.{Turn}
use Rattle.client_connection.specs.declared.parts.Turn.TheVariants.{Anew, Sends, Sent}
use Rattle.client_connection.specs.declared.parts.Part.{Part}
use Rattle.client_connection.specs.declared.parts.Part.TheVariants.{Again, Begun, Body, Head, Interim, Refused, Stray}

pub record Status : Type 0 where
  pub is_open : Bool  -- a connection is there
  pub kept : Bool  -- and it went on after an answer
  pub waits : List ℕ  -- the bytes of requests that aren't written yet
  pub out : List (List ℕ)  -- the requests without a whole answer; the answer to the first comes next
  pub head : List ℕ  -- what came of the head of the next answer
  pub left : Option ℕ  -- how much of its body is to come; None while its head isn't whole
  pub closes : Bool  -- the connection ends with this answer
  pub interims : ℕ  -- how many interim answers came before it

-- there is no connection, and these requests are to be sent on the next one
abbrev pub over : List (List ℕ) → Status
over texts =
    record { is_open = false; kept = false; waits = []; out = texts; head = []; left = None; closes = false; interims = 0 }

-- there is no connection, and this came of a head after which nothing comes
abbrev pub cut : List ℕ → Status
cut head = record (over []) { head = head }

abbrev pub is_empty : {A : Type 0} → List A → Bool
is_empty [] = true
is_empty (x ∷ xs) = false

-- nothing came of the next answer
abbrev pub is_between : Status → Bool
is_between s = is_none s.left && is_empty s.head

-- ---- requests

-- what becomes of a request while these are out: it is sent if none is out, or it was sent early, or it begins anew
abbrev pub turn_after : List (List ℕ) → List ℕ → Turn
turn_after [] text = Sends
turn_after (first ∷ rest) text = if bytes_eq first text then Sent else Anew

abbrev pub turn_of : List ℕ → Status → Turn
turn_of text s = if s.is_open && is_between s then turn_after s.out text else Anew

-- a request is sent after those that are out
abbrev pub sends : List ℕ → Status → Status
sends text s = record s { waits = s.waits ++ text; out = s.out ++ text ∷ [] }

abbrev pub turned : Turn → List ℕ → Status → Status
turned Sent text s = s
turned Sends text s = sends text s
turned Anew text s = over (text ∷ [])

abbrev pub after_ask : List ℕ → Status → Status
after_ask text s = turned (turn_of text s) text s

-- there is a new connection, on which the first request is sent
abbrev pub after_open : Status → Status
after_open s = record (over (take 1 s.out)) { is_open = true; waits = joined (take 1 s.out) }

abbrev pub after_write : ℕ → Status → Status
after_write n s = record s { waits = drop n s.waits }

-- ---- answers

-- What the bytes that came of a head are taken as. On a connection that was kept, a request is sent again after what is no answer to it.
abbrev pub TakesHead : Part → List ℕ → Status → Status → Type 0
TakesHead Head head old new = ReadsFrame head (Err Cut) × (new ≡ record old { head = head })
TakesHead Interim head old new =
    (frame : Frame) × ReadsFrame head (Ok frame) × (length head ≡ frame.size) × (is_interim frame ≡ true)
    × (old.interims < INTERIM_LIMIT) × (new ≡ record old { head = []; interims = old.interims + 1 })
TakesHead Begun head old new =
    (frame : Frame) × ReadsFrame head (Ok frame) × (length head ≡ frame.size) × (is_interim frame ≡ false)
    × (new ≡ record old { head = head; left = Some (unwrap_or frame.length 0); closes = frame.closes; interims = 0 })
    × (old.kept ≡ true → is_timeout frame ≡ false)
TakesHead Again head old new = (old.kept ≡ true) × IsNoAnswer head × (new ≡ over (take 1 old.out))
TakesHead Refused head old new =
    ((ReadsFrame head (Err NoHead) × (old.kept ≡ false))
    ⊎ ((frame : Frame) × ReadsFrame head (Ok frame) × (is_interim frame ≡ true) × (INTERIM_LIMIT ≤ old.interims)))
    × (new ≡ cut head)
TakesHead part head old new = ⊥

-- these bytes were taken as this part
abbrev pub Takes : Part → List ℕ → Status → Status → Type 0
Takes Stray bytes old new = (old.out ≡ []) × (new ≡ over [])
Takes Body bytes old new =
    (left : ℕ) × (old.left ≡ Some left) × (length bytes ≤ left) × (new ≡ record old { left = Some (left - length bytes) })
Takes part bytes old new = (old.left ≡ None) × TakesHead part (old.head ++ bytes) old new

-- the answer is whole
abbrev pub after_finish : Status → Status
after_finish s = if s.closes then over [] else record s { kept = true; out = drop 1 s.out; head = []; left = None }

-- ---- the end of a connection

-- the first request is sent once more: the connection was kept, and nothing came of the answer
abbrev pub is_again : Status → Bool
is_again s = s.kept && is_between s && not (is_empty s.out)

-- what came of a head that isn't whole
abbrev pub head_left : Option ℕ → List ℕ → List ℕ
head_left None head = head
head_left (Some left) head = []

abbrev pub after_gone : Status → Status
after_gone s = if is_again s then over (take 1 s.out) else cut (head_left s.left s.head)

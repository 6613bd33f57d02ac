-- Serving a stream: what the loop over a connection keeps.
use Rattle.std.proofs.Common.{◌≡◌, ◌==◌, ℕ, ◌+◌, ◌-◌, ◌*◌, ◌<◌, ◌≤◌, Bool, true, false, cond, List, [], ◌∷◌, ◌++◌, length, take, drop, Option, Some, None, refl, sym, ap, ◌∙◌, subst, arith, append_assoc, append-nil, length-append, inl, inr}
use Rattle.std.specs.Io.KnownBytes.{append_known}
use Rattle.std.specs.Prelude.{is_some}
use Rattle.std.proofs.lemmas.List.{drop_all, take_all}
use Rattle.std.proofs.lemmas.Bool.{cases_Bool}
use Rattle.http_range.specs.Book.{Catalogue}
use Rattle.http_range.specs.Laws.{MessagesStay}
use Rattle.http_range.specs.Response.{text_of}
use Rattle.http_range.specs.Stream.{IsUnfinished, answers_text}
use Rattle.http_fields.specs.declared.limits.TheConstants.{MESSAGE_LIMIT}
use Rattle.cog_server.specs.Additions.{Sent, ServiceState, plain}
use Rattle.cog_server.specs.Received.{IsReceived, after_read}
use Rattle.cog_server.specs.Run.{AreFrom, Exchange, IsAnsweredAlone, Past, responses_of}
use Rattle.cog_server.specs.Sent.{IsWritten}
use Rattle.cog_server.specs.Status.{EndsBy, GoesOn, IsNext, Rests, Status, after_answer, after_bytes, after_message, after_write, is_closing, room_of, start}
use Rattle.cog_server.proofs.RunLemmas.{answer_given, apart, bytes_came, bytes_written, end_came, neither, none_answered, one_fewer, plain_text, went_plain}

clash : {A : Type 0} → false ≡ true → A
clash e = let f : true ≡ false = sym e in cc

-- ---- bytes that are told

pub known_none : (known : Option (List ℕ)) → append_known known [] ≡ known
known_none None = refl
known_none (Some xs) = ap Some (append-nil xs)

pub known_append : (known : Option (List ℕ)) (a b : List ℕ) → append_known (append_known known a) b ≡ append_known known (a ++ b)
known_append None a b = refl
known_append (Some xs) a b = ap Some (append_assoc xs a b)

pub known_more : (known known' known'' : Option (List ℕ)) (a b : List ℕ) → known' ≡ append_known known a → known'' ≡ append_known known' b
    → known'' ≡ append_known known (a ++ b)
known_more known known' known'' a b first next =
    next ∙ ap (λ (k : Option (List ℕ)). append_known k b) first ∙ known_append known a b

-- ---- so far

abbrev pub past : List ℕ → List ℕ → List Exchange → Status → Past
past stream text exchanges s = record { given = stream; written = text; exchanges = exchanges; status = s }

-- how many bytes came behind the messages that are answered
abbrev pub ahead : Status → ℕ
ahead s = length s.held + s.dropped

-- a stream came, and a text is written; is_over is that nothing more comes
pub record Going (catalogue : Catalogue) (given given' taken taken' : Option (List ℕ)) (is_over : Type 0) (s : Status) : Type 0 where
  pub stream : List ℕ
  pub text : List ℕ
  pub exchanges : List Exchange
  pub gave : given' ≡ append_known given stream
  pub took : taken' ≡ append_known taken text
  pub alone : IsAnsweredAlone (past stream text exchanges s)
  pub from : AreFrom (plain catalogue) exchanges
  pub over : s.is_over ≡ true → is_over
  pub few : ahead s ≤ MESSAGE_LIMIT
  pub little : is_closing s ≡ true → ahead s < MESSAGE_LIMIT

pub begins : (catalogue : Catalogue) (given taken : Option (List ℕ)) (is_over : Type 0) → Going catalogue given given taken taken is_over start
begins catalogue given taken is_over = record {
  stream = [];
  text = [];
  exchanges = [];
  gave = sym (known_none given);
  took = sym (known_none taken);
  alone = none_answered;
  from = tt;
  over = λ e. clash e;
  few = omega arith;
  little = λ e. clash e;
}

pub none_lost : (p : Past) → IsAnsweredAlone p → is_closing p.status ≡ false → p.status.dropped ≡ 0
none_lost p h unclosed = h.dropped ∙ ap length (h.kept unclosed)

pub stays : {catalogue : Catalogue} {given given' taken taken' : Option (List ℕ)} {is_over : Type 0} {s : Status} (s' : Status) → s' ≡ s
    → Going catalogue given given' taken taken' is_over s → Going catalogue given given' taken taken' is_over s'
stays {catalogue} {given} {given'} {taken} {taken'} {is_over} s' same h =
    subst (λ (x : Status). Going catalogue given given' taken taken' is_over x) (sym same) h

-- ---- what comes

taken_in : (bytes : List ℕ) (s : Status) → is_closing s ≡ false → after_bytes bytes s ≡ record s { held = s.held ++ bytes }
taken_in bytes s unclosed = rw unclosed refl

room_open : (s : Status) → s.is_over ≡ false → is_closing s ≡ false → room_of s ≡ MESSAGE_LIMIT - length s.held
room_open s on unclosed = rw (on, unclosed) refl

pub received : {catalogue : Catalogue} {given given' given'' taken taken' : Option (List ℕ)} {is_over : Type 0} {s : Status}
    (is_over' : Type 0) (bytes : List ℕ) → Going catalogue given given' taken taken' is_over s → is_closing s ≡ false → s.is_over ≡ false
    → length bytes ≤ room_of s → given'' ≡ append_known given' bytes → (bytes ≡ [] → is_over')
    → Going catalogue given given'' taken taken' is_over' (after_read bytes s)
received {given = given} {given' = given'} {s = s} is_over' [] h unclosed on room gave ends = record {
  stream = h.stream;
  text = h.text;
  exchanges = h.exchanges;
  gave = gave ∙ known_none given' ∙ h.gave;
  took = h.took;
  alone = end_came (past h.stream h.text h.exchanges s) h.alone;
  from = h.from;
  over = λ e. ends refl;
  few = h.few;
  little = h.little;
}
received {given = given} {given' = given'} {given'' = given''} {s = s} is_over' (b ∷ rest) h unclosed on room gave ends =
    let bytes : List ℕ = b ∷ rest in
    let same = taken_in bytes s unclosed in
    let fits : length bytes ≤ MESSAGE_LIMIT - length s.held = subst (λ (n : ℕ). length bytes ≤ n) (room_open s on unclosed) room in
    let none = none_lost (past h.stream h.text h.exchanges s) h.alone unclosed in
    let few = h.few in
    let all = length-append s.held bytes in
    record {
      stream = h.stream ++ bytes;
      text = h.text;
      exchanges = h.exchanges;
      gave = known_more given given' given'' h.stream bytes h.gave gave;
      took = h.took;
      alone = bytes_came (past h.stream h.text h.exchanges s) bytes h.alone;
      from = h.from;
      over = λ e. apart s.is_over (sym (ap (λ (x : Status). x.is_over) same) ∙ e) on;
      few = subst (λ (x : Status). ahead x ≤ MESSAGE_LIMIT) (sym same) (omega arith);
      little = λ e. apart (is_closing s) (sym (ap is_closing same) ∙ e) unclosed;
    }

-- ---- the next answer

from_more : (service : ServiceState) (es : List Exchange) (e : Exchange) → AreFrom service es → e.service ≡ service
    → AreFrom service (es ++ e ∷ [])
from_more service [] e from is = (is, tt)
from_more service (x ∷ es) e from is = (from.0, from_more service es e from.1 is)

over_kept : (message : List ℕ) (r : Sent) (s : Status) → (after_answer message r s).is_over ≡ s.is_over
over_kept message r s =
    elim (cases_Bool (is_closing (after_message message r s))) [
      | inl shut ↦ rw shut refl
      | inr stays ↦ rw stays refl
    ]

ahead_after : (message : List ℕ) (r : Sent) (s : Status) → s.dropped ≡ 0 → ahead (after_answer message r s) ≡ length (drop (length message) s.held)
ahead_after message r s none =
    elim (cases_Bool (is_closing (after_message message r s))) [
      | inl shut ↦ rw shut (omega arith)
      | inr stays ↦ rw stays (omega (arith, none))
    ]

waits_whole : (message : List ℕ) (r : Sent) (s : Status) → (after_answer message r s).waiting ≡ r.text
waits_whole message r s =
    elim (cases_Bool (is_closing (after_message message r s))) [
      | inl shut ↦ rw shut refl
      | inr stays ↦ rw stays refl
    ]

-- an answer is given, which waits to be written; all before it are
pub record Answering (catalogue : Catalogue) (given given' taken taken' : Option (List ℕ)) (is_over : Type 0) (s : Status) : Type 0 where
  pub going : Going catalogue given given' taken taken' is_over s
  pub little : ahead s < MESSAGE_LIMIT
  pub before : List Exchange
  pub last : Exchange
  pub next : going.exchanges ≡ before ++ last ∷ []
  pub whole : going.text ≡ answers_text (responses_of before)
  pub waits : s.waiting ≡ text_of last.sent.response

pub answers : {catalogue : Catalogue} {given given' taken taken' : Option (List ℕ)} {is_over : Type 0} {s : Status} → MessagesStay
    → (message : List ℕ) (r : Sent) → Going catalogue given given' taken taken' is_over s → IsNext (plain catalogue) s message r
    → Answering catalogue given given' taken taken' is_over (after_answer message r s)
answers {catalogue} {s = s} law message r h is =
    let p = past h.stream h.text h.exchanges s in
    let e : Exchange = record { service = plain catalogue; message = message; sent = r } in
    let few = h.few in
    let short = law.short s.held message is.first in
    let some = short.0 in
    let split = ap length short.2 ∙ refl in
    let parts = length-append message (drop (length message) s.held) in
    let count = ahead_after message r s (none_lost p h.alone is.goes_on) in
    let less : ahead (after_answer message r s) < MESSAGE_LIMIT = subst (λ (n : ℕ). n < MESSAGE_LIMIT) (sym count) (omega arith) in
    record {
      going = record {
        stream = h.stream;
        text = h.text;
        exchanges = h.exchanges ++ e ∷ [];
        gave = h.gave;
        took = h.took;
        alone = answer_given law p e is h.alone;
        from = from_more (plain catalogue) h.exchanges e h.from refl;
        over = λ closed. h.over (sym (over_kept message r s) ∙ closed);
        few = omega (arith, less);
        little = λ closed. less;
      };
      little = less;
      before = h.exchanges;
      last = e;
      next = refl;
      whole = sym (append-nil h.text) ∙ ap (λ (xs : List ℕ). h.text ++ xs) (sym is.written) ∙ went_plain catalogue p h.alone h.from;
      waits = waits_whole message r s ∙ plain_text catalogue s.answers message r is.answers;
    }

-- a status says that a message was answered
pub answered : (catalogue : Catalogue) (s s' : Status) (o : Option ℕ) (some : Bool) → some ≡ is_some o → some ≡ true → GoesOn catalogue s s' o
    → (status : ℕ) × GoesOn catalogue s s' (Some status)
answered catalogue s s' None some is so goes = clash (sym is ∙ so)
answered catalogue s s' (Some status) some is so goes = (status, goes)

-- none says that no message was
pub rested : (catalogue : Catalogue) (s s' : Status) (o : Option ℕ) (some : Bool) → some ≡ is_some o → some ≡ false → GoesOn catalogue s s' o
    → GoesOn catalogue s s' None
rested catalogue s s' None some is not_so goes = goes
rested catalogue s s' (Some status) some is not_so goes = clash (sym not_so ∙ is)

pub went : {catalogue : Catalogue} {given given' taken taken' : Option (List ℕ)} {is_over : Type 0} {s : Status} → MessagesStay
    → (s' : Status) (status : ℕ) → Going catalogue given given' taken taken' is_over s → GoesOn catalogue s s' (Some status)
    → Answering catalogue given given' taken taken' is_over s'
went {catalogue} {given} {given'} {taken} {taken'} {is_over} law s' status h goes =
    subst (λ (x : Status). Answering catalogue given given' taken taken' is_over x) (sym goes.3) (answers law goes.0 goes.1 h goes.2)

-- ---- what is written

pub nothing_waits : (s t : Status) → t ≡ after_write (length s.waiting) s → t.waiting ≡ []
nothing_waits s t same = ap (λ (x : Status). x.waiting) same ∙ drop_all (length s.waiting) s.waiting (omega arith)

pub written : {catalogue : Catalogue} {given given' taken taken' taken'' : Option (List ℕ)} {is_over : Type 0} {s : Status} {has_failed : Bool}
    → Going catalogue given given' taken taken' is_over s → IsWritten taken' taken'' has_failed s.waiting
    → Going catalogue given given' taken taken'' is_over (after_write (length s.waiting) s)
written {taken = taken} {taken' = taken'} {taken'' = taken''} {s = s} h sent =
    let all : take (length s.waiting) s.waiting ≡ s.waiting = take_all (length s.waiting) s.waiting (omega arith) in
    record {
      stream = h.stream;
      text = h.text ++ s.waiting;
      exchanges = h.exchanges;
      gave = h.gave;
      took = known_more taken taken' taken'' h.text s.waiting h.took sent.took;
      alone = subst (λ (xs : List ℕ). IsAnsweredAlone (past h.stream (h.text ++ xs) h.exchanges (after_write (length s.waiting) s))) all
          (bytes_written (past h.stream h.text h.exchanges s) (length s.waiting) h.alone);
      from = h.from;
      over = h.over;
      few = h.few;
      little = h.little;
    }

pub sent_whole : {catalogue : Catalogue} {given given' taken taken' taken'' : Option (List ℕ)} {is_over : Type 0} {s : Status} {has_failed : Bool}
    (t : Status) → Answering catalogue given given' taken taken' is_over s → IsWritten taken' taken'' has_failed s.waiting
    → t ≡ after_write (length s.waiting) s → Going catalogue given given' taken taken'' is_over t
sent_whole t answering sent same = stays t same (written answering.going sent)

-- ---- where the loop stands

-- no message is whole, and more may come
pub record IsOpen (s : Status) : Type 0 where
  pub unclosed : is_closing s ≡ false
  pub on : s.is_over ≡ false
  pub unfinished : IsUnfinished s.held

pub still_open : MessagesStay → (s : Status) → s.waiting ≡ [] → Rests s → EndsBy s None → IsOpen s
still_open law s silent rests none = elim none [
  | inl waits ↦ absurd (waits silent)
  | inr unclosed ↦ elim rests [
    | inl shut ↦ apart (is_closing s) shut unclosed.0
    | inr other ↦ elim other [
      | inl waits ↦ absurd (waits silent)
      | inr unfinished ↦ elim unclosed.1 [
        | inl on ↦ record { unclosed = unclosed.0; on = on; unfinished = unfinished }
        | inr whole ↦ absurd (law.apart s.held whole.0 unfinished whole.1)
      ]
    ]
  ]
]

-- nothing is answered, and it hasn't ended
pub stands : (catalogue : Catalogue) (s s' : Status) → MessagesStay → GoesOn catalogue s s' None → s.waiting ≡ [] → EndsBy s' None → IsOpen s'
stands catalogue s s' law goes silent none =
    subst IsOpen (sym goes.0) (still_open law s silent goes.1 (subst (λ (x : Status). EndsBy x None) goes.0 none))

pub reads : {catalogue : Catalogue} {given given' given'' taken taken' : Option (List ℕ)} {is_over : Type 0} {s : Status} {has_failed : Bool}
    (is_over' : Type 0) (t : Status) → Going catalogue given given' taken taken' is_over s → IsOpen s
    → IsReceived s t given' given'' is_over' has_failed → Going catalogue given given'' taken taken' is_over' t
reads is_over' t h is came =
    stays t came.status (received is_over' came.bytes h is.unclosed is.on came.gives.room came.gives.gave came.ends)

silent_read : (bytes : List ℕ) (s : Status) → is_closing s ≡ false → (after_read bytes s).waiting ≡ s.waiting
silent_read [] s unclosed = refl
silent_read (b ∷ rest) s unclosed = ap (λ (x : Status). x.waiting) (taken_in (b ∷ rest) s unclosed)

pub still_silent : {given given' : Option (List ℕ)} {is_over : Type 0} {has_failed : Bool} (s t : Status) → s.waiting ≡ [] → IsOpen s
    → IsReceived s t given given' is_over has_failed → t.waiting ≡ []
still_silent s t silent is came = ap (λ (x : Status). x.waiting) came.status ∙ silent_read came.bytes s is.unclosed ∙ silent

pub some_room : MessagesStay → (s : Status) → IsOpen s → 0 < room_of s
some_room law s h =
    let few = (law.unfinished s.held [] h.unfinished).0 in
    subst (λ (n : ℕ). 0 < n) (sym (room_open s h.on h.unclosed)) (omega arith)

-- ---- the measure

-- how much may still happen: answers, and between two of them bytes and the end
abbrev pub left : Status → ℕ
left s = (100 - s.answers) * 8194 + (8192 - length s.held) + cond s.is_over 0 1

answers_after : (message : List ℕ) (r : Sent) (s : Status) → (after_answer message r s).answers ≡ s.answers + 1
answers_after message r s =
    elim (cases_Bool (is_closing (after_message message r s))) [
      | inl shut ↦ rw shut refl
      | inr stays ↦ rw stays refl
    ]

less_left : (a b x y o : ℕ) → b ≡ a + 1 → a + 1 ≤ 100 → y ≤ 8192 → (100 - b) * 8194 + y + o < (100 - a) * 8194 + x + o
less_left a b x y o is room small = omega arith

answer_smaller : (message : List ℕ) (r : Sent) (s : Status) → s.answers + 1 ≤ 100
    → left (after_write (length (after_answer message r s).waiting) (after_answer message r s)) < left s
answer_smaller message r s room =
    let t = after_answer message r s in
    subst (λ (b : Bool). (100 - t.answers) * 8194 + (8192 - length t.held) + cond b 0 1 < left s) (sym (over_kept message r s))
    (less_left s.answers t.answers (8192 - length s.held) (8192 - length t.held) (cond s.is_over 0 1) (answers_after message r s) room (omega arith))

pub less_to_answer : {catalogue : Catalogue} {given given' taken taken' : Option (List ℕ)} {is_over : Type 0} {s : Status} (s' t : Status) (status : ℕ)
    → Going catalogue given given' taken taken' is_over s → GoesOn catalogue s s' (Some status) → t ≡ after_write (length s'.waiting) s' → left t < left s
less_to_answer {s = s} s' t status h goes same =
    let other = (neither s.is_closed (s.answers == 100) goes.2.goes_on).1 in
    let room = one_fewer s.answers (subst (λ (n : ℕ). n ≤ 100) (sym h.alone.counted) h.alone.few) other in
    subst (λ (x : Status). left x < left s) (sym (same ∙ ap (λ (x : Status). after_write (length x.waiting) x) goes.3))
    (answer_smaller goes.0 goes.1 s room)

read_smaller : MessagesStay → (bytes : List ℕ) (s : Status) → IsOpen s → left (after_read bytes s) < left s
read_smaller law [] s h = rw h.on (omega arith)
read_smaller law (b ∷ rest) s h =
    let bytes : List ℕ = b ∷ rest in
    let few = (law.unfinished s.held [] h.unfinished).0 in
    let all = length-append s.held bytes in
    subst (λ (x : Status). left x < left s) (sym (taken_in bytes s h.unclosed)) (omega arith)

pub less_to_read : {given given' : Option (List ℕ)} {is_over : Type 0} {has_failed : Bool} (s s' t : Status) → MessagesStay → s' ≡ s → IsOpen s'
    → IsReceived s' t given given' is_over has_failed → left t < left s
less_to_read s s' t law same is came =
    subst (λ (x : Status). left t < left x) same
    (subst (λ (x : Status). left x < left s') (sym came.status) (read_smaller law came.bytes s' is))

-- Serving a stream: how it ends, and what is told of that.
use Rattle.std.proofs.Common.{◌≡◌, ◌==◌, ℕ, suc, ◌<◌, Bool, true, false, List, [], ◌∷◌, ◌++◌, length, Option, Some, Result, Ok, Err, refl, sym, ap, ◌∙◌, subst, arith, append-nil, length-append, inl, inr}
use Rattle.std.specs.Prelude.{IsErrAnd, ◌⊎◌}
use Rattle.std.specs.List.{list_any}
use Rattle.std.specs.Io.KnownBytes.{append_known}
use Rattle.std.proofs.lemmas.List.{length-map, map-append}
use Rattle.std.proofs.lemmas.Bool.{cases_Bool}
use Rattle.http_range.specs.Book.{Catalogue}
use Rattle.http_range.specs.Laws.{MessagesStay}
use Rattle.http_range.specs.Response.{Response}
use Rattle.http_range.specs.Stream.{IsUnfinished, answers_text, ending_of}
use Rattle.http_range.specs.Stream.Ending.{Closed, Limit, EndOfInput}
use Rattle.http_fields.specs.declared.limits.TheConstants.{MESSAGE_LIMIT}
use Rattle.cog_server.specs.declared.served.Ended.{Ended}
use Rattle.cog_server.specs.declared.served.Ended.TheVariants.{Closed as told_closed, Limit as told_limit, EndOfInput as told_end}
use Rattle.cog_server.specs.declared.served.Served.{Served}
use Rattle.cog_server.specs.declared.served.ServeError.{ServeError}
use Rattle.cog_server.specs.declared.served.ServeError.TheVariants.{Read, Write, Memory}
use Rattle.cog_server.specs.Additions.{plain}
use Rattle.cog_server.specs.Received.{Gives, Receives}
use Rattle.cog_server.specs.Run.{AreExchanges, AreFrom, Exchange, IsAnsweredAlone, Past, messages_of, responses_of}
use Rattle.cog_server.specs.Sent.{IsBroken, Writes}
use Rattle.cog_server.specs.Serve.{AreFirstAnswers, IsBehind, IsLittleAhead, Serves, ending_told, read_failed, write_failed}
use Rattle.cog_server.specs.Status.{EndsBy, Status, after_bytes, is_closing}
use Rattle.cog_server.proofs.RunLemmas.{all_from_one, apart, behind, bytes_came, first_of, neither, went_plain}
use Rattle.cog_server.proofs.ServeLemmas.{known_none, known_more, past, ahead, Going, none_lost, Answering, IsOpen}

-- what was read and written, and what is told of it
abbrev pub Outcome : Catalogue → Option (List ℕ) → Option (List ℕ) → Option (List ℕ) → Option (List ℕ) → Type 0
    → Result Served ServeError → Type 0
Outcome catalogue given given' taken taken' is_over result =
    (stream : List ℕ) × (text : List ℕ) × (given' ≡ append_known given stream) × (taken' ≡ append_known taken text)
    × Serves catalogue stream text is_over result

are_behind : MessagesStay → (n : ℕ) (es : List Exchange) (later : List ℕ) → AreExchanges n es → IsBehind (length es) (messages_of es ++ later) later
are_behind law n [] later lawful = refl
are_behind law n (e ∷ es) later lawful = (
  e.message,
  first_of law e.message later es lawful.0.whole,
  subst (λ (xs : List ℕ). IsBehind (length es) xs later) (sym (behind e.message later es)) (are_behind law (suc n) es later lawful.2),
)

count_of : (es : List Exchange) → length (responses_of es) ≡ length es
count_of es = length-map es (λ (e : Exchange). e.sent.response)

little_ahead : MessagesStay → (p : Past) → IsAnsweredAlone p → ahead p.status < MESSAGE_LIMIT
    → IsLittleAhead (length (responses_of p.exchanges)) p.given
little_ahead law p h little =
    let rest = p.status.held ++ h.lost in
    let count = length-append p.status.held h.lost in
    let lost = h.dropped in
    record {
      rest = rest;
      behind = subst (λ (n : ℕ). IsBehind n p.given rest) (sym (count_of p.exchanges))
          (subst (λ (xs : List ℕ). IsBehind (length p.exchanges) xs rest) (sym h.came) (are_behind law 0 p.exchanges rest h.lawful));
      little = omega arith;
    }

-- nothing waits, so all answers are written
all_written : (catalogue : Catalogue) (p : Past) → IsAnsweredAlone p → AreFrom (plain catalogue) p.exchanges → p.status.waiting ≡ []
    → p.written ≡ answers_text (responses_of p.exchanges)
all_written catalogue p h from silent =
    sym (append-nil p.written) ∙ ap (λ (xs : List ℕ). p.written ++ xs) (sym silent) ∙ went_plain catalogue p h from

ending_by : (p : Past) (ended : Ended) → IsAnsweredAlone p → EndsBy p.status (Some ended) → ending_told ended ≡ ending_of (responses_of p.exchanges)
ending_by p told_closed h by =
    let closes : list_any (λ (r : Response). r.close) (responses_of p.exchanges) ≡ true = sym h.closed ∙ by.1 in rw closes refl
ending_by p told_limit h by =
    let stays : list_any (λ (r : Response). r.close) (responses_of p.exchanges) ≡ false = sym h.closed ∙ by.1 in
    let all : length (responses_of p.exchanges) ≡ 100 = count_of p.exchanges ∙ sym h.counted ∙ by.2 in rw (stays, all) refl
ending_by p told_end h by =
    let both = neither p.status.is_closed (p.status.answers == 100) by.1 in
    let stays : list_any (λ (r : Response). r.close) (responses_of p.exchanges) ≡ false = sym h.closed ∙ both.0 in
    let count : p.status.answers ≡ length (responses_of p.exchanges) = h.counted ∙ sym (count_of p.exchanges) in
    let other : (length (responses_of p.exchanges) == 100) ≡ false = ap (λ (n : ℕ). n == 100) (sym count) ∙ both.1 in
    rw (stays, other) refl

-- why no further message is answered
why_ended : (s : Status) (ended : Ended) → EndsBy s (Some ended) → (is_closing s ≡ true) ⊎ IsUnfinished s.held
why_ended s told_closed by = inl (rw by.1 refl)
why_ended s told_limit by = inl (let all = by.2 in rw (by.1, all) refl)
why_ended s told_end by = inr by.3

little_ended : MessagesStay → (p : Past) → IsAnsweredAlone p → (is_closing p.status ≡ true → ahead p.status < MESSAGE_LIMIT)
    → (is_closing p.status ≡ true) ⊎ IsUnfinished p.status.held → ahead p.status < MESSAGE_LIMIT
little_ended law p h little why =
    elim (cases_Bool (is_closing p.status)) [
      | inl shut ↦ little shut
      | inr unclosed ↦ elim why [
        | inl shut ↦ apart (is_closing p.status) shut unclosed
        | inr unfinished ↦ (let few = (law.unfinished p.status.held [] unfinished).0 in let none = none_lost p h unclosed in omega arith)
      ]
    ]

over_by : {is_over : Type 0} (p : Past) (ended : Ended) → IsAnsweredAlone p → EndsBy p.status (Some ended)
    → (p.status.is_over ≡ true → is_over) → ending_of (responses_of p.exchanges) ≡ EndOfInput → is_over
over_by p told_closed h by over is = absurd (let no : Closed ≡ EndOfInput = ending_by p told_closed h by ∙ is in cc)
over_by p told_limit h by over is = absurd (let no : Limit ≡ EndOfInput = ending_by p told_limit h by ∙ is in cc)
over_by p told_end h by over is = over by.2

silent_by : (s : Status) (ended : Ended) → EndsBy s (Some ended) → s.waiting ≡ []
silent_by s told_closed by = by.0
silent_by s told_limit by = by.0
silent_by s told_end by = by.0

pub ends : {catalogue : Catalogue} {given given' taken taken' : Option (List ℕ)} {is_over : Type 0} {s : Status} → MessagesStay → (ended : Ended)
    (count : ℕ) → Going catalogue given given' taken taken' is_over s → EndsBy s (Some ended) → count ≡ s.answers
    → Outcome catalogue given given' taken taken' is_over (Ok (record { answers = count; ended = ended }))
ends {catalogue} {s = s} law ended count h by is =
    let p = past h.stream h.text h.exchanges s in
    let why = why_ended s ended by in (
      h.stream,
      h.text,
      h.gave,
      h.took,
      record {
        rs = responses_of h.exchanges;
        answers = (all_from_one law catalogue p h.alone h.from).all why;
        written = all_written catalogue p h.alone h.from (silent_by s ended by);
        counted = is ∙ h.alone.counted ∙ sym (count_of h.exchanges);
        ending = ending_by p ended h.alone by;
        over = over_by p ended h.alone by h.over;
        ahead = little_ahead law p h.alone (little_ended law p h.alone h.little why);
      },
    )

-- a read failed
pub ends_read : {catalogue : Catalogue} {given given' given'' taken taken' : Option (List ℕ)} {is_over : Type 0} {s : Status} (is_over' : Type 0)
    → MessagesStay → Going catalogue given given' taken taken' is_over s → s.waiting ≡ [] → IsOpen s → given'' ≡ append_known given' []
    → Outcome catalogue given given'' taken taken' is_over' (Err Read)
ends_read {catalogue} {given' = given'} {s = s} is_over' law h silent is same =
    let p = past h.stream h.text h.exchanges s in
    let both = neither s.is_closed (s.answers == 100) is.unclosed in
    let stays : list_any (λ (r : Response). r.close) (responses_of h.exchanges) ≡ false = sym h.alone.closed ∙ both.0 in
    let count : s.answers ≡ length (responses_of h.exchanges) = h.alone.counted ∙ sym (count_of h.exchanges) in
    let other : (length (responses_of h.exchanges) == 100) ≡ false = ap (λ (n : ℕ). n == 100) (sym count) ∙ both.1 in (
      h.stream,
      h.text,
      same ∙ known_none given' ∙ h.gave,
      h.took,
      record {
        rs = responses_of h.exchanges;
        answers = (all_from_one law catalogue p h.alone h.from).all (inr is.unfinished);
        written = all_written catalogue p h.alone h.from silent;
        ending = rw (stays, other) refl;
        ahead = little_ahead law p h.alone (little_ended law p h.alone h.little (inr is.unfinished));
      },
    )

-- there is no memory
pub ends_memory : {catalogue : Catalogue} {given given' taken taken' taken'' : Option (List ℕ)} {is_over : Type 0} {s : Status} (is_over' : Type 0)
    → MessagesStay → Going catalogue given given' taken taken' is_over s → s.waiting ≡ [] → taken'' ≡ taken'
    → Outcome catalogue given given' taken taken'' is_over' (Err Memory)
ends_memory {catalogue} {s = s} is_over' law h silent same =
    let p = past h.stream h.text h.exchanges s in (
      h.stream,
      h.text,
      h.gave,
      same ∙ h.took,
      record {
        rs = responses_of h.exchanges;
        answers = (all_from_one law catalogue p h.alone h.from).first;
        written = all_written catalogue p h.alone h.from silent;
      },
    )

-- there is no memory for what came
lost_bytes : {catalogue : Catalogue} {given given' given'' taken taken' : Option (List ℕ)} {is_over : Type 0} {s : Status} (is_over' : Type 0)
    (bytes : List ℕ) {has_failed : Bool} → MessagesStay → Going catalogue given given' taken taken' is_over s → s.waiting ≡ []
    → Gives s given' given'' has_failed bytes → Outcome catalogue given given'' taken taken' is_over' (Err Memory)
lost_bytes {catalogue} {given} {given'} {given''} {s = s} is_over' bytes law h silent gives =
    let alone = bytes_came (past h.stream h.text h.exchanges s) bytes h.alone in (
      h.stream ++ bytes,
      h.text,
      known_more given given' given'' h.stream bytes h.gave gives.gave,
      h.took,
      record {
        rs = responses_of h.exchanges;
        answers = (all_from_one law catalogue (past (h.stream ++ bytes) h.text h.exchanges (after_bytes bytes s)) alone h.from).first;
        written = all_written catalogue (past h.stream h.text h.exchanges s) h.alone h.from silent;
      },
    )

-- what came wasn't taken
pub ends_unread : {catalogue : Catalogue} {given given' given'' taken taken' : Option (List ℕ)} {is_over : Type 0} {s : Status} (is_over' : Type 0)
    (s' : Status) (has_failed : Bool) (e : ServeError) → MessagesStay → Going catalogue given given' taken taken' is_over s → s.waiting ≡ [] → IsOpen s
    → Receives {A = Unit {0}} s s' given' given'' is_over' has_failed (Err e) → Outcome catalogue given given'' taken taken' is_over' (Err e)
ends_unread is_over' s' has_failed Read law h silent is said = ends_read is_over' law h silent is said.same
ends_unread is_over' s' has_failed Write law h silent is said = absurd said
ends_unread is_over' s' has_failed Memory law h silent is said = lost_bytes is_over' said.bytes law h silent said.gives

-- the answer was begun, and then writing failed
ends_write : {catalogue : Catalogue} {given given' taken taken' taken'' : Option (List ℕ)} {is_over : Type 0} {s : Status} {has_failed : Bool}
    → MessagesStay → Answering catalogue given given' taken taken' is_over s → IsBroken taken' taken'' has_failed s.waiting
    → Outcome catalogue given given' taken taken'' is_over (Err Write)
ends_write {catalogue} {taken = taken} {taken' = taken'} {taken'' = taken''} {s = s} law answering broken =
    let h = answering.going in
    let p = past h.stream h.text h.exchanges s in
    let whole = responses_of answering.before in
    let last = answering.last.sent.response in
    let all : responses_of h.exchanges ≡ whole ++ last ∷ [] =
    ap responses_of answering.next ∙ map-append (λ (e : Exchange). e.sent.response) answering.before (answering.last ∷ []) in (
      h.stream,
      h.text ++ broken.written,
      h.gave,
      known_more taken taken' taken'' h.text broken.written h.took broken.took,
      record {
        whole = whole;
        last = last;
        part = broken.written;
        answers = subst (λ (rs : List Response). AreFirstAnswers catalogue h.stream rs) all (all_from_one law catalogue p h.alone h.from).first;
        front = (broken.front.0, broken.front.1 ∙ answering.waits);
        written = ap (λ (xs : List ℕ). xs ++ broken.written) answering.whole;
        ahead = subst (λ (n : ℕ). IsLittleAhead n h.stream) (ap length all ∙ length-append whole (last ∷ [])) (little_ahead law p h.alone answering.little);
      },
    )

-- the next answer wasn't sent whole
pub ends_unsent : {catalogue : Catalogue} {given given' taken taken' taken'' : Option (List ℕ)} {is_over : Type 0} {s s' : Status} (has_failed : Bool)
    (e : ServeError) → MessagesStay → Going catalogue given given' taken taken' is_over s → s.waiting ≡ []
    → Answering catalogue given given' taken taken' is_over s' → Writes {A = Unit {0}} taken' taken'' has_failed s'.waiting (Err e)
    → Outcome catalogue given given' taken taken'' is_over (Err e)
ends_unsent has_failed Read law h silent answering sent = absurd sent
ends_unsent has_failed Write law h silent answering sent = ends_write law answering sent
ends_unsent {is_over = is_over} has_failed Memory law h silent answering sent = ends_memory is_over law h silent sent.same

-- ---- failures

pub unsent_flag : (taken' taken'' : Option (List ℕ)) (text : List ℕ) (has_failed : Bool) (e : ServeError)
    → Writes {A = Unit {0}} taken' taken'' has_failed text (Err e) → (has_failed ≡ write_failed (Err e)) × (read_failed (Err e) ≡ false)
unsent_flag taken' taken'' text has_failed Read sent = absurd sent
unsent_flag taken' taken'' text has_failed Write sent = (sent.failed, refl)
unsent_flag taken' taken'' text has_failed Memory sent = (sent.unfailed, refl)

pub unread_flag : (s s' : Status) (given given' : Option (List ℕ)) (is_over : Type 0) (has_failed : Bool) (e : ServeError)
    → Receives {A = Unit {0}} s s' given given' is_over has_failed (Err e) → (has_failed ≡ read_failed (Err e)) × (write_failed (Err e) ≡ false)
unread_flag s s' given given' is_over has_failed Read said = (said.failed, refl)
unread_flag s s' given given' is_over has_failed Write said = absurd said
unread_flag s s' given given' is_over has_failed Memory said = (said.gives.unfailed, refl)

-- the failure is passed on
pub ends_with : (catalogue : Catalogue) (given given' taken taken' : Option (List ℕ)) (is_over : Type 0)
    (result : Result Served ServeError) (e f : ServeError) → IsErrAnd result (λ x. x ≡ e) → e ≡ f
    → Outcome catalogue given given' taken taken' is_over (Err f) → Outcome catalogue given given' taken taken' is_over result
ends_with catalogue given given' taken taken' is_over (Ok served) e f is same ends = absurd is
ends_with catalogue given given' taken taken' is_over (Err x) e f is same ends =
    subst (λ (y : ServeError). Outcome catalogue given given' taken taken' is_over (Err y)) (sym (is ∙ same)) ends

-- so is what it says of the reader and of the writer
pub told_by : (f : Result Served ServeError → Bool) (result : Result Served ServeError) (e : ServeError) → IsErrAnd result (λ x. x ≡ e) → f result ≡ f (Err e)
told_by f (Ok served) e is = absurd is
told_by f (Err x) e is = ap (λ (y : ServeError). f (Err y)) is

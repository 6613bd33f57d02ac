-- Runs of a connection.
use Rattle.std.proofs.Common.{◌≡◌, ◌==◌, ◌||◌, ℕ, suc, ◌+◌, ◌-◌, ◌≤◌, Bool, true, false, List, [], ◌∷◌, ◌++◌, length, map, take, drop, refl, sym, ap, ◌∙◌, subst, arith, inl, inr, append_assoc, append-nil, length-append, take-append-drop}
use Rattle.std.specs.Prelude.{◌⊎◌}
use Rattle.std.specs.List.{list_any}
use Rattle.std.proofs.lemmas.Bool.{cases_Bool}
use Rattle.std.proofs.lemmas.Bool.Decides.{nat_tests}
use Rattle.std.proofs.lemmas.Grind.{flat_map-append}
use Rattle.std.proofs.lemmas.List.{take_all, take-take, length-map}
use Rattle.std.proofs.Math.Seq.{drop-append_seam}
use Rattle.std.proofs.lemmas.List.Folds.{list_any-append}
use Rattle.http_range.specs.Book.{Catalogue}
use Rattle.http_range.specs.Laws.{MessagesStay}
use Rattle.http_range.specs.Response.{Response, IsAnswer, text_of}
use Rattle.http_range.specs.Stream.{AreAnswers, IsFirstMessage, IsMessage, IsUnfinished, IsAnswered, answers_text}
use Rattle.http_range.specs.Stream.AreAnswers.{full, unfinished, closed, more}
use Rattle.cog_server.specs.Additions.{IsSent, Sent, ServiceState, plain}
use Rattle.cog_server.specs.Status.{is_closing, IsNext, after_message}
use Rattle.cog_server.specs.Run.{Exchange, IsExchange, AreExchanges, messages_of, responses_of, texts_of, Past, IsAnsweredAlone, none_yet, Event, CanHappen, happened, run, CanRun, RunsAreAnswered, AreFrom, RunsAreServed}
use Rattle.cog_server.specs.Run.Event.{Came, Came_to_end, Answered, Wrote}

-- ---- tests and lists

pub neither : (a b : Bool) → (a || b) ≡ false → (a ≡ false) × (b ≡ false)
neither true b e = let clash : true ≡ false = e in cc
neither false b e = (refl, e)

or_end : (b : Bool) → (b || false) ≡ b
or_end true = refl
or_end false = refl

pub apart : {A : Type 0} (b : Bool) → b ≡ true → b ≡ false → A
apart b is isnt = let clash : true ≡ false = sym is ∙ isnt in cc

map_end : {A B : Type 0} (f : A → B) (xs : List A) (x : A) → map f (xs ++ x ∷ []) ≡ map f xs ++ f x ∷ []
map_end f [] x = refl
map_end f (y ∷ xs) x = ap (λ ys. f y ∷ ys) (map_end f xs x)

-- ---- messages

-- a first message is one by itself
alone : (stream message : List ℕ) → IsFirstMessage stream message → IsFirstMessage message message
alone stream message is = record {
  front = take_all (length message) message (omega arith);
  is_one = is.is_one;
  shortest = λ k lt one.
      let few : k ≤ length message = omega (arith, lt) in
      let same : take k message ≡ take k stream = ap (λ (xs : List ℕ). take k xs) (sym is.front) ∙ take-take k (length message) stream few in
      is.shortest k lt (subst IsMessage same one);
}

-- ---- exchanges

one_more : (n : ℕ) (es : List Exchange) (e : Exchange) → AreExchanges n es → list_any (λ r. r.close) (responses_of es) ≡ false
    → IsExchange (n + length es) e → AreExchanges n (es ++ e ∷ [])
one_more n [] e h none is = (let at : n + 0 ≡ n = omega arith in subst (λ (k : ℕ). IsExchange k e) at is, λ _. refl, tt)
one_more n (x ∷ es) e h none is =
    let both = neither x.sent.response.close (list_any (λ (r : Response). r.close) (responses_of es)) none in
    let at : n + suc (length es) ≡ suc n + length es = omega arith in
    (h.0, λ last. apart x.sent.response.close last both.0, one_more (suc n) es e h.2 both.1 (subst (λ (k : ℕ). IsExchange k e) at is))

any_more : (es : List Exchange) (e : Exchange) → list_any (λ r. r.close) (responses_of es) ≡ false
    → e.sent.response.close ≡ list_any (λ r. r.close) (responses_of (es ++ e ∷ []))
any_more es e none =
    sym (ap (list_any (λ (r : Response). r.close)) (map_end (λ (x : Exchange). x.sent.response) es e)
    ∙ list_any-append (λ (r : Response). r.close) (responses_of es) (e.sent.response ∷ [])
    ∙ ap (λ (b : Bool). b || (e.sent.response.close || false)) none ∙ or_end e.sent.response.close)

messages_more : (es : List Exchange) (e : Exchange) → messages_of (es ++ e ∷ []) ≡ messages_of es ++ e.message
messages_more es e =
    flat_map-append (λ (x : Exchange). x.message) es (e ∷ []) ∙ ap (λ (xs : List ℕ). messages_of es ++ xs) (append-nil e.message)

text_more : (es : List Exchange) (e : Exchange) → texts_of (es ++ e ∷ []) ≡ texts_of es ++ e.sent.text
text_more es e =
    flat_map-append (λ (x : Exchange). x.sent.text) es (e ∷ []) ∙ ap (λ (xs : List ℕ). texts_of es ++ xs) (append-nil e.sent.text)

-- ---- events

pub bytes_came : (p : Past) (bytes : List ℕ) → IsAnsweredAlone p → IsAnsweredAlone (happened (Came bytes) p)
bytes_came p bytes h =
    let s = p.status in
    let messages = messages_of p.exchanges in
    let all = ap (λ (xs : List ℕ). xs ++ bytes) h.came ∙ append_assoc messages (s.held ++ h.lost) bytes in
    elim (cases_Bool (is_closing s)) [
      | inl shut ↦ rw shut (record {
        lost = h.lost ++ bytes;
        lawful = h.lawful;
        few = h.few;
        came = all ∙ ap (λ (xs : List ℕ). messages ++ xs) (append_assoc s.held h.lost bytes);
        went = h.went;
        counted = h.counted;
        closed = h.closed;
        dropped = omega (arith, length-append h.lost bytes, h.dropped);
        kept = λ stays. apart (is_closing s) shut stays;
      })
      | inr stays ↦ rw stays (record {
        lost = [];
        lawful = h.lawful;
        few = h.few;
        came = all ∙ ap (λ (xs : List ℕ). messages ++ xs)
            (ap (λ (xs : List ℕ). (s.held ++ xs) ++ bytes) (h.kept stays) ∙ ap (λ (xs : List ℕ). xs ++ bytes) (append-nil s.held)
            ∙ sym (append-nil (s.held ++ bytes)));
        went = h.went;
        counted = h.counted;
        closed = h.closed;
        dropped = h.dropped ∙ ap length (h.kept stays);
        kept = λ _. refl;
      })
    ]

pub end_came : (p : Past) → IsAnsweredAlone p → IsAnsweredAlone (happened Came_to_end p)
end_came p h = record {
  lost = h.lost;
  lawful = h.lawful;
  few = h.few;
  came = h.came;
  went = h.went;
  counted = h.counted;
  closed = h.closed;
  dropped = h.dropped;
  kept = h.kept;
}

pub bytes_written : (p : Past) (n : ℕ) → IsAnsweredAlone p → IsAnsweredAlone (happened (Wrote n) p)
bytes_written p n h = record {
  lost = h.lost;
  lawful = h.lawful;
  few = h.few;
  came = h.came;
  went = append_assoc p.written (take n p.status.waiting) (drop n p.status.waiting)
      ∙ ap (λ (xs : List ℕ). p.written ++ xs) (take-append-drop n p.status.waiting) ∙ h.went;
  counted = h.counted;
  closed = h.closed;
  dropped = h.dropped;
  kept = h.kept;
}

pub one_fewer : (n : ℕ) → n ≤ 100 → (n == 100) ≡ false → n + 1 ≤ 100
one_fewer n few other = grind (arith, nat_tests)

pub answer_given : MessagesStay → (p : Past) (e : Exchange) → IsNext e.service p.status e.message e.sent → IsAnsweredAlone p
    → IsAnsweredAlone (happened (Answered e) p)
answer_given law p e is h =
    let s = p.status in
    let rest = drop (length e.message) s.held in
    let after = after_message e.message e.sent s in
    let open_still = neither s.is_closed (s.answers == 100) is.goes_on in
    let none : list_any (λ (r : Response). r.close) (responses_of p.exchanges) ≡ false = sym h.closed ∙ open_still.0 in
    let split = (law.short s.held e.message is.first).2 in
    let at : s.answers ≡ 0 + length p.exchanges = omega (arith, h.counted) in
    let own : IsExchange s.answers e = record { whole = alone s.held e.message is.first; answers = is.answers } in
    let lawful = one_more 0 p.exchanges e h.lawful none (subst (λ (k : ℕ). IsExchange k e) at own) in
    let closed_now = any_more p.exchanges e none in
    let room : s.answers + 1 ≤ 100 = one_fewer s.answers (subst (λ (n : ℕ). n ≤ 100) (sym h.counted) h.few) open_still.1 in
    let few : length (p.exchanges ++ e ∷ []) ≤ 100 = omega (arith, room, h.counted, length-append p.exchanges (e ∷ [])) in
    let counted : s.answers + 1 ≡ length (p.exchanges ++ e ∷ []) = omega (arith, h.counted, length-append p.exchanges (e ∷ [])) in
    let came : p.given ≡ messages_of (p.exchanges ++ e ∷ []) ++ rest =
    h.came ∙ ap (λ (xs : List ℕ). messages_of p.exchanges ++ (s.held ++ xs)) (h.kept is.goes_on)
    ∙ ap (λ (xs : List ℕ). messages_of p.exchanges ++ xs) (append-nil s.held ∙ sym split)
    ∙ sym (append_assoc (messages_of p.exchanges) e.message rest) ∙ ap (λ (xs : List ℕ). xs ++ rest) (sym (messages_more p.exchanges e)) in
    let went : p.written ++ e.sent.text ≡ texts_of (p.exchanges ++ e ∷ []) =
    ap (λ (xs : List ℕ). xs ++ e.sent.text)
    (sym (append-nil p.written) ∙ ap (λ (xs : List ℕ). p.written ++ xs) (sym is.written) ∙ h.went) ∙ sym (text_more p.exchanges e) in
    elim (cases_Bool (is_closing after)) [
      | inl shut ↦ rw shut (record {
        lost = rest;
        lawful = lawful;
        few = few;
        came = came;
        went = went;
        counted = counted;
        closed = closed_now;
        dropped = refl;
        kept = λ stays. apart (is_closing after) shut stays;
      })
      | inr stays ↦ rw stays (record {
        lost = [];
        lawful = lawful;
        few = few;
        came = came ∙ ap (λ (xs : List ℕ). messages_of (p.exchanges ++ e ∷ []) ++ xs) (sym (append-nil rest));
        went = went;
        counted = counted;
        closed = closed_now;
        dropped = h.dropped ∙ ap length (h.kept is.goes_on);
        kept = λ _. refl;
      })
    ]

-- ---- one catalogue

-- the stream begins with the message
pub first_of : MessagesStay → (message later : List ℕ) (es : List Exchange) → IsFirstMessage message message
    → IsFirstMessage ((message ++ messages_of es) ++ later) message
first_of law message later es whole =
    subst (λ (xs : List ℕ). IsFirstMessage xs message) (sym (append_assoc message (messages_of es) later))
    (law.found message message (messages_of es ++ later) whole)

pub behind : (message later : List ℕ) (es : List Exchange) → drop (length message) ((message ++ messages_of es) ++ later) ≡ messages_of es ++ later
behind message later es =
    ap (λ (xs : List ℕ). drop (length message) xs) (append_assoc message (messages_of es) later) ∙ drop-append_seam message (messages_of es ++ later)

-- where nothing is added, the answer of the table is sent
plain_answer : (catalogue : Catalogue) (n : ℕ) (message : List ℕ) (sent : Sent) → IsSent (plain catalogue) n message sent
    → IsAnswer catalogue message sent.response
plain_answer catalogue n message sent is = (is.seen, is.reads, ap (λ (x : Sent). x.response) is.is)

-- and its text
pub plain_text : (catalogue : Catalogue) (n : ℕ) (message : List ℕ) (sent : Sent) → IsSent (plain catalogue) n message sent
    → sent.text ≡ text_of sent.response
plain_text catalogue n message sent is = ap (λ (x : Sent). x.text) is.is ∙ sym (ap (λ (x : Sent). text_of x.response) is.is)

from_plain : (catalogue : Catalogue) (n : ℕ) (e : Exchange) → e.service ≡ plain catalogue → IsExchange n e → IsSent (plain catalogue) n e.message e.sent
from_plain catalogue n e same is = subst (λ (s : ServiceState). IsSent s n e.message e.sent) same is.answers

texts_plain : (catalogue : Catalogue) (n : ℕ) (es : List Exchange) → AreExchanges n es → AreFrom (plain catalogue) es
    → texts_of es ≡ answers_text (responses_of es)
texts_plain catalogue n [] lawful from = refl
texts_plain catalogue n (e ∷ es) lawful from =
    ap (λ (xs : List ℕ). xs ++ texts_of es) (plain_text catalogue n e.message e.sent (from_plain catalogue n e from.0 lawful.0))
    ∙ ap (λ (xs : List ℕ). text_of e.sent.response ++ xs) (texts_plain catalogue (suc n) es lawful.2 from.1)

-- so what is written and what waits are the answers of the table
pub went_plain : (catalogue : Catalogue) (p : Past) → IsAnsweredAlone p → AreFrom (plain catalogue) p.exchanges
    → p.written ++ p.status.waiting ≡ answers_text (responses_of p.exchanges)
went_plain catalogue p h from = h.went ∙ texts_plain catalogue 0 p.exchanges h.lawful from

answered : MessagesStay → (catalogue : Catalogue) (n : ℕ) (es : List Exchange) (later : List ℕ) (left total : ℕ) → total ≡ length es + left
    → AreExchanges n es → AreFrom (plain catalogue) es → (list_any (λ r. r.close) (responses_of es) ≡ false → AreAnswers catalogue left later [])
    → AreAnswers catalogue total (messages_of es ++ later) (responses_of es)
answered law catalogue n [] later left total is lawful from last =
    let same : left ≡ total = omega (arith, is) in subst (λ (n : ℕ). AreAnswers catalogue n later []) same (last refl)
answered law catalogue n (e ∷ es) later left total is lawful from last =
    let same : suc (length es + left) ≡ total = omega (arith, is) in
    let first = first_of law e.message later es lawful.0.whole in
    let r = e.sent.response in
    let answers = plain_answer catalogue n e.message e.sent (from_plain catalogue n e from.0 lawful.0) in
    subst (λ (n : ℕ). AreAnswers catalogue n ((e.message ++ messages_of es) ++ later) (r ∷ responses_of es)) same
    (elim (cases_Bool r.close) [
      | inl shut ↦ subst (λ (xs : List Response). AreAnswers catalogue (suc (length es + left)) ((e.message ++ messages_of es) ++ later) (r ∷ xs))
          (ap responses_of (sym (lawful.1 shut)))
          (closed (length es + left) ((e.message ++ messages_of es) ++ later) e.message r first answers shut)
      | inr stays ↦ more (length es + left) ((e.message ++ messages_of es) ++ later) e.message r (responses_of es) first answers stays
          (subst (λ (xs : List ℕ). AreAnswers catalogue (length es + left) xs (responses_of es)) (sym (behind e.message later es))
          (answered law catalogue (suc n) es later left (length es + left) refl lawful.2 from.1 (λ none. last (rw stays none))))
    ])

hundred : (n : ℕ) → (n == 100) ≡ true → n ≡ 100
hundred n e = grind (arith, nat_tests)

pub second : (a b : Bool) → (a || b) ≡ true → a ≡ false → b ≡ true
second true b e isnt = let clash : true ≡ false = isnt in cc
second false b e isnt = e

all_served : MessagesStay → (catalogue : Catalogue) (p : Past) → IsAnsweredAlone p → AreFrom (plain catalogue) p.exchanges
    → (is_closing p.status ≡ true) ⊎ IsUnfinished p.status.held → IsAnswered catalogue p.given (responses_of p.exchanges)
all_served law catalogue p h from why =
    let s = p.status in
    let rest = s.held ++ h.lost in
    let n = length p.exchanges in
    let few = h.few in
    let total : 100 ≡ n + (100 - n) = omega (arith, few) in
    let last : list_any (λ (r : Response). r.close) (responses_of p.exchanges) ≡ false → AreAnswers catalogue (100 - n) rest [] = λ none.
    elim (cases_Bool (is_closing s)) [
      | inl shut ↦ (let all = hundred s.answers (second s.is_closed (s.answers == 100) shut (h.closed ∙ none)) in
          let over : 0 ≡ 100 - n = omega (arith, all, h.counted) in subst (λ (k : ℕ). AreAnswers catalogue k rest []) over (full rest))
      | inr stays ↦ elim why [
        | inl shut ↦ apart (is_closing s) shut stays
        | inr none_whole ↦ (let other = (neither s.is_closed (s.answers == 100) stays).1 in
            let some = one_fewer s.answers (subst (λ (k : ℕ). k ≤ 100) (sym h.counted) h.few) other in
            let left : suc (99 - n) ≡ 100 - n = omega (arith, some, h.counted) in
            let same : s.held ≡ rest = sym (append-nil s.held) ∙ ap (λ (xs : List ℕ). s.held ++ xs) (sym (h.kept stays)) in
            subst (λ (k : ℕ). AreAnswers catalogue k rest []) left
            (unfinished (99 - n) rest (subst IsUnfinished same none_whole)))
      ]
    ] in
    subst (λ (xs : List ℕ). AreAnswers catalogue 100 xs (responses_of p.exchanges)) (sym h.came)
    (answered law catalogue 0 p.exchanges rest (100 - n) 100 total h.lawful from last)

first_served : MessagesStay → (catalogue : Catalogue) (p : Past) → IsAnsweredAlone p → AreFrom (plain catalogue) p.exchanges
    → AreAnswers catalogue (length (responses_of p.exchanges)) p.given (responses_of p.exchanges)
first_served law catalogue p h from =
    let rest = p.status.held ++ h.lost in
    let total : length (responses_of p.exchanges) ≡ length p.exchanges + 0 = omega (arith, length-map p.exchanges (λ (e : Exchange). e.sent.response)) in
    subst (λ (xs : List ℕ). AreAnswers catalogue (length (responses_of p.exchanges)) xs (responses_of p.exchanges)) (sym h.came)
    (answered law catalogue 0 p.exchanges rest 0 (length (responses_of p.exchanges)) total h.lawful from (λ _. full rest))

pub all_from_one : MessagesStay → RunsAreServed
all_from_one law catalogue p h from = record {
  first = record {
    few = (let few = h.few in omega (arith, few, length-map p.exchanges (λ (e : Exchange). e.sent.response)));
    answers = first_served law catalogue p h from;
  };
  sent = texts_plain catalogue 0 p.exchanges h.lawful from;
  all = all_served law catalogue p h from;
}

-- ---- all events

one_event : MessagesStay → (e : Event) (p : Past) → CanHappen e p.status → IsAnsweredAlone p → IsAnsweredAlone (happened e p)
one_event law (Came bytes) p can h = bytes_came p bytes h
one_event law Came_to_end p can h = end_came p h
one_event law (Answered e) p can h = answer_given law p e can h
one_event law (Wrote n) p can h = bytes_written p n h

all_events : MessagesStay → (es : List Event) (p : Past) → CanRun es p → IsAnsweredAlone p → IsAnsweredAlone (run es p)
all_events law [] p can h = h
all_events law (e ∷ es) p can h = all_events law es (happened e p) can.1 (one_event law e p can.0 h)

pub none_answered : IsAnsweredAlone none_yet
none_answered = record {
  lost = [];
  lawful = tt;
  few = omega arith;
  came = refl;
  went = refl;
  counted = refl;
  closed = refl;
  dropped = refl;
  kept = λ _. refl;
}

pub all_answered : MessagesStay → RunsAreAnswered
all_answered law events can = all_events law events none_yet can none_answered

-- What a query, an exchange and their ends make of a history.
use Rattle.std.proofs.Common.{◌≡◌, ℕ, suc, ◌+◌, ◌-◌, ◌<◌, Bool, true, false, List, [], ◌∷◌, ◌++◌, length, take, Option, Some, None, refl, sym, ap, ◌∙◌, subst, arith, inl, inr, append-nil, length-take, take-append-drop}
use Rattle.std.specs.Prelude.{IfOk, OnOk, Result, Ok, Err, ◌&&◌, if◌then◌else◌}
use Rattle.std.specs.Str.{bytes_eq}
use Rattle.std.proofs.lemmas.Bool.{cases_Bool}
use Rattle.std.proofs.lemmas.Slice.Eq.{bytes_eq-Decides}
use Rattle.client_connection.specs.declared.parts.Part.{Part}
use Rattle.client_connection.specs.declared.parts.Part.TheVariants.{Again, Begun, Body, Head, Interim, Refused, Stray}
use Rattle.client_connection.specs.declared.parts.Turn.{Turn}
use Rattle.client_connection.specs.declared.parts.Turn.TheVariants.{Anew, Sends, Sent}
use Rattle.client_connection.specs.Status.{Status, Takes, after_ask, after_finish, after_gone, head_left, is_again, over, turn_after, turn_of, turned, is_between}
use Rattle.client_connection.specs.Run.{AnswersAreInOrder, Connection, IsLive, Past, asks, happened, none_yet}
use Rattle.client_connection.specs.Run.Event.{Asked, Came, Ended, Finished, Gone}
use Rattle.cog_client.specs.declared.delivered.Delivered.{Delivered}
use Rattle.cog_client.specs.Client.{ClientState}
use Rattle.cog_client.specs.FedClient.{AnswersBeginAnywhere, Fed}
use Rattle.cog_client.specs.Keeps.{RequestsKeeping, StopsAsking}
use Rattle.client_dialogue.specs.History.{AreOwn, Exchange, IsFresh, IsPlaced, IsRound, IsUnder, Round, Talk, begun, connections_of, fed_of, past_of}
use Rattle.client_dialogue.specs.History.Round.{Made, Rested, Unasked}
use Rattle.client_dialogue.specs.Goes.{BeginsAnew, Fails, Goes, IsUsed, KeepsUsed, MakesNone, MakesOne, Stays}
use Rattle.client_dialogue.specs.Inside.{Concludes, Halts, HasGoneOn, IsConcluded, IsFedBy, IsHaltedBy, after_put, given_up}
use Rattle.client_dialogue.specs.declared.step.Exchanged.{Exchanged}
use Rattle.client_dialogue.specs.declared.step.Step.{Step}
use Rattle.client_dialogue.specs.declared.step.Step.TheVariants.{Exchanged as AnExchange, More}
use Rattle.client_dialogue.specs.Goes.{rounds_of}
use Rattle.client_dialogue.proofs.EventLemmas.{can-end, own_next, run-end, same_came}
use Rattle.client_dialogue.proofs.HistoryLemmas.{IsQuiet, IsTextOf, begun_goes, begun_on, body_goes, both_true, build, ended_adds, ends_goes, exposed, few_at, gone_adds, halted_goes, live_of, made_goes, next, none_goes, open_fresh, quiet_goes, then_let_go, under_false, under_true}

abbrev exchanged_of : Exchanged → Step → Exchanged
exchanged_of x (AnExchange e) = e
exchanged_of x step = x

exchange_of : (x e : Exchanged) → AnExchange x ≡ AnExchange e → x ≡ e
exchange_of x e same = ap (exchanged_of x) same

-- ---- queries

pub begins_idle : (t : Talk) (n : ℕ) → t.asked ≡ false → BeginsAnew n t (record t { exchanges = n })
begins_idle t n idle = λ start allowed h c d is.
    let u = under_false start allowed h t c is idle in (
      record { events = h.events; rounds = []; last = d; request = [] },
      ([], sym (append-nil h.events)),
      refl,
      record {
        can = is.can;
        status = is.status;
        rounds = refl;
        under = subst (λ (b : Bool). IsUnder b d [] (past_of h).front t.status d) (sym idle) (refl, u.1);
        own = tt;
        few = subst (λ (b : Bool). 0 + (n + (if b then 1 else 0)) ≡ n) (sym idle) (omega arith);
      },
    )

pub begins_busy : (t : Talk) (n : ℕ) → BeginsAnew n t (record t { status = over []; asked = false; exchanges = n })
begins_busy t n = λ start allowed h c d is.
    let same = sym (run-end h.events Ended none_yet) in (
      record { events = h.events ++ Ended ∷ []; rounds = []; last = d; request = [] },
      (Ended ∷ [], refl),
      refl,
      record {
        can = can-end h.events Ended none_yet is.can tt;
        status = subst (λ (p : Past). p.status ≡ over []) same refl;
        rounds = refl;
        under = (refl, refl);
        own = tt;
        few = omega arith;
      },
    )

pub begins_over : (t : Talk) → t.asked ≡ false → BeginsAnew t.exchanges t (record t { status = over [] })
begins_over t idle =
    subst (λ (b : Bool). BeginsAnew t.exchanges t (record t { status = over []; asked = b })) (sym idle) (begins_busy t t.exchanges)

-- ---- requests

same_text : (o text : List ℕ) → bytes_eq o text ≡ true → o ≡ text
same_text o text e = grind (arith, bytes_eq-Decides)

sent_first : (out : List (List ℕ)) (text : List ℕ) → turn_after out text ≡ Sent → (early : List (List ℕ)) × (out ≡ text ∷ early)
sent_first [] text e = (let clash : Sends ≡ Sent = e in cc)
sent_first (o ∷ os) text e = elim (cases_Bool (bytes_eq o text)) [
  | inl same ↦ (os, ap (λ (t : List ℕ). t ∷ os) (same_text o text same))
  | inr other ↦ (let clash : Anew ≡ Sent = rw other at e in cc)
]

sends_first : (out : List (List ℕ)) (text : List ℕ) → turn_after out text ≡ Sends → out ++ text ∷ [] ≡ text ∷ []
sends_first [] text e = refl
sends_first (o ∷ os) text e = elim (cases_Bool (bytes_eq o text)) [
  | inl same ↦ (let clash : Sent ≡ Sends = rw same at e in cc)
  | inr other ↦ (let clash : Anew ≡ Sends = rw other at e in cc)
]

-- a request that comes on the connection comes after those that are out
on_it : (t : Turn) (text : List ℕ) (s : Status) → (t ≡ Anew → ⊥) → turn_of text s ≡ t → turn_after s.out text ≡ t
on_it t text s other e = elim (cases_Bool (s.is_open && is_between s)) [
  | inl opens ↦ rw opens at e
  | inr none ↦ absurd (other (sym (rw none at e)))
]

turned_first : (t : Turn) (text : List ℕ) (s : Status) → turn_of text s ≡ t → (early : List (List ℕ)) × ((turned t text s).out ≡ text ∷ early)
turned_first Sent text s e = sent_first s.out text (on_it Sent text s (λ x. let clash : Sent ≡ Anew = x in cc) e)
turned_first Sends text s e = ([], sends_first s.out text (on_it Sends text s (λ x. let clash : Sends ≡ Anew = x in cc) e))
turned_first Anew text s e = ([], refl)

turned_left : (t : Turn) (text : List ℕ) (s : Status) → s.left ≡ None → (turned t text s).left ≡ None
turned_left Sent text s e = e
turned_left Sends text s e = e
turned_left Anew text s e = refl

turned_fresh : (turn : Turn) (text : List ℕ) (s : Status) → IsFresh s → IsFresh (turned turn text s)
turned_fresh Sent text s h = h
turned_fresh Sends text s h = h
turned_fresh Anew text s h = λ shut. (refl, refl)

ask_fresh : (text : List ℕ) (s : Status) → IsFresh (after_ask text s)
ask_fresh text s = elim (cases_Bool (s.is_open && is_between s)) [
  | inl both ↦ turned_fresh (turn_of text s) text s (open_fresh s (both_true s.is_open (is_between s) both).0)
  | inr other ↦ rw other (λ shut. (refl, refl))
]

pub put_goes : AnswersBeginAnywhere → (t : Talk) (before c : ClientState) (text : List ℕ) → t.asked ≡ false → 0 < t.exchanges
    → RequestsKeeping before (Some text) c
    → Goes Stays [] t before (after_put text t) c
put_goes begins t before c text idle some asks = λ start allowed h is.
    let u = under_false start allowed h t before is idle in
    let few = few_at start allowed h t before false is idle in
    let s = after_ask text t.status in
    let left : s.left ≡ None = turned_left (turn_of text t.status) text t.status u.1 in (
      next h (Asked text) h.rounds h.last text,
      record { more = Asked text ∷ []; events = refl; taken = inl refl; early = tt; made = refl },
      build start allowed h t before is (Asked text) h.rounds h.last text (after_put text t) c tt
          (ap (after_ask text) is.status) is.rounds (
            c,
            subst (λ (x : ClientState). RequestsKeeping x (Some text) c) u.0 asks,
            subst (λ (o : Option ℕ). Fed c (fed_of o (past_of h).front) c) (sym left) (begins c asks.seen.feed),
            turned_first (turn_of text t.status) text t.status refl,
            ask_fresh text t.status,
          )
          (own_next (Asked text) (past_of h) h.rounds is.own) (omega (arith, few, some)),
    )

pub put_fails : AnswersBeginAnywhere → (t : Talk) (before c : ClientState) (text : List ℕ) → t.asked ≡ false → 0 < t.exchanges
    → RequestsKeeping before (Some text) c
    → Goes Fails [] t before (record t { status = over []; asked = false; exchanges = t.exchanges - 1 }) c
put_fails begins t before c text idle some asks =
    exposed Fails [] t before (given_up (after_put text t)) c t.looks t.early t.useful
    (then_let_go [] t before (after_put text t) c refl (put_goes begins t before c text idle some asks))

-- a turn of the client in which nothing happens on a connection
turn_goes : (rounds : List Round → List Round → Type 0) (r : Round) (t : Talk) (c d : ClientState) → t.asked ≡ false → IsRound r c d
    → ((rs : List Round) → (begun (r ∷ rs) ≡ begun rs) × rounds rs (r ∷ rs) × ((cs : List Connection) → AreOwn rs cs → AreOwn (r ∷ rs) cs))
    → Goes rounds [] t c t d
turn_goes rounds r t c d idle is_round same = λ start allowed h is.
    let u = under_false start allowed h t c is idle in
    let facts = same h.rounds in (
      record { events = h.events; rounds = r ∷ h.rounds; last = d; request = h.request },
      record { more = []; events = sym (append-nil h.events); taken = inl refl; early = tt; made = facts.1 },
      record {
        can = is.can;
        status = is.status;
        rounds = (h.last, is.rounds, subst (λ (x : ClientState). IsRound r x d) u.0 is_round);
        under = subst (λ (b : Bool). IsUnder b d h.request (past_of h).front t.status d) (sym idle) (refl, u.1);
        own = facts.2 (connections_of (past_of h)) is.own;
        few = ap (λ (n : ℕ). n + (t.exchanges + (if t.asked then 1 else 0))) facts.0 ∙ is.few;
      },
    )

pub rests_goes : (t : Talk) (c d : ClientState) → t.asked ≡ false → RequestsKeeping c None d → Goes MakesNone [] t c t d
rests_goes t c d idle asks = turn_goes MakesNone Rested t c d idle asks (λ rs. (refl, inr refl, λ cs own. own))

pub unasked_goes : (t : Talk) (c d : ClientState) → t.asked ≡ false → StopsAsking c d → Goes Fails [] t c t d
unasked_goes t c d idle stops = turn_goes Fails Unasked t c d idle stops (λ rs. (refl, inr (inl refl), λ cs own. own))

-- ---- the answer is whole

-- it stands at the place of the first request that is out
placed_now : (p : Past) (request text : List ℕ) (early : List (List ℕ)) (what : Delivered) → IsLive p → p.status.out ≡ request ∷ early → text ≡ p.front
    → IsPlaced (record { request = request; text = text; whole = true; what = what }) (record (p.now) { texts = p.now.texts ++ p.front ∷ [] })
placed_now p request text early what l out same = record {
  asked_before = take (length p.now.texts) p.now.asked;
  asked_after = early;
  asked =
      sym (take-append-drop (length p.now.texts) p.now.asked)
      ∙ ap (λ (ts : List (List ℕ)). take (length p.now.texts) p.now.asked ++ ts) (sym l.out ∙ out);
  texts_before = p.now.texts;
  texts_after = [];
  texts = ap (λ (xs : List ℕ). p.now.texts ++ xs ∷ []) (sym same);
  place = omega (arith, l.order.few, length-take (length p.now.texts) p.now.asked);
}

finish_left : (s : Status) → (after_finish s).left ≡ None
finish_left s = elim (cases_Bool s.closes) [
  | inl closes ↦ rw closes refl
  | inr stays ↦ rw stays refl
]

finished_goes : AnswersAreInOrder → (t : Talk) (c d : ClientState) (what : Delivered) → t.asked ≡ true → t.status.is_open ≡ true
    → t.status.left ≡ Some 0 → Concludes [] what c d
    → Goes (MakesOne what) [] t c (record t { status = after_finish t.status; asked = false }) d
finished_goes order t c d what busy opens whole takes =
    ends_goes (MakesOne what) [] t c d (after_finish t.status) Finished busy (opens, whole) (inl refl) tt (λ p same. ap after_finish same)
    (finish_left t.status) (λ h can same u.
    let text = (past_of h).front ++ [] in
    let made : Exchange = record { request = h.request; text = text; whole = true; what = what } in
    let fed : Fed u.0 (past_of h).front c = subst (λ (o : Option ℕ). Fed u.0 (fed_of o (past_of h).front) c) whole u.2 in
    let l = live_of order h t.status can same opens in
    let out : (past_of h).status.out ≡ h.request ∷ u.3.0 = ap (λ (x : Status). x.out) same ∙ u.3.1 in (
      Made made,
      (u.0, u.1, takes u.0 (past_of h).front fed),
      refl,
      (made, refl, refl),
      (λ own. (
        inl (inl (
          begun_on (past_of h) (happened Finished (past_of h)).now made u.3.0 [] l out refl (same_came (past_of h).now) ([], sym (append-nil text)),
          (λ is. placed_now (past_of h) h.request text u.3.0 what l out (append-nil (past_of h).front)),
        )),
        own,
      )),
    ))

-- the connection is ended
pub ended_goes : AnswersAreInOrder → (t : Talk) (c d : ClientState) (what : Delivered) → t.asked ≡ true → Concludes [] what c d
    → Goes (MakesOne what) [] t c (given_up t) d
ended_goes order t c d what busy takes =
    made_goes order [] [] [] t c d (over []) Ended what busy tt (inl refl) tt (λ p same. refl) refl ended_adds (λ shut. refl) (inl refl) takes

pub finish_goes : AnswersAreInOrder → (t : Talk) (c d : ClientState) (u : Talk) (what : Delivered) → t.asked ≡ true → t.status.is_open ≡ true
    → Concludes [] what c d → HasGoneOn what (record t { asked = false }) u → Goes (MakesOne what) [] t c u d
finish_goes order t c d u what busy opens takes gone = elim gone [
  | inl went ↦ subst (λ (x : Talk). Goes (MakesOne what) [] t c x d) (sym went.1) (finished_goes order t c d what busy opens went.0 takes)
  | inr ended ↦ subst (λ (x : Talk). Goes (MakesOne what) [] t c x d) (sym ended.0)
      (ended_goes order t c d what busy takes)
]

-- after a whole answer that was used the connection stays
pub used_stays : (t u : Talk) (what : Delivered) → t.status.is_open ≡ true → HasGoneOn what (record t { asked = false }) u
    → t.status.left ≡ Some 0 → t.status.closes ≡ false → IsUsed what → u.status.is_open ≡ true
used_stays t u what opens gone whole stays used = elim gone [
  | inl went ↦ rw went.1 (rw stays opens)
  | inr ended ↦ absurd (ended.1 (whole, used))
]

pub used_step : (t u : Talk) (x : Exchanged) → t.status.is_open ≡ true → HasGoneOn x.delivered (record t { asked = false }) u
    → KeepsUsed t.status (AnExchange x) u.status
used_step t u x opens gone = λ e same whole stays used.
    used_stays t u x.delivered opens gone whole stays (subst (λ (y : Exchanged). IsUsed y.delivered) (sym (exchange_of x e same)) used)

-- ---- a connection that is lost

gone_left : (s : Status) → (after_gone s).left ≡ None
gone_left s = elim (cases_Bool (is_again s)) [
  | inl again ↦ rw again refl
  | inr other ↦ rw other refl
]

left_text : (s : Status) (o : Option ℕ) → s.left ≡ o → IsTextOf (head_left o s.head) [] s
left_text s None is = inr (is, sym (append-nil s.head))
left_text s (Some n) is = inl refl

-- what is left of the head then
gone_text : (s : Status) → IsTextOf (after_gone s).head [] s
gone_text s = elim (cases_Bool (is_again s)) [
  | inl again ↦ rw again (inl refl)
  | inr other ↦ rw other (left_text s s.left refl)
]

pub lost_goes : AnswersAreInOrder → (text : List ℕ) (t : Talk) (c d : ClientState) (what : Delivered) → t.asked ≡ true → IsTextOf text [] t.status
    → Concludes text what c d
    → Goes (MakesOne what) [] t c (record t { status = after_gone t.status; asked = false }) d
lost_goes order text t c d what busy is takes =
    made_goes order [] text [] t c d (after_gone t.status) Gone what busy tt (inl refl) tt (λ p same. ap after_gone same) (gone_left t.status)
    gone_adds (λ shut. refl) is takes

pub stopped_goes : (text : List ℕ) (t : Talk) (c d : ClientState) → t.asked ≡ true → Halts text c d → Goes Fails [] t c (given_up t) d
stopped_goes text t c d busy halts = halted_goes [] text t c d (over []) Ended busy tt (inl refl) tt (λ p same. refl) refl halts

-- ---- parts

more_step : (bytes : List ℕ) (step : Step) (t : Talk) (c : ClientState) (v u : Talk) (d : ClientState) → step ≡ More → u ≡ v
    → Goes Stays bytes t c v d → Goes (rounds_of step) bytes t c u d
more_step bytes step t c v u d more same goes =
    subst (λ (x : Step). Goes (rounds_of x) bytes t c u d) (sym more)
    (subst (λ (x : Talk). Goes MakesNone bytes t c x d) (sym same) (none_goes bytes t c v d goes))

quiet_step : (part : Part) (bytes : List ℕ) (step : Step) (t : Talk) (c : ClientState) (s : Status) (u : Talk) (d : ClientState)
    → t.asked ≡ true → t.status.is_open ≡ true → Takes part bytes t.status s → (¬ (part ≡ Stray) → 0 < length t.status.out) → IsQuiet part
    → (step ≡ More) × (u ≡ record t { status = s }) × (d ≡ c) → Goes (rounds_of step) bytes t c u d
quiet_step part bytes step t c s u d busy opens takes own quiet fed =
    subst (λ (x : ClientState). Goes (rounds_of step) bytes t c u x) (sym fed.2)
    (more_step bytes step t c (record t { status = s }) u c fed.0 fed.1 (quiet_goes part bytes t c s busy opens takes own quiet))

pub fed_goes : AnswersAreInOrder → (part : Part) (bytes : List ℕ) (step : Step) (t : Talk) (c : ClientState) (s : Status) (u : Talk) (d : ClientState)
    → t.asked ≡ true → t.status.is_open ≡ true → Takes part bytes t.status s → (¬ (part ≡ Stray) → 0 < length t.status.out)
    → IsFedBy part bytes step (record t { status = s }) c u d → Goes (rounds_of step) bytes t c u d
fed_goes order Head bytes step t c s u d busy opens takes own fed =
    quiet_step Head bytes step t c s u d busy opens takes own tt fed
fed_goes order Interim bytes step t c s u d busy opens takes own fed =
    quiet_step Interim bytes step t c s u d busy opens takes own tt fed
fed_goes order Again bytes step t c s u d busy opens takes own fed =
    quiet_step Again bytes step t c s u d busy opens takes own tt fed
fed_goes order Begun bytes step t c s u d busy opens takes own fed =
    more_step bytes step t c (record t { status = s; useful = fed.1.0 }) u d fed.0 fed.1.2
    (exposed Stays bytes t c (record t { status = s }) d t.looks t.early fed.1.0 (begun_goes order bytes t c d s busy opens takes own fed.2))
fed_goes order Body bytes step t c s u d busy opens takes own fed =
    more_step bytes step t c (record t { status = s; useful = t.useful - length bytes }) u d fed.0 fed.1
    (exposed Stays bytes t c (record t { status = s }) d t.looks t.early (t.useful - length bytes) (body_goes bytes t c d s busy opens takes own fed.2))
fed_goes order Refused bytes step t c s u d busy opens takes own fed =
    subst (λ (x : Step). Goes (rounds_of x) bytes t c u d) (sym fed.1)
    (subst (λ (x : Talk). Goes (MakesOne fed.0.delivered) bytes t c x d) (sym fed.2)
    (made_goes order bytes s.head bytes t c d s (Came Refused bytes s) fed.0.delivered busy (opens, takes, own) (inl (append-nil bytes)) tt (λ p same. refl)
    (rw takes.1.1 refl) (λ p. (refl, refl)) (λ shut. let clash : false ≡ true = sym shut ∙ opens in cc) (inr (takes.0, rw takes.1.1 refl)) fed.3))
fed_goes order Stray bytes step t c s u d busy opens takes own fed = λ start allowed h is.
    let v = under_true start allowed h t c is busy in
    let clash : 0 ≡ suc (length v.3.0) = ap length (sym takes.0 ∙ v.3.1) in
    absurd (omega (arith, clash))

pub halt_goes : (part : Part) (bytes : List ℕ) (t : Talk) (c : ClientState) (s : Status) (u : Talk) (d : ClientState)
    → t.asked ≡ true → IsHaltedBy part bytes (record t { status = s }) c u d → Goes Fails [] t c u d
halt_goes Head bytes t c s u d busy halted = absurd halted
halt_goes Interim bytes t c s u d busy halted = absurd halted
halt_goes Again bytes t c s u d busy halted = absurd halted
halt_goes Begun bytes t c s u d busy halted =
    subst (λ (x : Talk). Goes Fails [] t c x d) (sym halted.0) (stopped_goes s.head t c d busy halted.1)
halt_goes Body bytes t c s u d busy halted =
    subst (λ (x : Talk). Goes Fails [] t c x d) (sym halted.0) (stopped_goes bytes t c d busy halted.1)
halt_goes Refused bytes t c s u d busy halted =
    subst (λ (x : Talk). Goes Fails [] t c x d) (sym halted.0) (stopped_goes s.head t c d busy halted.1)
halt_goes Stray bytes t c s u d busy halted =
    subst (λ (x : Talk). Goes Fails [] t c x d) (sym halted.0) (stopped_goes s.head t c d busy halted.1)

-- ---- results

pub sent_step : {E : Type 0} (r : Result Step E) (t : Talk) (before : ClientState) (text : List ℕ) (u : Talk) (c : ClientState)
    → RequestsKeeping before (Some text) c
    → OnOk r ((b : ClientState) → RequestsKeeping b (Some text) c → Goes Stays [] t b u c)
    → IfOk r (λ step. (step ≡ More) × (u.asked ≡ true)) → IfOk r (λ step. Goes (rounds_of step) [] t before u c)
sent_step (Err e) t before text u c asks goes says = tt
sent_step (Ok step) t before text u c asks goes says = more_step [] step t before u u c says.0 refl (goes before asks)

pub head_step : AnswersAreInOrder → {E : Type 0} (r : Result Step E) (t now : Talk) (c : ClientState) (s : Status) (u : Talk) (d : ClientState) → t ≡ now → t.asked ≡ true
    → s ≡ after_gone t.status → IfOk r (λ step. IsConcluded step (record t { status = s }) c u d)
    → IfOk r (λ step. Goes (rounds_of step) [] now c u d)
head_step order (Err e) t now c s u d same busy gone done = tt
head_step order (Ok step) t now c s u d same busy gone done =
    subst (λ (x : Step). Goes (rounds_of x) [] now c u d) (sym done.1)
    (subst (λ (x : Talk). Goes (MakesOne done.0.delivered) [] x c u d) same
    (subst (λ (x : Talk). Goes (MakesOne done.0.delivered) [] t c x d)
    (sym (done.2 ∙ ap (λ (x : Status). record t { status = x; asked = false }) gone))
    (lost_goes order s.head t c d done.0.delivered busy (subst (λ (x : Status). IsTextOf x.head [] t.status) (sym gone) (gone_text t.status)) done.3)))

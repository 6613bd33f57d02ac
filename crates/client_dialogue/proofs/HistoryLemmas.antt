-- Histories go on by what each call does.
use Rattle.std.proofs.Common.{◌≡◌, ◌⊎◌, ℕ, ◌+◌, ◌<◌, ◌≤◌, Bool, true, false, List, [], ◌∷◌, ◌++◌, length, take, Option, Some, None, refl, sym, ap, ◌∙◌, subst, arith, inl, inr, append_assoc, append-nil, length-take, take-append-drop}
use Rattle.std.specs.Prelude.{⊤, ◌&&◌, if◌then◌else◌, is_none, not}
use Rattle.std.proofs.lemmas.Bool.{cases_Bool}
use Rattle.client_connection.specs.Answers.{bytes_of}
use Rattle.client_connection.specs.declared.parts.Part.{Part}
use Rattle.client_connection.specs.declared.parts.Part.TheVariants.{Again, Begun, Body, Head, Interim, Refused, Stray}
use Rattle.client_connection.specs.Status.{Status, Takes, after_gone, after_open, after_write, is_again, is_empty, over, sends, is_between}
use Rattle.client_connection.specs.Run.{AnswersAreInOrder, CanHappen, CanRun, Connection, Event, IsLive, IsNow, IsUnderWay, Past, happened, none_yet}
use Rattle.client_connection.specs.Run.Event.{Came, Ended, Gone, Opened, SentEarly, Wrote}
use Rattle.cog_client.specs.declared.delivered.Delivered.{Delivered}
use Rattle.cog_client.specs.Client.{ClientState}
use Rattle.cog_client.specs.FedClient.{Fed}
use Rattle.client_dialogue.specs.History.{AreOwn, AreRounds, Exchange, History, IsBegunOn, IsFresh, IsHistory, IsOwn, IsRound, IsUnder, Round, Talk, begun, connections_of, fed_of, past_of}
use Rattle.client_dialogue.specs.History.Round.{LetGo, Made, Stopped}
use Rattle.client_dialogue.specs.Goes.{AreEarlyFor, AreTaken, Fails, Goes, IsEarlyFor, MakesNone, MakesOne, Stays, came_by}
use Rattle.client_dialogue.specs.Inside.{Concludes, Feeds, Halts, given_up}
use Rattle.client_dialogue.proofs.EventLemmas.{run-end, can-end, came-append, early-append, same_came, own_next}

-- ---- a history with one event more

abbrev pub next : History → Event → List Round → ClientState → List ℕ → History
next h e rs last request = record { events = h.events ++ e ∷ []; rounds = rs; last = last; request = request }

past-next : (h : History) (e : Event) (rs : List Round) (last : ClientState) (request : List ℕ)
    → past_of (next h e rs last request) ≡ happened e (past_of h)
past-next h e rs last request = run-end h.events e none_yet

pub build : (start : ClientState) (allowed : ℕ) (h : History) (t : Talk) (c : ClientState) → IsHistory start allowed h t c
    → (e : Event) (rs : List Round) (last : ClientState) (request : List ℕ) (u : Talk) (d : ClientState)
    → CanHappen e t.status → (happened e (past_of h)).status ≡ u.status → AreRounds rs start last
    → IsUnder u.asked last request (happened e (past_of h)).front u.status d
    → AreOwn rs (connections_of (happened e (past_of h)))
    → begun rs + (u.exchanges + (if u.asked then 1 else 0)) ≡ allowed
    → IsHistory start allowed (next h e rs last request) u d
build start allowed h t c is e rs last request u d can status rounds under own few =
    let same = sym (past-next h e rs last request) in
    record {
      can = can-end h.events e none_yet is.can (subst (λ (s : Status). CanHappen e s) (sym is.status) can);
      status = subst (λ (p : Past). p.status ≡ u.status) same status;
      rounds = rounds;
      under = subst (λ (p : Past). IsUnder u.asked last request p.front u.status d) same under;
      own = subst (λ (p : Past). AreOwn rs (connections_of p)) same own;
      few = few;
    }

-- what is under way
pub under_true : (start : ClientState) (allowed : ℕ) (h : History) (t : Talk) (c : ClientState) → IsHistory start allowed h t c → t.asked ≡ true
    → IsUnder true h.last h.request (past_of h).front t.status c
under_true start allowed h t c is busy =
    subst (λ (b : Bool). IsUnder b h.last h.request (past_of h).front t.status c) busy is.under

pub under_false : (start : ClientState) (allowed : ℕ) (h : History) (t : Talk) (c : ClientState) → IsHistory start allowed h t c → t.asked ≡ false
    → IsUnder false h.last h.request (past_of h).front t.status c
under_false start allowed h t c is idle =
    subst (λ (b : Bool). IsUnder b h.last h.request (past_of h).front t.status c) idle is.under

pub few_at : (start : ClientState) (allowed : ℕ) (h : History) (t : Talk) (c : ClientState) (b : Bool) → IsHistory start allowed h t c → t.asked ≡ b
    → begun h.rounds + (t.exchanges + (if b then 1 else 0)) ≡ allowed
few_at start allowed h t c b is same =
    subst (λ (x : Bool). begun h.rounds + (t.exchanges + (if x then 1 else 0)) ≡ allowed) same is.few

-- ---- calls that change nothing, and one after another

pub stays_goes : (t : Talk) (c : ClientState) → Goes Stays [] t c t c
stays_goes t c = λ start allowed h is.
    (h, record { more = []; events = sym (append-nil h.events); taken = inl refl; early = tt; made = refl }, is)

pub dropped_goes : (rounds : List Round → List Round → Type 0) (bytes : List ℕ) (t : Talk) (c : ClientState) (u : Talk) (d : ClientState)
    → u.status.is_open ≡ false → Goes rounds [] t c u d → Goes rounds bytes t c u d
dropped_goes rounds bytes t c u d shut goes = λ start allowed h is.
    let k = goes start allowed h is in (
      k.0,
      record {
        more = k.1.more;
        events = k.1.events;
        taken = inr (elim k.1.taken [ inl none ↦ none | inr none ↦ none.0 ], shut);
        early = k.1.early;
        made = k.1.made;
      },
      k.2,
    )

pub none_goes : (bytes : List ℕ) (t : Talk) (c : ClientState) (u : Talk) (d : ClientState) → Goes Stays bytes t c u d → Goes MakesNone bytes t c u d
none_goes bytes t c u d goes = λ start allowed h is.
    let k = goes start allowed h is in
    (k.0, record { more = k.1.more; events = k.1.events; taken = k.1.taken; early = k.1.early; made = inl k.1.made }, k.2)

-- a history speaks neither of looks, nor of what was sent early or is of use
pub exposed : (rounds : List Round → List Round → Type 0) (bytes : List ℕ) (t : Talk) (c : ClientState) (u : Talk) (d : ClientState) (looks early : Bool)
    (useful : ℕ) → Goes rounds bytes t c u d → Goes rounds bytes t c (record u { looks = looks; early = early; useful = useful }) d
exposed rounds bytes t c u d looks early useful goes = λ start allowed h is.
    let k = goes start allowed h is in (
      k.0,
      record { more = k.1.more; events = k.1.events; taken = k.1.taken; early = k.1.early; made = k.1.made },
      record { can = k.2.can; status = k.2.status; rounds = k.2.rounds; under = k.2.under; own = k.2.own; few = k.2.few },
    )

taken_then : (bytes : List ℕ) (xs ys : List Event) (s : Status) → came_by xs ≡ [] → AreTaken bytes ys s → AreTaken bytes (xs ++ ys) s
taken_then bytes xs ys s none h =
    let same : came_by (xs ++ ys) ≡ came_by ys = came-append xs ys ∙ ap (λ (t : List ℕ). t ++ came_by ys) none in
    elim h [ inl all ↦ inl (same ∙ all) | inr gone ↦ inr (same ∙ gone.0, gone.1) ]

taken_before : (bytes : List ℕ) (xs ys : List Event) (s : Status) → came_by ys ≡ [] → AreTaken bytes xs s → AreTaken bytes (xs ++ ys) (over [])
taken_before bytes xs ys s none h =
    let same : came_by (xs ++ ys) ≡ came_by xs =
    came-append xs ys ∙ ap (λ (t : List ℕ). came_by xs ++ t) none ∙ append-nil (came_by xs) in
    elim h [ inl all ↦ inl (same ∙ all) | inr gone ↦ inr (same ∙ gone.0, refl) ]

pub then_goes : (rounds : List Round → List Round → Type 0) (bytes : List ℕ) (t : Talk) (c : ClientState) (u : Talk) (d : ClientState) (v : Talk)
    → Goes Stays [] t c u d → Goes rounds bytes u d v d → Goes rounds bytes t c v d
then_goes rounds bytes t c u d v first second = λ start allowed h is.
    let k = first start allowed h is in
    let l = second start allowed k.0 k.2 in (
      l.0,
      record {
        more = k.1.more ++ l.1.more;
        events = l.1.events ∙ ap (λ (es : List Event). es ++ l.1.more) k.1.events ∙ append_assoc h.events k.1.more l.1.more;
        taken = taken_then bytes k.1.more l.1.more v.status (elim k.1.taken [ inl none ↦ none | inr none ↦ none.0 ]) l.1.taken;
        early = early-append d k.1.more l.1.more k.1.early l.1.early;
        made = subst (λ (rs : List Round). rounds rs l.0.rounds) k.1.made l.1.made;
      },
      l.2,
    )

-- one event alone, by which no round ends
moves_goes : (bytes : List ℕ) (t : Talk) (c d : ClientState) (s : Status) (e : Event) → t.asked ≡ true → CanHappen e t.status
    → AreTaken bytes (e ∷ []) s → AreEarlyFor d (e ∷ [])
    → ((p : Past) → p.status ≡ t.status → (happened e p).status ≡ s)
    → ((h : History) → CanRun h.events none_yet → (past_of h).status ≡ t.status → IsUnder true h.last h.request (past_of h).front t.status c
    → IsUnder true h.last h.request (happened e (past_of h)).front s d)
    → Goes Stays bytes t c (record t { status = s }) d
moves_goes bytes t c d s e busy can taken early status under = λ start allowed h is. (
  next h e h.rounds h.last h.request,
  record { more = e ∷ []; events = refl; taken = taken; early = early; made = refl },
  build start allowed h t c is e h.rounds h.last h.request (record t { status = s }) d can (status (past_of h) is.status) is.rounds
      (subst (λ (b : Bool). IsUnder b h.last h.request (happened e (past_of h)).front s d) (sym busy)
      (under h is.can is.status (under_true start allowed h t c is busy)))
      (own_next e (past_of h) h.rounds is.own) is.few,
)

-- where front and first request stay
same_under : (l l2 : Option ℕ) (last : ClientState) (request front front2 : List ℕ) (s s2 : Status) (c : ClientState)
    → s.left ≡ l → s2.left ≡ l2 → fed_of l2 front2 ≡ fed_of l front
    → ((early : List (List ℕ)) → s.out ≡ request ∷ early → (more : List (List ℕ)) × (s2.out ≡ request ∷ more))
    → IsFresh s2
    → IsUnder true last request front s c → IsUnder true last request front2 s2 c
same_under l l2 last request front front2 s s2 c left left2 fed first fresh u = (
  u.0,
  u.1,
  subst (λ (bytes : List ℕ). Fed u.0 bytes c)
      (ap (λ (x : Option ℕ). fed_of x front) left ∙ sym fed ∙ ap (λ (x : Option ℕ). fed_of x front2) (sym left2)) u.2,
  first u.3.0 u.3.1,
  fresh,
)

-- a connection is there
pub open_fresh : (s : Status) → s.is_open ≡ true → IsFresh s
open_fresh s opens = λ shut. let clash : false ≡ true = sym shut ∙ opens in cc

pub wrote_goes : (t : Talk) (c : ClientState) (n : ℕ) → t.asked ≡ true → t.status.is_open ≡ true → n ≤ length t.status.waits
    → Goes Stays [] t c (record t { status = after_write n t.status }) c
wrote_goes t c n busy opens few =
    moves_goes [] t c c (after_write n t.status) (Wrote n) busy (opens, few) (inl refl) tt (λ p same. ap (after_write n) same)
    (λ h is same u. u)

pub early_goes : (t : Talk) (c : ClientState) (text : List ℕ) → t.asked ≡ true → t.status.is_open ≡ true → IsEarlyFor c text
    → Goes Stays [] t c (record t { status = sends text t.status }) c
early_goes t c text busy opens early =
    moves_goes [] t c c (sends text t.status) (SentEarly text) busy opens (inl refl) (early, tt) (λ p same. ap (sends text) same)
    (λ h is same u. (u.0, u.1, u.2, (u.3.0 ++ text ∷ [], ap (λ (ts : List (List ℕ)). ts ++ text ∷ []) u.3.1), u.4))

pub opened_goes : (t : Talk) (c : ClientState) → t.asked ≡ true → t.status.is_open ≡ false → t.status.left ≡ None
    → Goes Stays [] t c (record t { status = after_open t.status }) c
opened_goes t c busy shut none =
    moves_goes [] t c c (after_open t.status) Opened busy shut (inl refl) tt (λ p same. ap after_open same)
    (λ h is same u. same_under None None h.last h.request (past_of h).front [] t.status (after_open t.status) c none refl refl
    (λ early out. ([], ap (λ (ts : List (List ℕ)). take 1 ts) out)) (open_fresh (after_open t.status) refl) u)

pub both_true : (a b : Bool) → (a && b) ≡ true → (a ≡ true) × (b ≡ true)
both_true true true e = (refl, refl)
both_true true false e = (let clash : false ≡ true = e in cc)
both_true false b e = (let clash : false ≡ true = e in cc)

none_by : (o : Option ℕ) → is_none o ≡ true → o ≡ None
none_by None e = refl
none_by (Some n) e = (let clash : false ≡ true = e in cc)

again_left : (s : Status) → is_again s ≡ true → s.left ≡ None
again_left s e =
    let parts = both_true (s.kept && is_between s) (not (is_empty s.out)) e in
    let between = (both_true s.kept (is_between s) parts.0).1 in
    none_by s.left (both_true (is_none s.left) (is_empty s.head) between).0

pub again_goes : (t : Talk) (c : ClientState) → t.asked ≡ true → is_again t.status ≡ true
    → Goes Stays [] t c (record t { status = after_gone t.status }) c
again_goes t c busy again =
    moves_goes [] t c c (after_gone t.status) Gone busy tt (inl refl) tt (λ p same. ap after_gone same)
    (λ h is same u. same_under None None h.last h.request (past_of h).front (past_of h).front t.status (after_gone t.status) c
    (again_left t.status again) (rw again refl) refl
    (λ early out. ([], rw again (ap (λ (ts : List (List ℕ)). take 1 ts) out))) (rw again (λ shut. (refl, refl))) u)

-- ---- bytes that came

-- nothing of it is fed
abbrev pub IsQuiet : Part → Type 0
IsQuiet Head = ⊤
IsQuiet Interim = ⊤
IsQuiet Again = ⊤
IsQuiet part = ⊥

-- a part of an answer's head, or what is none, was taken
pub quiet_goes : (part : Part) (bytes : List ℕ) (t : Talk) (c : ClientState) (s : Status) → t.asked ≡ true → t.status.is_open ≡ true
    → Takes part bytes t.status s → (¬ (part ≡ Stray) → 0 < length t.status.out)
    → IsQuiet part
    → Goes Stays bytes t c (record t { status = s }) c
quiet_goes Head bytes t c s busy opens takes own which =
    moves_goes bytes t c c s (Came Head bytes s) busy (opens, takes, own) (inl (append-nil bytes)) tt (λ p same. refl)
    (λ h is same u. same_under None None h.last h.request (past_of h).front _ t.status s c takes.0
    (rw takes.1.1 takes.0) refl (λ early out. (early, rw takes.1.1 out)) (open_fresh s (rw takes.1.1 opens)) u)
quiet_goes Interim bytes t c s busy opens takes own which =
    moves_goes bytes t c c s (Came Interim bytes s) busy (opens, takes, own) (inl (append-nil bytes)) tt (λ p same. refl)
    (λ h is same u. same_under None None h.last h.request (past_of h).front _ t.status s c takes.0
    (rw takes.1.5 takes.0) refl (λ early out. (early, rw takes.1.5 out)) (open_fresh s (rw takes.1.5 opens)) u)
quiet_goes Again bytes t c s busy opens takes own which =
    moves_goes bytes t c c s (Came Again bytes s) busy (opens, takes, own) (inl (append-nil bytes)) tt (λ p same. refl)
    (λ h is same u. same_under None None h.last h.request (past_of h).front _ t.status s c takes.0
    (rw takes.1.2 refl) refl (λ early out. ([], rw takes.1.2 (ap (λ (ts : List (List ℕ)). take 1 ts) out))) (rw takes.1.2 (λ shut. (refl, refl))) u)
quiet_goes Stray bytes t c s busy opens takes own which = absurd which
quiet_goes Begun bytes t c s busy opens takes own which = absurd which
quiet_goes Body bytes t c s busy opens takes own which = absurd which
quiet_goes Refused bytes t c s busy opens takes own which = absurd which

pub live_of : AnswersAreInOrder → (h : History) (s : Status) → CanRun h.events none_yet → (past_of h).status ≡ s → s.is_open ≡ true → IsLive (past_of h)
live_of order h s can same opens =
    subst (λ (b : Bool). IsNow b (past_of h)) (ap (λ (x : Status). x.is_open) same ∙ opens) (order h.events can).now

-- while no head is whole, what came is the head's front
front_is_head : AnswersAreInOrder → (h : History) (s : Status) → CanRun h.events none_yet → (past_of h).status ≡ s → s.is_open ≡ true → s.left ≡ None
    → (past_of h).front ≡ s.head
front_is_head order h s can same opens none =
    let l = live_of order h s can same opens in
    subst (λ (o : Option ℕ). IsUnderWay o (past_of h).status (past_of h).front) (ap (λ (x : Status). x.left) same ∙ none) l.under
    ∙ ap (λ (x : Status). x.head) same

-- the head of an answer is whole, and was fed
pub begun_goes : AnswersAreInOrder → (bytes : List ℕ) (t : Talk) (c d : ClientState) (s : Status) → t.asked ≡ true → t.status.is_open ≡ true
    → Takes Begun bytes t.status s → (¬ (Begun ≡ Stray) → 0 < length t.status.out) → Feeds s.head c d
    → Goes Stays bytes t c (record t { status = s }) d
begun_goes order bytes t c d s busy opens takes own feeds =
    let frame = takes.1.0 in
    let head : s.head ≡ t.status.head ++ bytes = rw takes.1.4 refl in
    moves_goes bytes t c d s (Came Begun bytes s) busy (opens, takes, own) (inl (append-nil bytes)) tt (λ p same. refl)
    (λ h can same u.
    let front = front_is_head order h t.status can same opens takes.0 in
    let whole : (past_of h).front ++ bytes ≡ s.head = ap (λ (xs : List ℕ). xs ++ bytes) front ∙ sym head in
    let none : Fed u.0 [] c = subst (λ (o : Option ℕ). Fed u.0 (fed_of o (past_of h).front) c) takes.0 u.2 in (
      u.0,
      u.1,
      subst (λ (o : Option ℕ). Fed u.0 (fed_of o ((past_of h).front ++ bytes)) d) (sym (ap (λ (x : Status). x.left) takes.1.4))
          (subst (λ (xs : List ℕ). Fed u.0 xs d) (sym whole) (feeds u.0 [] none)),
      (u.3.0, rw takes.1.4 u.3.1),
      open_fresh s (rw takes.1.4 opens),
    ))

-- bytes of the body were fed
pub body_goes : (bytes : List ℕ) (t : Talk) (c d : ClientState) (s : Status) → t.asked ≡ true → t.status.is_open ≡ true
    → Takes Body bytes t.status s → (¬ (Body ≡ Stray) → 0 < length t.status.out) → Feeds bytes c d
    → Goes Stays bytes t c (record t { status = s }) d
body_goes bytes t c d s busy opens takes own feeds =
    moves_goes bytes t c d s (Came Body bytes s) busy (opens, takes, own) (inl (append-nil bytes)) tt (λ p same. refl)
    (λ h can same u.
    let some : Fed u.0 (past_of h).front c = subst (λ (o : Option ℕ). Fed u.0 (fed_of o (past_of h).front) c) takes.1 u.2 in (
      u.0,
      u.1,
      subst (λ (o : Option ℕ). Fed u.0 (fed_of o ((past_of h).front ++ bytes)) d) (sym (ap (λ (x : Status). x.left) takes.3)) (feeds u.0 (past_of h).front some),
      (u.3.0, rw takes.3 u.3.1),
      open_fresh s (rw takes.3 opens),
    ))

-- ---- the end of an exchange

-- a round ends by one event, after which no body is under way
pub ends_goes : (rounds : List Round → List Round → Type 0) (bytes : List ℕ) (t : Talk) (c d : ClientState) (s : Status) (e : Event) → t.asked ≡ true
    → CanHappen e t.status → AreTaken bytes (e ∷ []) s → AreEarlyFor d (e ∷ []) → ((p : Past) → p.status ≡ t.status → (happened e p).status ≡ s) → s.left ≡ None
    → ((h : History) → CanRun h.events none_yet → (past_of h).status ≡ t.status → IsUnder true h.last h.request (past_of h).front t.status c
    → (r : Round) × IsRound r h.last d × (begun (r ∷ h.rounds) ≡ begun h.rounds + 1) × rounds h.rounds (r ∷ h.rounds)
    × (AreOwn h.rounds (connections_of (happened e (past_of h))) → AreOwn (r ∷ h.rounds) (connections_of (happened e (past_of h)))))
    → Goes rounds bytes t c (record t { status = s; asked = false }) d
ends_goes rounds bytes t c d s e busy can taken early status left round = λ start allowed h is.
    let under = under_true start allowed h t c is busy in
    let r = round h is.can is.status under in
    let few = few_at start allowed h t c true is busy in (
      next h e (r.0 ∷ h.rounds) d h.request,
      record { more = e ∷ []; events = refl; taken = taken; early = early; made = r.3 },
      build start allowed h t c is e (r.0 ∷ h.rounds) d h.request (record t { status = s; asked = false }) d can (status (past_of h) is.status)
          (h.last, is.rounds, r.1) (refl, left) (r.4 (own_next e (past_of h) h.rounds is.own))
          (omega (arith, few, r.2)),
    )

-- ---- what came of an answer stands at the place of its request

-- an event adds these bytes to what came on the connection, and no request
abbrev pub Adds : Event → List ℕ → Type 0
Adds e fresh = (p : Past) → ((happened e p).now.asked ≡ p.now.asked) × ((happened e p).now.came ≡ p.now.came ++ fresh)

pub ended_adds : Adds Ended []
ended_adds = λ p. (refl, same_came p.now)

pub gone_adds : Adds Gone []
gone_adds = λ p. (refl, same_came p.now)

-- the text is nothing, or the head with these bytes
abbrev pub IsTextOf : List ℕ → List ℕ → Status → Type 0
IsTextOf text fresh s = (text ≡ []) ⊎ ((s.left ≡ None) × (text ≡ s.head ++ fresh))

fed_front : (o : Option ℕ) (front : List ℕ) → (rest : List ℕ) × (front ≡ fed_of o front ++ rest)
fed_front None front = (front, refl)
fed_front (Some n) front = ([], sym (append-nil front))

covers : (o : Option ℕ) (front head text fresh : List ℕ) → (o ≡ None → front ≡ head) → (text ≡ []) ⊎ ((o ≡ None) × (text ≡ head ++ fresh))
    → (rest : List ℕ) × (front ++ fresh ≡ (fed_of o front ++ text) ++ rest)
covers o front head text fresh is_head is = elim is [
  | inl none ↦
      let f = fed_front o front in (
        f.0 ++ fresh,
        ap (λ (xs : List ℕ). xs ++ fresh) f.1 ∙ append_assoc (fed_of o front) f.0 fresh
            ∙ ap (λ (xs : List ℕ). xs ++ (f.0 ++ fresh))
            (sym (append-nil (fed_of o front)) ∙ ap (λ (xs : List ℕ). fed_of o front ++ xs) (sym none)),
      )
  | inr whole ↦ (
    [],
    ap (λ (xs : List ℕ). xs ++ fresh) (is_head whole.0) ∙ sym whole.1
        ∙ ap (λ (x : Option ℕ). fed_of x front ++ text) (sym whole.0) ∙ sym (append-nil (fed_of o front ++ text)),
  )
]

pub begun_on : (p : Past) (d : Connection) (e : Exchange) (early : List (List ℕ)) (fresh : List ℕ) → IsLive p → p.status.out ≡ e.request ∷ early
    → d.asked ≡ p.now.asked → d.came ≡ p.now.came ++ fresh → (rest : List ℕ) × (p.front ++ fresh ≡ e.text ++ rest) → IsBegunOn e d
begun_on p d e early fresh l out asked came covered = record {
  asked_before = take (length p.now.texts) p.now.asked;
  asked_after = early;
  asked =
      asked ∙ sym (take-append-drop (length p.now.texts) p.now.asked)
      ∙ ap (λ (ts : List (List ℕ)). take (length p.now.texts) p.now.asked ++ ts) (sym l.out ∙ out);
  answers = l.order.answers;
  each = l.order.each;
  place = omega (arith, l.order.few, length-take (length p.now.texts) p.now.asked, ap length l.order.texts);
  rest = covered.0;
  came =
      came ∙ ap (λ (xs : List ℕ). xs ++ fresh) l.order.came ∙ append_assoc (bytes_of l.order.answers) (p.front ++ []) fresh
      ∙ ap (λ (xs : List ℕ). bytes_of l.order.answers ++ xs) (ap (λ (xs : List ℕ). xs ++ fresh) (append-nil p.front) ∙ covered.1);
}

-- an exchange whose answer isn't whole, or isn't used
cut_own : AnswersAreInOrder → (h : History) (t : Talk) (c : ClientState) (e : Event) (text fresh : List ℕ) (what : Delivered)
    → CanRun h.events none_yet → (past_of h).status ≡ t.status → IsUnder true h.last h.request (past_of h).front t.status c
    → Adds e fresh → (t.status.is_open ≡ false → fresh ≡ []) → IsTextOf text fresh t.status
    → IsOwn (record { request = h.request; text = fed_of t.status.left (past_of h).front ++ text; whole = false; what = what })
    (connections_of (happened e (past_of h)))
cut_own order h t c e text fresh what can same u adds none is = elim (cases_Bool t.status.is_open) [
  | inl opens ↦
      let p = past_of h in
      let made : Exchange = record { request = h.request; text = fed_of t.status.left p.front ++ text; whole = false; what = what } in
      inl (inl (
        begun_on p (happened e p).now made u.3.0 fresh (live_of order h t.status can same opens) (ap (λ (x : Status). x.out) same ∙ u.3.1)
            (adds p).0 (adds p).1
            (covers t.status.left p.front t.status.head text fresh (front_is_head order h t.status can same opens) is),
        (λ whole. let clash : false ≡ true = whole in cc),
      ))
  | inr shut ↦
      let clear = u.4 shut in
      let nothing : text ≡ [] = elim is [
        | inl empty ↦ empty
        | inr head ↦ head.1 ∙ ap (λ (xs : List ℕ). xs ++ fresh) clear.1 ∙ none shut
      ] in
      inr (refl, ap (λ (x : Option ℕ). fed_of x (past_of h).front ++ text) clear.0 ∙ nothing)
]

pub made_goes : AnswersAreInOrder → (bytes text fresh : List ℕ) (t : Talk) (c d : ClientState) (s : Status) (e : Event) (what : Delivered) → t.asked ≡ true → CanHappen e t.status
    → AreTaken bytes (e ∷ []) s → AreEarlyFor d (e ∷ []) → ((p : Past) → p.status ≡ t.status → (happened e p).status ≡ s) → s.left ≡ None
    → Adds e fresh → (t.status.is_open ≡ false → fresh ≡ []) → IsTextOf text fresh t.status → Concludes text what c d
    → Goes (MakesOne what) bytes t c (record t { status = s; asked = false }) d
made_goes order bytes text fresh t c d s e what busy can taken early status left adds none is takes =
    ends_goes (MakesOne what) bytes t c d s e busy can taken early status left (λ h hcan same u.
    let made : Exchange = record { request = h.request; text = fed_of t.status.left (past_of h).front ++ text; whole = false; what = what } in (
      Made made,
      (u.0, u.1, takes u.0 (fed_of t.status.left (past_of h).front) u.2),
      refl,
      (made, refl, refl),
      (λ own. (cut_own order h t c e text fresh what hcan same u adds none is, own)),
    ))

-- memory was wanting for it
pub halted_goes : (bytes : List ℕ) (text : List ℕ) (t : Talk) (c d : ClientState) (s : Status) (e : Event) → t.asked ≡ true → CanHappen e t.status
    → AreTaken bytes (e ∷ []) s → AreEarlyFor d (e ∷ []) → ((p : Past) → p.status ≡ t.status → (happened e p).status ≡ s) → s.left ≡ None → Halts text c d
    → Goes Fails bytes t c (record t { status = s; asked = false }) d
halted_goes bytes text t c d s e busy can taken early status left halts =
    ends_goes Fails bytes t c d s e busy can taken early status left (λ h hcan same u.
    let came = fed_of t.status.left (past_of h).front ++ text in (
      Stopped h.request came,
      (u.0, u.1, halts u.0 (fed_of t.status.left (past_of h).front) u.2),
      refl,
      inr (inr (h.request, came, inl refl)),
      (λ own. own),
    ))

-- the rest of the answer is let go
pub let_go_goes : (t : Talk) (c : ClientState) → t.asked ≡ true → Goes Fails [] t c (given_up t) c
let_go_goes t c busy =
    ends_goes Fails [] t c c (over []) Ended busy tt (inl refl) tt (λ p same. refl) refl (λ h hcan same u.
    let came = fed_of t.status.left (past_of h).front in
    (LetGo h.request came, (u.0, u.1, u.2), refl, inr (inr (h.request, came, inr refl)), (λ own. own)))

-- memory was wanting after the connection took bytes of the answer
pub then_let_go : (bytes : List ℕ) (t : Talk) (c : ClientState) (u : Talk) (d : ClientState) → u.asked ≡ true → Goes Stays bytes t c u d
    → Goes Fails bytes t c (given_up u) d
then_let_go bytes t c u d busy goes = λ start allowed h is.
    let k = goes start allowed h is in
    let l = let_go_goes u d busy start allowed k.0 k.2 in (
      l.0,
      record {
        more = k.1.more ++ l.1.more;
        events = l.1.events ∙ ap (λ (es : List Event). es ++ l.1.more) k.1.events ∙ append_assoc h.events k.1.more l.1.more;
        taken = elim l.1.taken [
          | inl none ↦ taken_before bytes k.1.more l.1.more u.status none k.1.taken
          | inr none ↦ taken_before bytes k.1.more l.1.more u.status none.0 k.1.taken
        ];
        early = early-append d k.1.more l.1.more k.1.early l.1.early;
        made = subst (λ (rs : List Round). Fails rs l.0.rounds) k.1.made l.1.made;
      },
      l.2,
    )

-- Where memory was wanting within a call or an event, what each client holds is still of the book.
use Rattle.std.proofs.Common.{◌≡◌, ℕ, zero, suc, Bool, true, false, List, [], ◌∷◌, ◌++◌, length, take, get_or, Option, Some, None, Result, Ok, Err, refl, sym, ap, ◌∙◌, subst, arith, ◌<◌, inl, inr, append-nil}
use Rattle.std.specs.Prelude.{IfSome, IsSomeAnd, OnErr, OnOk, if◌then◌else◌, nat_lt, option_and_then, slice_get, slice_set}
use Rattle.std.proofs.lemmas.Bool.Decides.{nat_tests}
use Rattle.std.proofs.lemmas.List.{append_assoc}
use Rattle.std.proofs.lemmas.Option.{same_Some}
use Rattle.http_range.specs.Book.{Book, Catalogue, Includes}
use Rattle.http_range.specs.Honest.{IsFront, IsPieceOfBook, IsReadAs}
use Rattle.cog_server.specs.declared.server.Answer.{Answer}
use Rattle.cog_server.specs.Server.{ServerState}
use Rattle.cog_client.specs.declared.error.ClientError.{ClientError}
use Rattle.cog_client.specs.Client.{ClientAgrees, ClientState, IsOfBook, asked_of, client_refusal, closes, fields_of, host_of, name_of, revision_of, tag_of}
use Rattle.cog_client.specs.Keeps.{RequestsKeeping, StopsDelivery}
use Rattle.world.specs.declared.calls.Call.{Call}
use Rattle.world.specs.declared.calls.Call.TheVariants as calls
use Rattle.world.specs.declared.event.AnsweredRequest.{AnsweredRequest}
use Rattle.world.specs.declared.event.Effect.{Effect}
use Rattle.world.specs.declared.event.Entry.{Entry}
use Rattle.world.specs.declared.event.Event.{Event}
use Rattle.world.specs.declared.event.Event.TheVariants.{Publish, Epoch, NewClient, Open, Forget, Ask, AskFrom, Deliver, Exchange, Check}
use Rattle.world.specs.World.{World, AreOfBook, after, after_all, client_of, host, is_for, made_by, scheduled, start}
use Rattle.world.specs.Run.{Asks, IsBeginning, IsExchanged, LeavesOthers, cut_at, receiver}
use Rattle.world.specs.State.{AllAgree, CallsWith, IsDeliveredKeeping, IsDoneOrLeft, IsGiven, IsState, RunsKeeping, StepKeeping, StillAgrees, StopsAt, StopsDelivering, StopsStep, StopsWithin, answer_at, request_in}
use Rattle.world.specs.LowerLaws.{LowerLaws}
use Rattle.world.proofs.Kept.{kept_at, kept_length}
use Rattle.world.proofs.Lists.{get-set, get_there}
use Rattle.world.proofs.Good.{Good, good_start, nothing_agrees, restart_by}
use Rattle.world.proofs.Whole.{good_run, run_truth, runs_seen, step_seen}
use Rattle.world.proofs.Truth.{answer_for, answer_honest, asked_for, front_is, sound_step}

-- ---- within a call

-- it is so after a call that was made whole
pub survives : (catalogue : Catalogue) (sent i : ℕ) (call : Call) (effect : Effect) (c next : ClientState) → CallsWith catalogue sent i call effect c next → StillAgrees (IsGiven catalogue sent i call c) c next
unfolding revision_of
survives catalogue sent i (calls.Open q) effect c next h book distinct agrees given = h.opens.agrees book agrees
survives catalogue sent i calls.Forget effect c next h book distinct agrees given = nothing_agrees next (ap revision_of h.forgets) book
survives catalogue sent i calls.AskFrom effect c next h book distinct agrees given = h.requests.goes.agrees book agrees
survives catalogue sent i calls.Exchange effect c next h book distinct agrees given = by h.seen.0 h.seen.2 h.requests h.seen.3 h.delivers
  where
    by : (o : Option AnsweredRequest) → Asks catalogue sent i o c h.seen.1 → RequestsKeeping c (request_in o) h.seen.1 → IsExchanged i o effect h.seen.1 next → IsDeliveredKeeping o h.seen.1 next → ClientAgrees next book
    by None asks k e d = subst (λ (x : ClientState). ClientAgrees x book) (sym e.1) (k.goes.agrees book agrees)
    by (Some a) asks k e d =
        d.1.agrees book distinct (k.goes.agrees book agrees) (subst (λ n. IsReadAs (IsPieceOfBook n book) a.answer.text.items) (sym asks.requests.goes.same.name)
        (given a.answer.text.items (a, h.seen.1, asks, k, ([], append-nil _))))
survives catalogue sent i (calls.Deliver text) effect c next h book distinct agrees given = h.delivers.agrees book distinct agrees (given text.now ([], append-nil _))

-- it is so of other texts where none was given
pub weaker : (Given : List ℕ → Type 0) (c next : ClientState) → StillAgrees (λ text. ⊥) c next → StillAgrees Given c next
weaker Given c next h book distinct agrees given = h book distinct agrees (λ text none. absurd none)

pub exchange_stops : (catalogue : Catalogue) (sent i : ℕ) (o : Option AnsweredRequest) (c mid next : ClientState) → Asks catalogue sent i o c mid → RequestsKeeping c (request_in o) mid
    → IsSomeAnd o (λ a. (front : List ℕ) × IsFront front a.answer.text.items × StopsDelivery mid front next) → StillAgrees (IsGiven catalogue sent i calls.Exchange c) c next
exchange_stops catalogue sent i None c mid next asks k h book distinct agrees given = absurd h
exchange_stops catalogue sent i (Some a) c mid next asks k (front, is, stops) book distinct agrees given =
    stops.agrees book distinct (k.goes.agrees book agrees) (subst (λ n. IsReadAs (IsPieceOfBook n book) front) (sym asks.requests.goes.same.name) (given front (a, mid, asks, k, is)))

pub delivery_stops : (text : List ℕ) (c next : ClientState) → ((front : List ℕ) × IsFront front text × StopsDelivery c front next) → StillAgrees (λ t. IsFront t text) c next
delivery_stops text c next (front, is, stops) book distinct agrees given = stops.agrees book distinct agrees (given front is)

pub is_inside : (i n : ℕ) → true ≡ nat_lt i n → i < n
is_inside i n h = grind (arith, nat_tests)

-- a call of the client that is there
pub stops_at : (Given : ClientState → List ℕ → Type 0) (old : List ClientState) (i : ℕ) (c next : ClientState) → i < length old → c ≡ get_or old i c → StillAgrees (Given c) c next → StopsAt (slice_get old i) Given i old (slice_set old i next)
stops_at Given old i c next inside is h =
    let P : Option ClientState → Type 0 = λ o. StopsAt o Given i old (slice_set old i next) in
    subst P (sym (get_there old i c inside is)) (next, refl, h)

-- one that gets an answer for its name
pub stops_received : (a : Answer) (o : Option ClientState) (cut : Option ℕ) (i : ℕ) (old new : List ClientState) (c : ClientState) → o ≡ Some c → true ≡ is_for a (name_of c)
    → StopsAt o (λ c text. IsFront text (cut_at cut a.text.items)) i old new → StopsDelivering (Some a) o cut i old new
stops_received a o cut i old new c at own h =
    let Given : ClientState → List ℕ → Type 0 = λ c text. IsFront text (cut_at cut a.text.items) in
    let P : Option ClientState → Type 0 = λ o. StopsDelivering (Some a) o cut i old new in
    let Q : Bool → Type 0 = λ b. StopsAt (if b then Some c else None) Given i old new in
    subst P (sym at) (subst Q own (subst (λ o. StopsAt o Given i old new) at h))

-- ---- within the code's step

-- a call is left, where the code's state is the world's
pub exchange_left : {T E : Type 0} (r : Result T E) (server : ServerState) (entries : List Entry) (places : List ℕ) (number : ℕ) (cs new : List ClientState) (e : Event) (i : ℕ) → e ≡ Exchange i → number ≡ length places
    → OnErr r (StopsAt (slice_get cs i) (IsGiven server.catalogue number i calls.Exchange) i cs new) → OnErr r ((w : World) → IsState w server entries places → StopsStep w cs e new)
exchange_left (Ok x) server entries places number cs new e i is at h = tt
exchange_left (Err x) server entries places number cs new e i is at h = λ w state.
    let R : Catalogue → ℕ → Type 0 = λ catalogue sent. StopsAt (slice_get cs i) (IsGiven catalogue sent i calls.Exchange) i cs new in
    let sent : number ≡ length w.sent = at ∙ kept_length entries places w.sent state.kept in
    subst (λ (f : Event). StopsStep w cs f new) (sym is) (subst (λ k. R w.catalogue k) sent (subst (λ (s : ServerState). R s.catalogue number) state.server_at h))

pub deliver_left : {T E : Type 0} (r : Result T E) (server : ServerState) (entries : List Entry) (places : List ℕ) (cs new : List ClientState) (e : Event) (i k : ℕ) (cut : Option ℕ) (o : Option Answer) → e ≡ Deliver i k cut
    → o ≡ option_and_then (answer_at entries) (slice_get places k) → OnErr r (StopsDelivering o (slice_get cs i) cut i cs new) → OnErr r ((w : World) → IsState w server entries places → StopsStep w cs e new)
deliver_left (Ok x) server entries places cs new e i k cut o is found h = tt
deliver_left (Err x) server entries places cs new e i k cut o is found h = λ w state.
    subst (λ (f : Event). StopsStep w cs f new) (sym is) (subst (λ a. StopsDelivering a (slice_get cs i) cut i cs new) (found ∙ kept_at entries places w.sent k state.kept) h)

-- ---- within an event

abbrev pub AgreeNow : List ClientState → Book → Type 0
AgreeNow cs book = (i : ℕ) (c : ClientState) → slice_get cs i ≡ Some c → ClientAgrees c book

agree_now : (w : World) (cs new : List ClientState) → Good w cs → new ≡ cs → AgreeNow new w.book
agree_now w cs new g same = subst (λ xs. AgreeNow xs w.book) (sym same) (λ i c at. g.agree i c at w.book (λ p j. j) g.distinct)

front_of_front : (text middle whole : List ℕ) → IsFront text middle → IsFront middle whole → IsFront text whole
front_of_front text middle whole (rest, is) (more, joins) = (rest ++ more, sym (append_assoc text rest more) ∙ ap (λ (t : List ℕ). t ++ more) is ∙ joins)

module _ (laws : LowerLaws) where
  left_at : (o : Option ClientState) (Given : ClientState → List ℕ → Type 0) (i : ℕ) (w : World) (cs new : List ClientState) → slice_get cs i ≡ o → Good w cs
      → ((c : ClientState) → o ≡ Some c → (text : List ℕ) → Given c text → IsReadAs (IsPieceOfBook (name_of c) w.book) text) → StopsAt o Given i cs new → AgreeNow new w.book
  left_at None Given i w cs new at g shows h = agree_now w cs new g h
  left_at (Some c) Given i w cs new at g shows (next, changed, h) =
      let still : ClientAgrees next w.book = h w.book g.distinct (g.agree i c at w.book (λ p j. j) g.distinct) (shows c refl) in
      subst (λ xs. AgreeNow xs w.book) (sym changed) (λ j d e. elim (get-set cs i j next d c at e) [
        | inl is ↦ subst (λ (x : ClientState). ClientAgrees x w.book) (sym is) still
        | inr old ↦ g.agree j d old w.book (λ p j. j) g.distinct
      ])

  -- the answer to a client's own request shows pieces of the book under its name
  exchange_shows : (w : World) (cs : List ClientState) (i : ℕ) (c : ClientState) (text : List ℕ) → Good w cs → IsGiven w.catalogue (length w.sent) i calls.Exchange c text → IsReadAs (IsPieceOfBook (name_of c) w.book) text
  exchange_shows w cs i c text g (a, mid, asks, k, front) =
      let asked = asked_for c (asked_of mid) a.request.items asks.requests.text k.lawful in
      let for : is_for a.answer (name_of c) ≡ true = answer_for laws w.catalogue (closes c) (host_of c) (name_of c) (fields_of c) (tag_of c) asked.0 a.request.items a.answer asked.1 asked.2 asks.answered.answered in
      let honest = answer_honest laws w cs a.request.items a.answer g asks.answered.answered in
      laws.fronts.book a.answer.text.items (name_of c) w.book (honest (name_of c) w.book for (λ p j. j)) text front

  delivery_left : (o : Option Answer) (oc : Option ClientState) (w : World) (cs new : List ClientState) (i k : ℕ) (cut : Option ℕ) → slice_get w.sent k ≡ o → slice_get cs i ≡ oc → Good w cs → StopsDelivering o oc cut i cs new → AgreeNow new w.book
  delivery_left None oc w cs new i k cut sent at g h = agree_now w cs new g h
  delivery_left (Some a) None w cs new i k cut sent at g h = agree_now w cs new g h
  delivery_left (Some a) (Some c) w cs new i k cut sent at g h = by (is_for a (name_of c)) refl h
    where
      by : (b : Bool) → is_for a (name_of c) ≡ b → StopsAt (if b then Some c else None) (λ c text. IsFront text (cut_at cut a.text.items)) i cs new → AgreeNow new w.book
      by false for h = agree_now w cs new g h
      by true for h = left_at (Some c) (λ c text. IsFront text (cut_at cut a.text.items)) i w cs new at g (λ d is text front.
          let P : ClientState → Type 0 = λ x. IsReadAs (IsPieceOfBook (name_of x) w.book) text in
          subst P (same_Some _ _ is) (laws.fronts.book a.text.items (name_of c) w.book (g.honest k a sent (name_of c) w.book for (λ p j. j)) text (front_of_front text _ a.text.items front (front_is cut a.text.items)))) h

  -- an event that was left
  pub stops_left : (w : World) (cs : List ClientState) (e : Event) (new : List ClientState) → Good w cs → StopsStep w cs e new → AgreeNow new w.book
  stops_left w cs (Publish name file) new g h = agree_now w cs new g h
  stops_left w cs (Epoch e) new g h = agree_now w cs new g h
  stops_left w cs (NewClient name blocks) new g h = agree_now w cs new g h
  stops_left w cs (Open i q) new g h = left_at (slice_get cs i) _ i w cs new refl g (λ c at text none. absurd none) h
  stops_left w cs (Forget i) new g h = left_at (slice_get cs i) _ i w cs new refl g (λ c at text none. absurd none) h
  stops_left w cs (Ask message) new g h = agree_now w cs new g h
  stops_left w cs (AskFrom i) new g h = left_at (slice_get cs i) _ i w cs new refl g (λ c at text none. absurd none) h
  stops_left w cs (Deliver i k cut) new g h = delivery_left (slice_get w.sent k) (slice_get cs i) w cs new i k cut refl refl g h
  stops_left w cs (Exchange i) new g h = left_at (slice_get cs i) _ i w cs new refl g (λ c at text given. exchange_shows w cs i c text g given) h
  stops_left w cs (Check i) new g h = agree_now w cs new g h

  -- an event that was made, before it is logged
  includes_epoch : (b : Bool) (w : World) (e : ℕ) → Includes w.book (restart_by w e b).book
  includes_epoch true w e p i = i
  includes_epoch false w e p i = i

  includes_made : (w : World) (name : List ℕ) (o : Option ClientError) → Includes w.book (made_by w name o).book
  includes_made w name None p i = i
  includes_made w name (Some refusal) p i = i

  made_left : (w : World) (cs : List ClientState) (e : Event) (n : Entry) (new : List ClientState) → Good w cs → StepKeeping w cs e n new → Includes w.book (scheduled w e).book → AgreeNow new w.book
  made_left w cs e n new g h includes i c at = (sound_step laws w cs e n new g h).good.agree i c at w.book includes g.distinct

  pub step_left : (w : World) (cs : List ClientState) (e : Event) (n : Entry) (new : List ClientState) → Good w cs → StepKeeping w cs e n new → AgreeNow new w.book
  step_left w cs (Publish name file) n new g h = agree_now w cs new g h.same
  step_left w cs (Epoch e) n new g h = made_left w cs (Epoch e) n new g h (includes_epoch (nat_lt w.epoch e) w e)
  step_left w cs (NewClient name blocks) n new g h = made_left w cs (NewClient name blocks) n new g h (includes_made w name.items (client_refusal host name.items blocks))
  step_left w cs (Open i q) n new g h = made_left w cs (Open i q) n new g h (λ p j. j)
  step_left w cs (Forget i) n new g h = made_left w cs (Forget i) n new g h (λ p j. j)
  step_left w cs (Ask message) n new g h = made_left w cs (Ask message) n new g h (λ p j. j)
  step_left w cs (AskFrom i) n new g h = made_left w cs (AskFrom i) n new g h (λ p j. j)
  step_left w cs (Deliver i k cut) n new g h = made_left w cs (Deliver i k cut) n new g h (λ p j. j)
  step_left w cs (Exchange i) n new g h = made_left w cs (Exchange i) n new g h (λ p j. j)
  step_left w cs (Check i) n new g h = made_left w cs (Check i) n new g h (λ p j. j)

  -- what a caller sees of it
  pub all_agree : (cs : List ClientState) (book : Book) → AgreeNow cs book → AllAgree cs book
  all_agree cs book agree i = by (slice_get cs i) refl
    where
      by : (o : Option ClientState) → slice_get cs i ≡ o → IfSome o (λ c. ClientAgrees c book)
      by None at = tt
      by (Some c) at = agree i c at

  pub seen_left : (cs : List ClientState) (book : Book) → AgreeNow cs book → AreOfBook cs book
  seen_left cs book agree i = by (slice_get cs i) refl
    where
      by : (o : Option ClientState) → slice_get cs i ≡ o → IfSome o (λ c. IsOfBook c book)
      by None at = tt
      by (Some c) at = laws.seen c book (agree i c at)

-- ---- within a run

-- what the first events make, where only these are logged
after_fewer : (w : World) (cs : List ClientState) (es : List Event) (k : ℕ) (ns : List Entry) (new : List ClientState) → RunsKeeping w cs (take k es) ns new → after_all w es ns ≡ after_all w (take k es) ns
after_fewer w cs [] zero ns new h = refl
after_fewer w cs [] (suc k) ns new h = refl
after_fewer w cs (e ∷ es) zero [] new h = refl
after_fewer w cs (e ∷ es) zero (n ∷ ns) new h = absurd h
after_fewer w cs (e ∷ es) (suc k) [] new h = absurd h
after_fewer w cs (e ∷ es) (suc k) (n ∷ ns) new (mid, step, rest) = after_fewer (after w e n.effect) mid es k ns new rest

pub left_agree : (es : List Event) (k : ℕ) (ns : List Entry) (cs left : List ClientState) → RunsKeeping start [] (take k es) ns cs → AgreeNow left (after_all start (take k es) ns).book → AgreeNow left (after_all start es ns).book
left_agree es k ns cs left runs agree = subst (λ (w : World). AgreeNow left w.book) (sym (after_fewer start [] es k ns cs runs)) agree

-- where an event was left, and where it was made and not logged
pub event_left : (laws : LowerLaws) (es : List Event) (k : ℕ) (ns : List Entry) (cs : List ClientState) (e : Event) (new : List ClientState) → RunsKeeping start [] (take k es) ns cs
    → StopsStep (after_all start (take k es) ns) cs e new → AgreeNow new (after_all start es ns).book
event_left laws es k ns cs e new runs h =
    left_agree es k ns cs new runs (stops_left laws (after_all start (take k es) ns) cs e new (good_run laws start [] (take k es) ns cs good_start runs) h)

pub made_event_left : (laws : LowerLaws) (es : List Event) (k : ℕ) (ns : List Entry) (cs : List ClientState) (e : Event) (n : Entry) (new : List ClientState) → RunsKeeping start [] (take k es) ns cs
    → StepKeeping (after_all start (take k es) ns) cs e n new → AgreeNow new (after_all start es ns).book
made_event_left laws es k ns cs e n new runs h =
    left_agree es k ns cs new runs (step_left laws (after_all start (take k es) ns) cs e n new (good_run laws start [] (take k es) ns cs good_start runs) h)

-- and where all were made
pub run_agrees : (laws : LowerLaws) (es : List Event) (ns : List Entry) (cs : List ClientState) → RunsKeeping start [] es ns cs → AgreeNow cs (after_all start es ns).book
run_agrees laws es ns cs runs i c at =
    let good = good_run laws start [] es ns cs good_start runs in
    good.agree i c at (after_all start es ns).book (λ p j. j) good.distinct

-- ---- no other client changed

left_alone : (o : Option ClientState) (Given : ClientState → List ℕ → Type 0) (i : ℕ) (old new : List ClientState) → StopsAt o Given i old new → LeavesOthers (Some i) old new
left_alone None Given i old new h = inl h
left_alone (Some c) Given i old new h = inr (h.0, h.1)

delivery_alone : (o : Option Answer) (oc : Option ClientState) (cut : Option ℕ) (i : ℕ) (old new : List ClientState) → StopsDelivering o oc cut i old new → LeavesOthers (Some i) old new
delivery_alone None oc cut i old new h = inl h
delivery_alone (Some a) oc cut i old new h = left_alone (receiver (Some a) oc) (λ c text. IsFront text (cut_at cut a.text.items)) i old new h

pub leaves_others : (w : World) (cs : List ClientState) (e : Event) (new : List ClientState) → StopsStep w cs e new → LeavesOthers (client_of e) cs new
leaves_others w cs (Publish name file) new h = h
leaves_others w cs (Epoch e) new h = h
leaves_others w cs (NewClient name blocks) new h = h
leaves_others w cs (Open i q) new h = left_alone (slice_get cs i) (λ c text. ⊥) i cs new h
leaves_others w cs (Forget i) new h = left_alone (slice_get cs i) (λ c text. ⊥) i cs new h
leaves_others w cs (Ask message) new h = h
leaves_others w cs (AskFrom i) new h = left_alone (slice_get cs i) (λ c text. ⊥) i cs new h
leaves_others w cs (Deliver i k cut) new h = delivery_alone (slice_get w.sent k) (slice_get cs i) cut i cs new h
leaves_others w cs (Exchange i) new h = left_alone (slice_get cs i) (IsGiven w.catalogue (length w.sent) i calls.Exchange) i cs new h
leaves_others w cs (Check i) new h = inl h

-- ---- the log

pub beginning : (laws : LowerLaws) (events : List Event) (k : ℕ) (ns : List Entry) (cs left : List ClientState) (e : Event) → slice_get events k ≡ Some e → RunsKeeping start [] (take k events) ns cs
    → IsDoneOrLeft (after_all start (take k events) ns) cs e left → IsBeginning events ns left
beginning laws events k ns cs left e next runs stops = record {
  count = k;
  clients = cs;
  logged = runs_seen start [] (take k events) ns cs runs;
  truth = run_truth laws (take k events) ns cs runs;
  event = e;
  next = next;
  cut_off = elim stops [
    | inl d ↦ inl (d.0, step_seen (after_all start (take k events) ns) cs e d.0 left d.1)
    | inr h ↦ inr (leaves_others (after_all start (take k events) ns) cs e left h)
  ];
}

pub stopped : (events : List Event) (k : ℕ) (ns : List Entry) (cs left : List ClientState) (e : Event) → slice_get events k ≡ Some e → RunsKeeping start [] (take k events) ns cs
    → IsDoneOrLeft (after_all start (take k events) ns) cs e left → StopsWithin events ns left
stopped events k ns cs left e next runs stops = record { count = k; clients = cs; runs = runs; event = e; next = next; stops = stops }

-- What is asked is what the client's query needs.
use Rattle.std.proofs.Common.{◌≡◌, ℕ, Bool, true, false, cond, List, [], ◌∷◌, ◌++◌, length, Option, Some, None, refl, sym, ap, ◌∙◌, subst, inl, inr}
use Rattle.std.specs.Prelude.{IsSomeAnd, slice_get, slice_set, IfSome}
use Rattle.std.specs.Option.{option_map}
use Rattle.std.proofs.lemmas.Option.{none-some, same_Some}
use Rattle.tiff_dir.specs.declared.query.Query.{Query}
use Rattle.extents.specs.declared.span.Span.{Span}
use Rattle.http_range.specs.Ask.{request_with}
use Rattle.http_range.specs.Book.{Publication, Book, HasDistinctTags, In}
use Rattle.cog_client.specs.declared.request_options.RequestOptions.{RequestOptions}
use Rattle.cog_client.specs.declared.error.ClientError.{ClientError}
use Rattle.cog_client.specs.Case.{Revision}
use Rattle.cog_client.specs.Client.{ClientState, Knows, KnowsOne, ClientAgrees, ahead_of, asked_of, client_refusal, fields_of, host_of, name_of, query_of, revision_of, tag_of, closes, how_of}
use Rattle.cog_client.specs.Calls.{Requests, SameClient, request_for}
use Rattle.cog_client.specs.Keeps.{AsksFor, RequestsKeeping}
use Rattle.cog_client.specs.Progress.{IsOfNeeded}
use Rattle.cog_server.specs.declared.server.Answer.{Answer}
use Rattle.world.specs.declared.event.Event.{Event}
use Rattle.world.specs.declared.event.Event.TheVariants.{Publish, Epoch, NewClient, Open, Forget, Ask, AskFrom, Deliver, Exchange, Check}
use Rattle.world.specs.declared.event.AnsweredCheck.{AnsweredCheck}
use Rattle.world.specs.declared.event.AnsweredRequest.{AnsweredRequest}
use Rattle.world.specs.declared.event.Effect.{Effect}
use Rattle.world.specs.declared.event.Entry.{Entry}
use Rattle.world.specs.World.{World, Seen, host, is_for}
use Rattle.world.specs.Progress.{IsNeededEntry, IsNeededBy, IsNeededIn, asked_in}
use Rattle.world.specs.Run.{Asks, AtClient, ExchangesWith, IsExchanged, MakesBy, asked_effect, cut_at, seen}
use Rattle.world.specs.State.{AsksWithKeeping, DeliversWithKeeping, ExchangesWithKeeping, ForgetsAll, IsCheckBy, IsCheckedKeeping, IsDeliveryKeeping, Keeping, OpensWithKeeping, StepKeeping, request_in}
use Rattle.world.specs.LowerLaws.{LowerLaws}
use Rattle.world.proofs.Lists.{get-map, get-push, get-set}
use Rattle.world.proofs.Effects.{HoldsElse, at_effect, of_step}
use Rattle.world.proofs.Good.{Good}

-- ---- every client asks the one host, by each request that the connection end, adds no field, and looks no block ahead

pub record IsHosted (c : ClientState) : Type 0 where
  pub host_is : host_of c ≡ host
  pub closing : closes c ≡ true
  pub near : ahead_of c ≡ 0
  pub bare : fields_of c ≡ []

abbrev pub AllHosted : List ClientState → Type 0
AllHosted cs = (i : ℕ) (c : ClientState) → slice_get cs i ≡ Some c → IsHosted c

-- host and how it asks stay
abbrev StaysHosted : ClientState → ClientState → Type 0
StaysHosted c next = (host_of next ≡ host_of c) × (how_of next ≡ how_of c)

same_hosted : (c next : ClientState) → SameClient c next → StaysHosted c next
same_hosted c next same = (same.host, same.how)

stays_hosted : (c next later : ClientState) → StaysHosted c next → later ≡ next → IsHosted c → IsHosted later
stays_hosted c next later stays is hosted = record {
  host_is = ap host_of is ∙ stays.0 ∙ hosted.host_is;
  closing = ap closes is ∙ ap (λ (h : RequestOptions). h.closes) stays.1 ∙ hosted.closing;
  near = ap ahead_of is ∙ ap (λ (h : RequestOptions). h.ahead) stays.1 ∙ hosted.near;
  bare = ap fields_of is ∙ ap (λ (h : RequestOptions). h.fields) stays.1 ∙ hosted.bare;
}

hosted_same : (old new : List ClientState) → new ≡ old → AllHosted old → AllHosted new
hosted_same old new same all = subst AllHosted (sym same) all

-- a client that changes keeps its host
hosted_at : (R : ClientState → ClientState → Type 0) → ((c next : ClientState) → R c next → StaysHosted c next) → (o : Option ClientState) (i : ℕ) (n : Entry) (old new : List ClientState)
    → slice_get old i ≡ o → AtClient o R i n old new → AllHosted old → AllHosted new
hosted_at R keeps None i n old new at h all = hosted_same old new h.same all
hosted_at R keeps (Some c) i n old new at h all =
    hosted_same (slice_set old i h.next) new h.changed (λ j d e. elim (get-set old i j h.next d c at e) [
      | inl is ↦ stays_hosted c h.next d (keeps c h.next h.does) is (all i c at)
      | inr there ↦ all j d there
    ])

hosted_made : (o : Option ClientError) (name : List ℕ) (blocks : ℕ) (n : Entry) (old new : List ClientState) → MakesBy o name blocks n old new → AllHosted old → AllHosted new
unfolding host_of how_of
hosted_made (Some refusal) name blocks n old new h all = hosted_same old new h.same all
hosted_made None name blocks n old new h all =
    hosted_same (old ++ h.0 ∷ []) new h.2.same (λ j d e. elim (get-push old j h.0 d e) [
      | inl is ↦ record { host_is = ap host_of is ∙ ap host_of h.1; closing = ap closes is ∙ ap closes h.1; near = ap ahead_of is ∙ ap ahead_of h.1; bare = ap fields_of is ∙ ap fields_of h.1 }
      | inr there ↦ all j d there
    ])

hosted_exchange : (catalogue : _) (sent i : ℕ) (effect : Effect) (c next : ClientState) → ExchangesWith catalogue sent i effect c next → StaysHosted c next
hosted_exchange catalogue sent i effect c next h = at h.0 h.3
  where
    at : (o : Option AnsweredRequest) → IsExchanged i o effect h.1 next → StaysHosted c next
    at None e = let same = h.2.requests.goes.same in (ap host_of e.1 ∙ same.host, ap how_of e.1 ∙ same.how)
    at (Some a) e = let same = h.2.requests.goes.same in (e.2.same.host ∙ same.host, e.2.same.how ∙ same.how)

hosted_delivery : (o : Option Answer) (client : Option ClientState) (cut : Option ℕ) (i : ℕ) (n : Entry) (old new : List ClientState) → slice_get old i ≡ client → IsDeliveryKeeping o client cut i n old new → AllHosted old → AllHosted new
hosted_delivery None client cut i n old new at h all = hosted_same old new h.same all
hosted_delivery (Some a) None cut i n old new at h all = hosted_same old new h.same all
hosted_delivery (Some a) (Some c) cut i n old new at h all = by (is_for a (name_of c)) h
  where
    by : (b : Bool) → AtClient (cond b (Some c) None) (Keeping (DeliversWithKeeping (cut_at cut a.text.items) i n.effect)) i n old new → AllHosted new
    by true k = hosted_at (Keeping (DeliversWithKeeping (cut_at cut a.text.items) i n.effect)) (λ c next d. same_hosted c next d.does.delivers.seen.same) (Some c) i n old new at k all
    by false k = hosted_same old new k.same all

hosted_check : (o : Option ClientState) (catalogue : _) (sent i : ℕ) (n : Entry) (old new : List ClientState) → IsCheckBy o catalogue sent i n old new → AllHosted old → AllHosted new
hosted_check None catalogue sent i n old new h all = hosted_same old new h.same all
hosted_check (Some c) catalogue sent i n old new h all = hosted_same old new h.2.same all

pub hosted_step : (w : World) (cs : List ClientState) (e : Event) (n : Entry) (new : List ClientState) → StepKeeping w cs e n new → AllHosted cs → AllHosted new
unfolding host_of how_of
hosted_step w cs (Publish name file) n new h all = hosted_same cs new h.same all
hosted_step w cs (Epoch e) n new h all = hosted_same cs new h.1.same all
hosted_step w cs (NewClient name blocks) n new h all = hosted_made (client_refusal host name.items blocks) name.items blocks n cs new h all
hosted_step w cs (Open i q) n new h all = hosted_at (Keeping (OpensWithKeeping q i n.effect)) (λ c next o. (ap host_of o.does.opens.seen.1, ap how_of o.does.opens.seen.1)) (slice_get cs i) i n cs new refl h all
hosted_step w cs (Forget i) n new h all = hosted_at (Keeping (ForgetsAll i n.effect)) (λ c next f. (ap host_of f.does.forgets, ap how_of f.does.forgets)) (slice_get cs i) i n cs new refl h all
hosted_step w cs (Ask message) n new h all = hosted_same cs new h.1 all
hosted_step w cs (AskFrom i) n new h all = hosted_at (Keeping (AsksWithKeeping w.catalogue (length w.sent) i n.effect)) (λ c next a. same_hosted c next a.does.requests.seen.goes.same) (slice_get cs i) i n cs new refl h all
hosted_step w cs (Deliver i a cut) n new h all = hosted_delivery (slice_get w.sent a) (slice_get cs i) cut i n cs new refl h all
hosted_step w cs (Exchange i) n new h all =
    hosted_at (Keeping (ExchangesWithKeeping w.catalogue (length w.sent) i n.effect)) (λ c next e. hosted_exchange w.catalogue (length w.sent) i n.effect c next e.does.seen) (slice_get cs i) i n cs new refl h all
hosted_step w cs (Check i) n new h all = hosted_check (slice_get cs i) w.catalogue (length w.sent) i n cs new h all

-- ---- what a client knows

-- a client that agrees with the book knows the file of each publication whose tag it has
pub knows_of : (laws : LowerLaws) (c : ClientState) (book : Book) (p : Publication) → HasDistinctTags book → ClientAgrees c book → In p book → tag_of c ≡ Some p.tag → Knows p.file c
unfolding ClientAgrees
knows_of laws c book p distinct agrees among tag = at (revision_of c) refl agrees
  where
    at : (o : Option Revision) → revision_of c ≡ o → IfSome o (KnowsOne c book) → Knows p.file c
    at None is k = absurd (none-some p.tag (sym (ap (λ x. option_map (λ (v : Revision). v.tag) x) is) ∙ tag))
    at (Some v) is k =
        let same_tag : v.tag ≡ p.tag = same_Some _ _ (sym (ap (λ x. option_map (λ (v : Revision). v.tag) x) is) ∙ tag) in
        let same : k.source ≡ p = laws.fronts.one book distinct k.source p k.published among (k.of_tag ∙ same_tag) in
        subst (λ (s : Publication). Knows s.file c) same k.knows

pub tag_is : (c : ClientState) (v : Revision) → revision_of c ≡ Some v → tag_of c ≡ Some v.tag
tag_is c v is = ap (λ x. option_map (λ (v : Revision). v.tag) x) is

module _ (laws : LowerLaws) where
  -- ---- requests

  needed_under : (w : World) (c mid : ClientState) (v : Revision) (span : Span) (q : Query) → revision_of mid ≡ Some v → ClientAgrees mid w.book → AsksFor mid (Some v) 0 span → name_of mid ≡ name_of c → query_of c ≡ Some q → query_of mid ≡ Some q
      → IsNeededBy w (seen c) (Some v.tag) span
  unfolding ClientAgrees
  needed_under w c mid v span q is agrees asks name query queried =
      let k : KnowsOne mid w.book v = subst (λ o. IfSome o (KnowsOne mid w.book)) is agrees in
      let needed = laws.one_range mid v k.source.file span is k.knows asks in (
        k.source,
        k.published,
        k.of_name ∙ name,
        k.of_tag,
        subst (λ o. IsSomeAnd o (λ q. IsOfNeeded k.source.file q span)) (sym query) (subst (λ o. IfSome o (λ q. IsOfNeeded k.source.file q span)) queried needed),
      )

  needed_by : (w : World) (c mid : ClientState) (a : AnsweredRequest) (o : Option Revision) (q : Query) → revision_of mid ≡ o → a.tag ≡ tag_of mid → ClientAgrees mid w.book → AsksFor mid o 0 a.span → name_of mid ≡ name_of c → query_of c ≡ Some q
      → query_of mid ≡ Some q → IsNeededBy w (seen c) a.tag a.span
  needed_by w c mid a None q is tag agrees asks name query queried =
      let none : a.tag ≡ None = tag ∙ ap (λ x. option_map (λ (v : Revision). v.tag) x) is in
      subst (λ t. IsNeededBy w (seen c) t a.span) (sym none) asks
  needed_by w c mid a (Some v) q is tag agrees asks name query queried =
      let some : a.tag ≡ Some v.tag = tag ∙ tag_is mid v is in
      subst (λ t. IsNeededBy w (seen c) t a.span) (sym some) (needed_under w c mid v a.span q is agrees asks name query queried)

  -- the query of a client that asks
  pub asks_query : (old mid : ClientState) (request : Option (List ℕ)) (span : Span) → Requests old request mid → asked_of mid ≡ Some span → (q : Query) × (query_of mid ≡ Some q)
  asks_query old mid request span r asked = at (query_of mid) refl
    where
      at : (o : Option Query) → query_of mid ≡ o → (q : Query) × (query_of mid ≡ Some q)
      at None is = absurd (none-some span (sym (r.idle (inl is)) ∙ asked))
      at (Some q) is = (q, is)

  needed_asked : (w : World) (cs : List ClientState) (i : ℕ) (c mid : ClientState) (a : AnsweredRequest) → Good w cs → AllHosted cs → slice_get cs i ≡ Some c → Asks w.catalogue (length w.sent) i (Some a) c mid → RequestsKeeping c (Some a.request.items) mid → IsNeededIn w a
  needed_asked w cs i c mid a g hosts at h k =
      let r = h.requests in
      let answered = h.answered in
      let asked = answered.span in
      let q = asks_query c mid (Some a.request.items) a.span r asked in
      let tag : a.tag ≡ tag_of c = answered.tag ∙ ap (λ x. option_map (λ (v : Revision). v.tag) x) r.goes.revision in
      let text : a.request.items ≡ request_with (closes c) (host_of c) (name_of c) (fields_of c) a.span.first a.span.last (tag_of c) = same_Some _ _ (r.text ∙ ap (request_for c) asked) in
      let agrees : ClientAgrees mid w.book = k.goes.agrees w.book (g.agree i c at w.book (λ p j. j) g.distinct) in
      let near : ahead_of mid ≡ 0 = ap (λ (h : RequestOptions). h.ahead) r.goes.same.how ∙ (hosts i c at).near in
      let asks : AsksFor mid (revision_of mid) 0 a.span =
      subst (λ n. AsksFor mid (revision_of mid) n a.span) near (subst (λ o. IfSome o (AsksFor mid (revision_of mid) (ahead_of mid))) asked k.asks) in
      record {
        seen = seen c;
        there = ap (λ j. slice_get w.clients j) answered.client
            ∙ ap (λ (ss : List Seen). slice_get ss i) (sym g.seen_are) ∙ get-map seen cs i ∙ ap (λ (o : Option ClientState). option_map seen o) at;
        text = text ∙ ap (λ b. request_with b (host_of c) (name_of c) (fields_of c) a.span.first a.span.last (tag_of c)) (hosts i c at).closing
            ∙ ap (λ h. request_with true h (name_of c) (fields_of c) a.span.first a.span.last (tag_of c)) (hosts i c at).host_is
            ∙ ap (λ fields. request_with true host (name_of c) fields a.span.first a.span.last (tag_of c)) (hosts i c at).bare
            ∙ ap (λ t. request_with true host (name_of c) [] a.span.first a.span.last t) (sym tag);
        needed = needed_by w c mid a (revision_of mid) q.0 refl answered.tag agrees asks r.goes.same.name (sym r.goes.same.query ∙ q.1) q.1;
      }

  needed_of : (w : World) (cs : List ClientState) (i : ℕ) (c mid : ClientState) (o : Option AnsweredRequest) → Good w cs → AllHosted cs → slice_get cs i ≡ Some c → Asks w.catalogue (length w.sent) i o c mid → RequestsKeeping c (request_in o) mid → IfSome o (IsNeededIn w)
  needed_of w cs i c mid None g hosts at h k = tt
  needed_of w cs i c mid (Some a) g hosts at h k = needed_asked w cs i c mid a g hosts at h k

  abbrev InEffect : World → Effect → Type 0
  InEffect w effect = IfSome (asked_in effect) (IsNeededIn w)

  needed_ask_from : (o : Option ClientState) (w : World) (cs new : List ClientState) (i : ℕ) (n : Entry) → slice_get cs i ≡ o → Good w cs → AllHosted cs → AtClient o (Keeping (AsksWithKeeping w.catalogue (length w.sent) i n.effect)) i n cs new → InEffect w n.effect
  needed_ask_from None w cs new i n at g hosts h = subst (InEffect w) (sym h.done) tt
  needed_ask_from (Some c) w cs new i n at g hosts h =
      let d = h.does.does in
      by d.seen.0 d.seen.2 (needed_of w cs i c h.next d.seen.0 g hosts at d.seen.1 d.requests)
    where
      by : (a : Option AnsweredRequest) → n.effect ≡ asked_effect i a → IfSome a (IsNeededIn w) → InEffect w n.effect
      by None is k = subst (InEffect w) (sym is) tt
      by (Some a) is k = subst (InEffect w) (sym is) k

  needed_exchange : (o : Option ClientState) (w : World) (cs new : List ClientState) (i : ℕ) (n : Entry) → slice_get cs i ≡ o → Good w cs → AllHosted cs → AtClient o (Keeping (ExchangesWithKeeping w.catalogue (length w.sent) i n.effect)) i n cs new → InEffect w n.effect
  needed_exchange None w cs new i n at g hosts h = subst (InEffect w) (sym h.done) tt
  needed_exchange (Some c) w cs new i n at g hosts h =
      let d = h.does.does in
      let e = d.seen in
      by e.0 e.3 (needed_of w cs i c e.1 e.0 g hosts at e.2 d.requests)
    where
      by : (a : Option AnsweredRequest) → IsExchanged i a n.effect h.does.does.seen.1 h.next → IfSome a (IsNeededIn w) → InEffect w n.effect
      by None is k = subst (InEffect w) (sym is.0) tt
      by (Some a) is k = subst (InEffect w) (sym is.1) k

  needed_check : (o : Option ClientState) (w : World) (i : ℕ) (n : Entry) (cs new : List ClientState) → IsCheckBy o w.catalogue (length w.sent) i n cs new → InEffect w n.effect
  needed_check None w i n cs new h = at_effect (InEffect w) n.effect _ h.done tt
  needed_check (Some c) w i n cs new h = by h.0 h.1
    where
      by : (k : Option AnsweredCheck) → IsCheckedKeeping w.catalogue (length w.sent) i c k n.effect → InEffect w n.effect
      by None d = at_effect (InEffect w) n.effect _ d.0 tt
      by (Some k) d = at_effect (InEffect w) n.effect _ d.0 tt

  nothing_needed : (w : World) → HoldsElse (InEffect w)
  nothing_needed w = record {
    skipped = tt;
    published = λ tag. tt;
    refused = λ e. tt;
    epoch = λ e. tt;
    made = λ k. tt;
    opened = λ i. tt;
    forgot = λ i. tt;
    answered = λ k a. tt;
    delivered = λ i what. tt;
  }

  pub needed_step : (w : World) (cs : List ClientState) (e : Event) (n : Entry) (new : List ClientState) → Good w cs → AllHosted cs → StepKeeping w cs e n new → IsNeededEntry w e n
  needed_step w cs e n new g hosts h =
      of_step (InEffect w) (nothing_needed w) w cs e n new (λ i is k. needed_ask_from (slice_get cs i) w cs new i n refl g hosts k)
      (λ i is k. needed_exchange (slice_get cs i) w cs new i n refl g hosts k) (λ i is k. needed_check (slice_get cs i) w i n cs new k) h

-- no client is there at the start
pub hosted_start : AllHosted []
hosted_start i c at = absurd (none-some c at)

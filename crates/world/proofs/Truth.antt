-- Each event keeps the world's invariant, and each report of a run is true.
use Rattle.std.proofs.Common.{◌≡◌, ℕ, List, [], ◌∷◌, ◌++◌, length, map, Option, Some, None, Bool, true, false, cond, refl, sym, ap, ◌∙◌, subst, ◌⊎◌, inl, inr, ◌-◌, min, append-nil, drop}
use Rattle.std.specs.Prelude.{slice_get, slice_set, IfSome, IsSomeAnd, nat_lt, is_some, if◌then◌else◌}
use Rattle.std.specs.Option.{option_map, option_map_or}
use Rattle.std.specs.Str.{bytes_eq}
use Rattle.std.specs.Global.{Vec}
use Rattle.std.proofs.lemmas.List.{map_push, take-append-drop}
use Rattle.std.proofs.lemmas.Option.{none-some, same_Some}
use Rattle.std.proofs.lemmas.Slice.Eq.{bytes_eq-Decides}
use Rattle.tiff_dir.specs.declared.query.Query.{Query}
use Rattle.extents.specs.declared.span.Span.{Span}
use Rattle.http_range.specs.Ask.{CanAsk, request_with}
use Rattle.http_range.specs.Text.{FieldLine}
use Rattle.http_range.specs.Book.{Publication, Book, Catalogue, Includes, published}
use Rattle.http_range.specs.declared.range.Resolved.TheVariants.{Part, Whole}
use Rattle.http_range.specs.declared.reply.Reply.TheVariants.{R416}
use Rattle.http_range.specs.Response.{Response, IsAnswer, is_current, response_to_client, serve_part, refused}
use Rattle.http_range.specs.Honest.{IsFront, IsHonest, IsPieceOfBook, IsReadAs}
use Rattle.cog_server.specs.declared.error.PublishError.{PublishError}
use Rattle.cog_server.specs.declared.server.Answer.{Answer}
use Rattle.cog_server.specs.Server.{IsAnswered}
use Rattle.cog_client.specs.declared.error.ClientError.{ClientError}
use Rattle.cog_client.specs.declared.report.Report.{Report}
use Rattle.cog_client.specs.Report.{told, IsTrueReport}
use Rattle.cog_client.specs.Client.{ClientState, asked_of, client_refusal, fields_of, host_of, name_of, query_of, report_of, revision_of, tag_of, closes}
use Rattle.cog_client.specs.Calls.{request_for}
use Rattle.cog_client.specs.Keeps.{RequestsKeeping}
use Rattle.world.specs.declared.event.Event.{Event}
use Rattle.world.specs.declared.event.Event.TheVariants.{Publish, Epoch, NewClient, Open, Forget, Ask, AskFrom, Deliver, Exchange, Check}
use Rattle.world.specs.declared.event.AnsweredRequest.{AnsweredRequest}
use Rattle.world.specs.declared.event.AnsweredCheck.{AnsweredCheck}
use Rattle.world.specs.declared.event.Effect.{Effect}
use Rattle.world.specs.declared.event.Effect.TheVariants as effects
use Rattle.world.specs.declared.event.Entry.{Entry}
use Rattle.world.specs.World.{World, Seen, host, is_for, answer_in, next_of, publish_by, scheduled, made_by, opened, after, client_of, IsTrueAt, StaysHonest}
use Rattle.world.specs.Run.{seen, news, AtClient, MakesBy, Asks, asked_effect, IsExchanged, cut_at, publish_effect, receiver, told_of}
use Rattle.world.specs.State.{refused_at, AsksWithKeeping, DeliversWithKeeping, ExchangesWithKeeping, ForgetsAll, IsCheckBy, IsCheckedKeeping, IsDeliveredKeeping, IsDeliveryKeeping, Keeping, OpensWithKeeping, StandsTrue, StepKeeping, request_in}
use Rattle.world.specs.LowerLaws.{LowerLaws}
use Rattle.world.proofs.Lists.{get-map, get-set_same}
use Rattle.world.proofs.Good.{Good, AgreesLater, see, seen_same, kept_seen, opened_there, opened_none, agree_set, agree_push, nothing_agrees, good_publish, good_epoch, restart_by, good_clients, good_after}

-- ---- nothing that was published is lost

grows_publish : (w : World) (p : Publication) (o : Option PublishError) → Includes (publish_by w p o).book w.book
grows_publish w p None = λ q i. inr i
grows_publish w p (Some refusal) = λ q i. i

grows_epoch : (b : Bool) (w : World) (e : ℕ) → Includes (restart_by w e b).book w.book
grows_epoch true w e = λ q i. i
grows_epoch false w e = λ q i. i

grows_made : (w : World) (name : List ℕ) (o : Option ClientError) → Includes (made_by w name o).book w.book
grows_made w name None = λ q i. i
grows_made w name (Some refusal) = λ q i. i

pub grows : (w : World) (e : Event) → Includes (scheduled w e).book w.book
grows w (Publish name file) = grows_publish w (next_of w name.items file.items) (refused_at w name.items file.items)
grows w (Epoch e) = grows_epoch (nat_lt w.epoch e) w e
grows w (NewClient name blocks) = grows_made w name.items (client_refusal host name.items blocks)
grows w (Open i q) = λ q i. i
grows w (Forget i) = λ q i. i
grows w (Ask message) = λ q i. i
grows w (AskFrom i) = λ q i. i
grows w (Deliver i a cut) = λ q i. i
grows w (Exchange i) = λ q i. i
grows w (Check i) = λ q i. i

-- ---- what is told

-- what is told is what stands, so it is true as this is
told_true : (laws : LowerLaws) (name : List ℕ) (query : Option Query) (book : Book) (had : Bool) (o standing : Option Report) → option_map told o ≡ cond had None (option_map told standing)
    → IfSome standing (λ r. IsTrueReport r name query book) → IfSome o (λ r. IsTrueReport r name query book)
told_true laws name query book had None standing is h = tt
told_true laws name query book true (Some r) standing is h = absurd (none-some (told r) (sym is))
told_true laws name query book false (Some r) None is h = absurd (none-some (told r) (sym is))
told_true laws name query book false (Some r) (Some s) is h = laws.told s r name query book (sym (same_Some _ _ is)) h

told_at : (o : Option Report) (w : World) (i : ℕ) (s : Seen) → slice_get w.clients i ≡ Some s → IfSome o (λ r. IsTrueReport r s.name s.query w.book) → IfSome o (IsTrueAt w (Some i))
told_at None w i s there h = tt
told_at (Some r) w i s there h = subst (λ (o : Option Seen). IsSomeAnd o (λ x. IsTrueReport r x.name x.query w.book)) (sym there) h

silent : (o : Option Report) (P : Report → Type 0) → option_map told o ≡ None → IfSome o P
silent None P none = tt
silent (Some r) P none = absurd (none-some (told r) (sym none))

-- ---- the world after an event, with what is told

pub record IsSound (w : World) (cs : List ClientState) (client : Option ℕ) (report : Option Report) : Type 0 where
  pub good : Good w cs
  pub told : IfSome report (IsTrueAt w client)

-- an answer is sent, if any
sound_after : (w : World) (cs : List ClientState) (e : Event) (n : Entry) → IsSound (scheduled w e) cs (client_of e) n.report → IfSome (answer_in n.effect) (λ a. StaysHonest a w.book) → IsSound (after w e n.effect) cs (client_of e) n.report
sound_after w cs e n s honest = record { good = good_after w cs e n.effect s.good (later (answer_in n.effect) honest); told = again n.report s.told }
  where
    later : (o : Option Answer) → IfSome o (λ a. StaysHonest a w.book) → IfSome o (λ a. StaysHonest a (scheduled w e).book)
    later None h = tt
    later (Some a) h = λ name book for inc. h name book for (λ p j. inc p (grows w e p j))

    again : (o : Option Report) → IfSome o (IsTrueAt (scheduled w e) (client_of e)) → IfSome o (IsTrueAt (after w e n.effect) (client_of e))
    again None h = tt
    again (Some r) h = h

-- a call of client i: the world is good and what is told is true
sound_call : (laws : LowerLaws) (w : World) (cs new : List ClientState) (i : ℕ) (c next : ClientState) (n : Entry) → Good w new → slice_get cs i ≡ Some c → new ≡ slice_set cs i next → AgreesLater next w.book → StandsTrue next → told_of n ≡ news c next → IsSound w new (Some i) n.report
sound_call laws w cs new i c next n g there changed agrees stands tells =
    let at : slice_get w.clients i ≡ Some (seen next) =
    ap (λ (ss : List Seen). slice_get ss i) (sym g.seen_are) ∙ (ap (λ (xs : List ClientState). slice_get (map seen xs) i) changed
    ∙ (get-map seen (slice_set cs i next) i ∙ ap (λ (o : Option ClientState). option_map seen o) (get-set_same cs i next c there))) in
    let standing = stands w.book (agrees w.book (λ p j. j) g.distinct) in
    let true_now = told_true laws (name_of next) (query_of next) w.book (is_some (report_of c)) n.report (report_of next) tells standing in
    record { good = g; told = told_at n.report w i (seen next) at true_now }

-- an event that tells nothing
sound_quiet : (w : World) (cs new : List ClientState) (client : Option ℕ) (n : Entry) → Good w cs → new ≡ cs → told_of n ≡ None → IsSound w new client n.report
sound_quiet w cs new client n g same none = record { good = subst (Good w) (sym same) g; told = silent n.report (IsTrueAt w client) none }

sound_made : (o : Option ClientError) (w : World) (cs new : List ClientState) (name : List ℕ) (blocks : ℕ) (n : Entry) → Good w cs → MakesBy o name blocks n cs new → IsSound (made_by w name o) new None n.report
unfolding name_of query_of revision_of
sound_made (Some refusal) w cs new name blocks n g h = sound_quiet w cs new None n g h.same h.report
sound_made None w cs new name blocks n g h =
    let seen_made : seen h.0 ≡ see name None = ap seen h.1 in
    let all : map seen (cs ++ h.0 ∷ []) ≡ w.clients ++ see name None ∷ [] = map_push seen cs h.0 ∙ (ap (λ (ss : List Seen). ss ++ seen h.0 ∷ []) g.seen_are ∙ ap (λ (s : Seen). w.clients ++ s ∷ []) seen_made) in
    let good = good_clients w cs (cs ++ h.0 ∷ []) (w.clients ++ see name None ∷ []) g all (agree_push cs h.0 w.book g.agree (λ b inc d. nothing_agrees h.0 (ap revision_of h.1) b)) in
    sound_quiet (made_by w name None) (cs ++ h.0 ∷ []) new None n good h.2.same h.2.report

sound_open : (laws : LowerLaws) (o : Option ClientState) (w : World) (cs new : List ClientState) (i : ℕ) (q : Query) (n : Entry) → slice_get cs i ≡ o → Good w cs → AtClient o (Keeping (OpensWithKeeping q i n.effect)) i n cs new → IsSound (scheduled w (Open i q)) new (Some i) n.report
unfolding name_of query_of
sound_open laws None w cs new i q n at g h =
    let same : w.clients ≡ opened w.clients i q = sym (ap (λ (ss : List Seen). opened ss i q) (sym g.seen_are) ∙ (opened_none cs i q at ∙ g.seen_are)) in
    sound_quiet (scheduled w (Open i q)) cs new (Some i) n (good_clients w cs cs (opened w.clients i q) g (g.seen_are ∙ same) g.agree) h.same h.report
sound_open laws (Some c) w cs new i q n at g h =
    let opens = h.does.does.opens in
    let later : AgreesLater h.next w.book = (λ b inc d. opens.agrees b (g.agree i c at b inc d)) in
    let seen_new : map seen (slice_set cs i h.next) ≡ opened w.clients i q = opened_there cs i c h.next q at (ap name_of opens.seen.1) (ap query_of opens.seen.1) ∙ ap (λ (ss : List Seen). opened ss i q) g.seen_are in
    let good = good_clients w cs (slice_set cs i h.next) (opened w.clients i q) g seen_new (agree_set cs i c h.next w.book at g.agree later) in
    sound_call laws (scheduled w (Open i q)) cs new i c h.next n (subst (Good (scheduled w (Open i q))) (sym h.changed) good) at h.changed later h.does.stands h.tells

-- what a client is after its calls
pub record IsKept (c next : ClientState) (book : Book) : Type 0 where
  pub same : seen next ≡ seen c
  pub agrees : AgreesLater next book

-- a call of client i, after which it is kept
sound_kept : (laws : LowerLaws) (w : World) (cs new : List ClientState) (i : ℕ) (c next : ClientState) (n : Entry) → Good w cs → slice_get cs i ≡ Some c → new ≡ slice_set cs i next → IsKept c next w.book → StandsTrue next → told_of n ≡ news c next → IsSound w new (Some i) n.report
sound_kept laws w cs new i c next n g at changed kept stands tells =
    let mid = good_clients w cs (slice_set cs i next) w.clients g (kept_seen cs i c next at kept.same ∙ g.seen_are) (agree_set cs i c next w.book at g.agree kept.agrees) in
    sound_call laws w cs new i c next n (subst (Good w) (sym changed) mid) at changed kept.agrees stands tells

sound_forget : (laws : LowerLaws) (o : Option ClientState) (w : World) (cs new : List ClientState) (i : ℕ) (n : Entry) → slice_get cs i ≡ o → Good w cs → AtClient o (Keeping (ForgetsAll i n.effect)) i n cs new → IsSound w new (Some i) n.report
unfolding name_of query_of revision_of
sound_forget laws None w cs new i n at g h = sound_quiet w cs new (Some i) n g h.same h.report
sound_forget laws (Some c) w cs new i n at g h =
    let forgets = h.does.does.forgets in
    sound_kept laws w cs new i c h.next n g at h.changed (record { same = seen_same c h.next (ap name_of forgets) (ap query_of forgets); agrees = λ b inc d. nothing_agrees h.next (ap revision_of forgets) b }) h.does.stands h.tells

-- ---- what is sent

-- an event with such an effect sends nothing
nothing_sent : (effect done : Effect) (book : Book) → effect ≡ done → answer_in done ≡ None → IfSome (answer_in effect) (λ a. StaysHonest a book)
nothing_sent effect done book is none =
    let P : Option Answer → Type 0 = λ o. IfSome o (λ a. StaysHonest a book) in
    subst P (sym (ap (λ (e : Effect). answer_in e) is ∙ none)) tt

none_published : (tag : List ℕ) (o : Option PublishError) → answer_in (publish_effect tag o) ≡ None
none_published tag None = refl
none_published tag (Some refusal) = refl

none_restarted : (b : Bool) (e : ℕ) → answer_in (if b then effects.Epoch e else effects.Skipped) ≡ None
none_restarted true e = refl
none_restarted false e = refl

made_honest : (o : Option ClientError) (book : Book) (name : List ℕ) (blocks : ℕ) (n : Entry) (cs new : List ClientState) → MakesBy o name blocks n cs new → IfSome (answer_in n.effect) (λ a. StaysHonest a book)
made_honest None book name blocks n cs new h = nothing_sent n.effect _ book h.2.done refl
made_honest (Some refusal) book name blocks n cs new h = nothing_sent n.effect _ book h.done refl

-- where there is no such client, nothing is sent
client_honest : (o : Option ClientState) (R : ClientState → ClientState → Type 0) (book : Book) (i : ℕ) (n : Entry) (cs new : List ClientState) → ((c next : ClientState) → o ≡ Some c → R c next → IfSome (answer_in n.effect) (λ a. StaysHonest a book))
    → AtClient o R i n cs new → IfSome (answer_in n.effect) (λ a. StaysHonest a book)
client_honest None R book i n cs new each h = nothing_sent n.effect _ book h.done refl
client_honest (Some c) R book i n cs new each h = each c h.next refl h.does

served_name : (laws : LowerLaws) (name : List ℕ) (catalogue : Catalogue) (first last : ℕ) (tag : Option (List ℕ)) (o : Option Publication) → published name catalogue ≡ o
    → ((response_to_client o first last tag).name ≡ Some name) ⊎ ((response_to_client o first last tag).name ≡ None)
served_name laws name catalogue first last tag None e = inr refl
served_name laws name catalogue first last tag (Some p) e =
    let named : p.name ≡ name = laws.named.named name catalogue p e in by_case (is_current tag p.tag) (nat_lt first (length p.file)) named
  where
    by_case : (current inside : Bool) → p.name ≡ name
        → ((if current then (if inside then serve_part (Part first (min last (length p.file - 1))) p true else refused (R416 (length p.file)) true) else serve_part Whole p true).name ≡ Some name)
        ⊎ ((if current then (if inside then serve_part (Part first (min last (length p.file - 1))) p true else refused (R416 (length p.file)) true) else serve_part Whole p true).name ≡ None)
    by_case true true named = inl (ap Some named)
    by_case true false named = inr refl
    by_case false inside named = inl (ap Some named)

-- a client's request is that for a span
pub asked_for : (c : ClientState) (o : Option Span) (request : List ℕ) → Some request ≡ request_for c o → IfSome o (λ s. CanAsk (host_of c) (name_of c) (fields_of c) s.first s.last (tag_of c))
    → (s : Span) × (request ≡ request_with (closes c) (host_of c) (name_of c) (fields_of c) s.first s.last (tag_of c)) × CanAsk (host_of c) (name_of c) (fields_of c) s.first s.last (tag_of c)
asked_for c None request e can = absurd (none-some request (sym e))
asked_for c (Some s) request e can = (s, same_Some _ _ e, can)

-- the answer is for this name, where it carries the tag of the file of this name, or none
named_for : (name : List ℕ) (o : Option (Vec ℕ)) → option_map_or (λ (other : Vec ℕ). bytes_eq other.items name) o true ≡ true → (option_map (λ (n : Vec ℕ). n.items) o ≡ Some name) ⊎ (option_map (λ (n : Vec ℕ). n.items) o ≡ None)
named_for name None e = inr refl
named_for name (Some other) e = inl (ap Some ((bytes_eq-Decides other.items name).0 e))

for_named : (name : List ℕ) (o : Option (Vec ℕ)) → (option_map (λ (n : Vec ℕ). n.items) o ≡ Some name) ⊎ (option_map (λ (n : Vec ℕ). n.items) o ≡ None) → option_map_or (λ (other : Vec ℕ). bytes_eq other.items name) o true ≡ true
for_named name None h = refl
for_named name (Some other) (inl is) = (bytes_eq-Decides other.items name).1 (same_Some _ _ is)
for_named name (Some other) (inr none) = absurd (none-some _ (sym none))

pub front_is : (cut : Option ℕ) (text : List ℕ) → IsFront (cut_at cut text) text
front_is None text = ([], append-nil text)
front_is (Some n) text = (drop n text, take-append-drop n text)

module _ (laws : LowerLaws) where
  -- what the server of the world answers is honest in every later book
  pub answer_honest : (w : World) (cs : List ClientState) (message : List ℕ) (a : Answer) → Good w cs → IsAnswered w.catalogue message a → StaysHonest a w.book
  answer_honest w cs message a g h = λ name later for inc.
      let Q : List ℕ → Type 0 = λ t. IsHonest t name later in
      let for_it = named_for name a.name for in
      let named : (h.response.name ≡ Some name) ⊎ (h.response.name ≡ None) = elim for_it [ inl is ↦ inl (sym h.shows.name ∙ is) | inr none ↦ inr (sym h.shows.name ∙ none) ] in
      subst Q (sym h.shows.text) (laws.honest.answered w.catalogue later message h.response name g.lawful (λ m p found. inc p (g.covers m p found)) h.answers named)

  -- the answer to a client's own request is for its name
  pub answer_for : (catalogue : Catalogue) (close : Bool) (host name : List ℕ) (extra : List FieldLine) (tag : Option (List ℕ)) (s : Span) (request : List ℕ) (a : Answer)
      → request ≡ request_with close host name extra s.first s.last tag → CanAsk host name extra s.first s.last tag → IsAnswered catalogue request a → is_for a name ≡ true
  answer_for catalogue close host name extra tag s request a is can h =
      let text : request ≡ request_with close host name extra s.first s.last tag ++ [] = is ∙ sym (append-nil _) in
      let P : List ℕ → Type 0 = λ m. IsAnswer catalogue m h.response in
      let same = (laws.answered catalogue close host name extra [] s.first s.last tag h.response can s.ascending).0 (subst P text h.answers) in
      let Q : Response → Type 0 = λ r. (r.name ≡ Some name) ⊎ (r.name ≡ None) in
      let served = subst Q (sym same) (served_name laws name catalogue s.first s.last tag (published name catalogue) refl) in
      for_named name a.name (elim served [ inl is ↦ inl (h.shows.name ∙ is) | inr none ↦ inr (h.shows.name ∙ none) ])

  -- ---- requests

  asks_kept : (w : World) (request : Option (List ℕ)) (c mid : ClientState) → RequestsKeeping c request mid → AgreesLater c w.book → IsKept c mid w.book
  asks_kept w request c mid h agrees = record {
    same = seen_same c mid h.seen.goes.same.name h.seen.goes.same.query;
    agrees = λ later inc d. h.goes.agrees later (agrees later inc d);
  }

  asks_honest : (w : World) (cs : List ClientState) (i : ℕ) (o : Option AnsweredRequest) (c mid : ClientState) → Good w cs → Asks w.catalogue (length w.sent) i o c mid → IfSome o (λ a. StaysHonest a.answer w.book)
  asks_honest w cs i None c mid g h = tt
  asks_honest w cs i (Some a) c mid g h = answer_honest w cs a.request.items a.answer g h.answered.answered

  asked_honest : (w : World) (i : ℕ) (o : Option AnsweredRequest) (effect : Effect) → effect ≡ asked_effect i o → IfSome o (λ a. StaysHonest a.answer w.book) → IfSome (answer_in effect) (λ a. StaysHonest a w.book)
  asked_honest w i None effect is h = let P : Effect → Type 0 = λ e. IfSome (answer_in e) (λ a. StaysHonest a w.book) in subst P (sym is) tt
  asked_honest w i (Some a) effect is h = let P : Effect → Type 0 = λ e. IfSome (answer_in e) (λ a. StaysHonest a w.book) in subst P (sym is) h

  sound_ask_from : (o : Option ClientState) (w : World) (cs new : List ClientState) (i : ℕ) (n : Entry) → slice_get cs i ≡ o → Good w cs → AtClient o (Keeping (AsksWithKeeping w.catalogue (length w.sent) i n.effect)) i n cs new → IsSound w new (Some i) n.report
  sound_ask_from None w cs new i n at g h = sound_quiet w cs new (Some i) n g h.same h.report
  sound_ask_from (Some c) w cs new i n at g h =
      let d = h.does.does in
      sound_kept laws w cs new i c h.next n g at h.changed (asks_kept w (request_in d.seen.0) c h.next d.requests (g.agree i c at)) h.does.stands h.tells

  ask_from_honest : (w : World) (cs : List ClientState) (i : ℕ) (effect : Effect) (c next : ClientState) → Good w cs → AsksWithKeeping w.catalogue (length w.sent) i effect c next → IfSome (answer_in effect) (λ a. StaysHonest a w.book)
  ask_from_honest w cs i effect c next g h = asked_honest w i h.seen.0 effect h.seen.2 (asks_honest w cs i h.seen.0 c next g h.seen.1)

  -- ---- exchanges

  pub exchanged_kept : (w : World) (cs : List ClientState) (i : ℕ) (o : Option AnsweredRequest) (effect : Effect) (c mid next : ClientState) → Good w cs → Asks w.catalogue (length w.sent) i o c mid → RequestsKeeping c (request_in o) mid
      → IsExchanged i o effect mid next → IsDeliveredKeeping o mid next → AgreesLater c w.book → IsKept c next w.book
  exchanged_kept w cs i None effect c mid next g asks k h d agrees = let P : ClientState → Type 0 = λ x. IsKept c x w.book in subst P (sym h.1) (asks_kept w None c mid k agrees)
  exchanged_kept w cs i (Some a) effect c mid next g asks k h d agrees =
      let r = asks.requests in
      let delivers = d.1 in
      let asked = asked_for c (asked_of mid) a.request.items r.text k.lawful in
      let for : is_for a.answer (name_of c) ≡ true = answer_for w.catalogue (closes c) (host_of c) (name_of c) (fields_of c) (tag_of c) asked.0 a.request.items a.answer asked.1 asked.2 asks.answered.answered in
      let honest = answer_honest w cs a.request.items a.answer g asks.answered.answered in
      let P : Book → List ℕ → Type 0 = λ later name. IsReadAs (IsPieceOfBook name later) a.answer.text.items in
      record {
        same = seen_same c next (delivers.seen.same.name ∙ r.goes.same.name) (delivers.seen.same.query ∙ r.goes.same.query);
        agrees = λ later inc x. delivers.agrees later x (k.goes.agrees later (agrees later inc x)) (subst (λ name. P later name) (sym r.goes.same.name)
            (laws.fronts.book a.answer.text.items (name_of c) later (honest (name_of c) later for inc) a.answer.text.items ([], append-nil _)));
      }

  exchanged_honest : (w : World) (i : ℕ) (o : Option AnsweredRequest) (effect : Effect) (mid next : ClientState) → IsExchanged i o effect mid next → IfSome o (λ a. StaysHonest a.answer w.book) → IfSome (answer_in effect) (λ a. StaysHonest a w.book)
  exchanged_honest w i None effect mid next h honest = let P : Effect → Type 0 = λ e. IfSome (answer_in e) (λ a. StaysHonest a w.book) in subst P (sym h.0) tt
  exchanged_honest w i (Some a) effect mid next h honest = let P : Effect → Type 0 = λ e. IfSome (answer_in e) (λ a. StaysHonest a w.book) in subst P (sym h.1) honest

  sound_exchange : (o : Option ClientState) (w : World) (cs new : List ClientState) (i : ℕ) (n : Entry) → slice_get cs i ≡ o → Good w cs → AtClient o (Keeping (ExchangesWithKeeping w.catalogue (length w.sent) i n.effect)) i n cs new → IsSound w new (Some i) n.report
  sound_exchange None w cs new i n at g h = sound_quiet w cs new (Some i) n g h.same h.report
  sound_exchange (Some c) w cs new i n at g h =
      let d = h.does.does in
      let e = d.seen in
      sound_kept laws w cs new i c h.next n g at h.changed (exchanged_kept w cs i e.0 n.effect c e.1 h.next g e.2 d.requests e.3 d.delivers (g.agree i c at)) h.does.stands h.tells

  exchange_honest : (w : World) (cs : List ClientState) (i : ℕ) (effect : Effect) (c next : ClientState) → Good w cs → ExchangesWithKeeping w.catalogue (length w.sent) i effect c next → IfSome (answer_in effect) (λ a. StaysHonest a w.book)
  exchange_honest w cs i effect c next g h =
      let e = h.seen in
      exchanged_honest w i e.0 effect e.1 next e.3 (asks_honest w cs i e.0 c e.1 g e.2)

  -- ---- deliveries

  sound_delivery : (b : Bool) (w : World) (cs new : List ClientState) (i k : ℕ) (a : Answer) (c : ClientState) (cut : Option ℕ) (n : Entry) → is_for a (name_of c) ≡ b → slice_get w.sent k ≡ Some a → slice_get cs i ≡ Some c → Good w cs
      → AtClient (if b then Some c else None) (Keeping (DeliversWithKeeping (cut_at cut a.text.items) i n.effect)) i n cs new → IsSound w new (Some i) n.report
  sound_delivery false w cs new i k a c cut n for sent at g h = sound_quiet w cs new (Some i) n g h.same h.report
  sound_delivery true w cs new i k a c cut n for sent at g h =
      let d = h.does.does.delivers in
      let kept : IsKept c h.next w.book = record {
        same = seen_same c h.next d.seen.same.name d.seen.same.query;
        agrees = λ later inc x. d.agrees later x (g.agree i c at later inc x)
            (laws.fronts.book a.text.items (name_of c) later (g.honest k a sent (name_of c) later for inc) (cut_at cut a.text.items) (front_is cut a.text.items));
      } in
      sound_kept laws w cs new i c h.next n g at h.changed kept h.does.stands h.tells

  sound_deliver : (o : Option Answer) (oc : Option ClientState) (w : World) (cs new : List ClientState) (i k : ℕ) (cut : Option ℕ) (n : Entry) → slice_get w.sent k ≡ o → slice_get cs i ≡ oc → Good w cs → IsDeliveryKeeping o oc cut i n cs new → IsSound w new (Some i) n.report
  sound_deliver None oc w cs new i k cut n sent at g h = sound_quiet w cs new (Some i) n g h.same h.report
  sound_deliver (Some a) None w cs new i k cut n sent at g h = sound_quiet w cs new (Some i) n g h.same h.report
  sound_deliver (Some a) (Some c) w cs new i k cut n sent at g h = sound_delivery (is_for a (name_of c)) w cs new i k a c cut n refl sent at g h

  deliver_honest : (o : Option Answer) (oc : Option ClientState) (book : Book) (i : ℕ) (cut : Option ℕ) (n : Entry) (cs new : List ClientState) → IsDeliveryKeeping o oc cut i n cs new → IfSome (answer_in n.effect) (λ a. StaysHonest a book)
  deliver_honest None oc book i cut n cs new h = nothing_sent n.effect _ book h.done refl
  deliver_honest (Some a) oc book i cut n cs new h = client_honest (receiver (Some a) oc) (Keeping (DeliversWithKeeping (cut_at cut a.text.items) i n.effect)) book i n cs new (λ c next is d. nothing_sent n.effect _ book d.does.seen.1 refl) h

  -- ---- checks

  check_honest : (w : World) (cs : List ClientState) (i : ℕ) (c : ClientState) (o : Option AnsweredCheck) (effect : Effect) → Good w cs → IsCheckedKeeping w.catalogue (length w.sent) i c o effect → IfSome (answer_in effect) (λ a. StaysHonest a w.book)
  check_honest w cs i c None effect g h = let P : Effect → Type 0 = λ e. IfSome (answer_in e) (λ a. StaysHonest a w.book) in subst P (sym h.0) tt
  check_honest w cs i c (Some k) effect g h =
      let P : Effect → Type 0 = λ e. IfSome (answer_in e) (λ a. StaysHonest a w.book) in
      subst P (sym h.0) (answer_honest w cs k.request.items k.answer g h.1.seen.answered)

  check_sent : (o : Option ClientState) (w : World) (cs new : List ClientState) (i : ℕ) (n : Entry) → Good w cs → IsCheckBy o w.catalogue (length w.sent) i n cs new → IfSome (answer_in n.effect) (λ a. StaysHonest a w.book)
  check_sent None w cs new i n g h = nothing_sent n.effect _ w.book h.done refl
  check_sent (Some c) w cs new i n g h = check_honest w cs i c h.0 n.effect g h.1

  sound_check : (o : Option ClientState) (w : World) (cs new : List ClientState) (i : ℕ) (n : Entry) → Good w cs → IsCheckBy o w.catalogue (length w.sent) i n cs new → IsSound w new (Some i) n.report
  sound_check None w cs new i n g h = sound_quiet w cs new (Some i) n g h.same h.report
  sound_check (Some c) w cs new i n g h = sound_quiet w cs new (Some i) n g h.2.same h.2.report

  -- ---- one event

  -- what it sends is honest
  pub honest_step : (w : World) (cs : List ClientState) (e : Event) (n : Entry) (new : List ClientState) → Good w cs → StepKeeping w cs e n new → IfSome (answer_in n.effect) (λ a. StaysHonest a w.book)
  honest_step w cs (Publish name file) n new g h = nothing_sent n.effect _ w.book h.done (none_published (next_of w name.items file.items).tag (refused_at w name.items file.items))
  honest_step w cs (Epoch e) n new g h = nothing_sent n.effect _ w.book h.1.done (none_restarted (nat_lt w.epoch e) e)
  honest_step w cs (NewClient name blocks) n new g h = made_honest (client_refusal host name.items blocks) w.book name.items blocks n cs new h
  honest_step w cs (Open i q) n new g h = client_honest (slice_get cs i) (Keeping (OpensWithKeeping q i n.effect)) w.book i n cs new (λ c next is d. nothing_sent n.effect _ w.book d.does.done refl) h
  honest_step w cs (Forget i) n new g h = client_honest (slice_get cs i) (Keeping (ForgetsAll i n.effect)) w.book i n cs new (λ c next is d. nothing_sent n.effect _ w.book d.does.done refl) h
  honest_step w cs (Ask message) n new g h = subst (λ e. IfSome (answer_in e) (λ a. StaysHonest a w.book)) (sym h.0.done) (answer_honest w cs message.items h.0.answer g h.0.answered)
  honest_step w cs (AskFrom i) n new g h = client_honest (slice_get cs i) (Keeping (AsksWithKeeping w.catalogue (length w.sent) i n.effect)) w.book i n cs new (λ c next is d. ask_from_honest w cs i n.effect c next g d.does) h
  honest_step w cs (Deliver i a cut) n new g h = deliver_honest (slice_get w.sent a) (slice_get cs i) w.book i cut n cs new h
  honest_step w cs (Exchange i) n new g h = client_honest (slice_get cs i) (Keeping (ExchangesWithKeeping w.catalogue (length w.sent) i n.effect)) w.book i n cs new (λ c next is d. exchange_honest w cs i n.effect c next g d.does) h
  honest_step w cs (Check i) n new g h = check_sent (slice_get cs i) w cs new i n g h

  -- what it makes of the world is good, and what it tells is true
  told_step : (w : World) (cs : List ClientState) (e : Event) (n : Entry) (new : List ClientState) → Good w cs → StepKeeping w cs e n new → IsSound (scheduled w e) new (client_of e) n.report
  told_step w cs (Publish name file) n new g h =
      sound_quiet (scheduled w (Publish name file)) cs new None n (good_publish laws w cs name.items file.items (refused_at w name.items file.items) refl g) h.same h.report
  told_step w cs (Epoch e) n new g h = sound_quiet (scheduled w (Epoch e)) cs new None n (good_epoch (nat_lt w.epoch e) w cs e refl h.0 g) h.1.same h.1.report
  told_step w cs (NewClient name blocks) n new g h = sound_made (client_refusal host name.items blocks) w cs new name.items blocks n g h
  told_step w cs (Open i q) n new g h = sound_open laws (slice_get cs i) w cs new i q n refl g h
  told_step w cs (Forget i) n new g h = sound_forget laws (slice_get cs i) w cs new i n refl g h
  told_step w cs (Ask message) n new g h = sound_quiet w cs new None n g h.1 h.0.report
  told_step w cs (AskFrom i) n new g h = sound_ask_from (slice_get cs i) w cs new i n refl g h
  told_step w cs (Deliver i a cut) n new g h = sound_deliver (slice_get w.sent a) (slice_get cs i) w cs new i a cut n refl refl g h
  told_step w cs (Exchange i) n new g h = sound_exchange (slice_get cs i) w cs new i n refl g h
  told_step w cs (Check i) n new g h = sound_check (slice_get cs i) w cs new i n g h

  pub sound_step : (w : World) (cs : List ClientState) (e : Event) (n : Entry) (new : List ClientState) → Good w cs → StepKeeping w cs e n new → IsSound (after w e n.effect) new (client_of e) n.report
  sound_step w cs e n new g h = sound_after w new e n (told_step w cs e n new g h) (honest_step w cs e n new g h)

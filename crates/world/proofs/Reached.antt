-- In a faithful stretch a report comes by the exchange after as many as the query costs.
use Rattle.std.proofs.Common.{◌≡◌, ℕ, zero, suc, ◌<◌, ◌≤◌, ◌⊎◌, List, [], ◌∷◌, ◌++◌, length, take, drop, replicate, Option, Some, None, refl, sym, ap, ◌∙◌, subst, arith, inl, inr}
use Rattle.std.specs.Prelude.{slice_get, IfSome, IsSomeAnd, is_some, if◌then◌else◌}
use Rattle.std.specs.Option.{option_map}
use Rattle.std.proofs.lemmas.Bool.{false≢true}
use Rattle.std.proofs.lemmas.Option.{none-some, same_Some}
use Rattle.tiff_dir.specs.declared.query.Query.{Query}
use Rattle.tiff_dir.specs.Query.{cost}
use Rattle.extents.specs.declared.span.Span.{Span}
use Rattle.http_range.specs.Ask.{CanAsk, request_with}
use Rattle.http_range.specs.Book.{Publication, In, published}
use Rattle.http_range.specs.Response.{IsAnswer}
use Rattle.cog_client.specs.declared.request_options.RequestOptions.{RequestOptions}
use Rattle.cog_client.specs.declared.delivered.Delivered.{Delivered}
use Rattle.cog_client.specs.declared.report.Report.{Report}
use Rattle.cog_client.specs.Report.{IsTrueReport, Told, told}
use Rattle.cog_client.specs.Case.{Revision}
use Rattle.cog_client.specs.Client.{ClientState, Knows, ClientAgrees, ahead_of, asked_of, fields_of, host_of, name_of, query_of, report_of, tag_of, closes}
use Rattle.cog_client.specs.Calls.{request_for}
use Rattle.cog_client.specs.Keeps.{DeliversKeeping, RequestsKeeping}
use Rattle.cog_client.specs.Progress.{BringsOn, IsAtWork, IsOwnAnswer, left}
use Rattle.world.specs.declared.event.Event.{Event}
use Rattle.world.specs.declared.event.Event.TheVariants.{Open, Exchange}
use Rattle.world.specs.declared.event.AnsweredRequest.{AnsweredRequest}
use Rattle.world.specs.declared.event.Entry.{Entry}
use Rattle.world.specs.World.{World, Seen, after, after_all, start}
use Rattle.world.specs.Progress.{AllReport, HasReport, stretch}
use Rattle.world.specs.Run.{Asks, AtClient, Changes, IsExchanged, news, seen, told_of}
use Rattle.world.specs.State.{ExchangesWithKeeping, IsDeliveredKeeping, Keeping, OpensWithKeeping, RunsKeeping, StandsTrue, request_in}
use Rattle.world.specs.LowerLaws.{LowerLaws}
use Rattle.world.proofs.Lists.{get-map, get-set_same}
use Rattle.world.proofs.Good.{Good, good_start}
use Rattle.world.proofs.Truth.{IsKept, exchanged_kept, sound_step}
use Rattle.world.proofs.Needed.{knows_of, tag_is}

-- ---- what is told

-- the report that stands after an event, where none stood before it
told_now : (old new : ClientState) (report : Option Told) → report ≡ news old new → report_of old ≡ None → report ≡ option_map told (report_of new)
told_now old new report t none =
    t ∙ ap (λ o. if is_some o then None else option_map told (report_of new)) none

-- ---- one exchange

-- at most m exchanges are left for the client: none of its file was read yet, or so many blocks are left
abbrev IsWithin : Publication → Query → ℕ → ClientState → Type 0
IsWithin p q m c = (cost p.file q < m) ⊎ ((tag_of c ≡ Some p.tag) × (left p.file c ≤ m) × (1 ≤ m))

-- a report that tells the same answers the same query
report_for : (o : Option Report) (t : Report) (q : Query) → option_map told o ≡ Some (told t) → t.query ≡ q → IsSomeAnd o (λ r. r.query ≡ q)
report_for None t q tells is = absurd (none-some _ tells)
report_for (Some r) t q tells is = ap (λ (x : Told). x.query) (same_Some _ _ tells) ∙ is

-- the client reads the query, which isn't answered yet
record IsReading (q : Query) (name : List ℕ) (c : ClientState) : Type 0 where
  query : query_of c ≡ Some q
  name_is : name_of c ≡ name
  silent : report_of c ≡ None

some_of : {A : Type 0} (o : Option A) (x : A) (P : A → Type 0) → o ≡ Some x → IfSome o P → P x
some_of o x P is h = subst (λ z. IfSome z P) is h

no_request : (c : ClientState) (o : Option Span) → None ≡ request_for c o → o ≡ None
no_request c None is = refl
no_request c (Some s) is = absurd (none-some _ is)

-- what is left isn't nothing, where no report stands
some_left : (n : ℕ) → (n ≡ 0 → ⊥) → 1 ≤ n
some_left zero not = absurd (not refl)
some_left (suc n) not = omega arith

module _ (laws : LowerLaws) (w : World) (cs : List ClientState) (i : ℕ) (c : ClientState) (g : Good w cs) (at : slice_get cs i ≡ Some c) (p : Publication) (q : Query) where
  agrees_now : ClientAgrees c w.book
  agrees_now = g.agree i c at w.book (λ p j. j) g.distinct

  in_book : (name : List ℕ) → published name w.catalogue ≡ Some p → In p w.book
  in_book name has = g.covers name p has

  -- the answer to the client's request is a server's whole answer to what it asks for
  own : (mid : ClientState) (a : AnsweredRequest) → Asks w.catalogue (length w.sent) i (Some a) c mid → RequestsKeeping c (Some a.request.items) mid
      → published (name_of c) w.catalogue ≡ Some p → IsOwnAnswer mid p a.span a.answer.text.items
  own mid a h k has =
      let r = h.requests in
      let span = a.span in
      let asked = h.answered.span in
      let host = r.goes.same.host in
      let name = r.goes.same.name in
      let tag : tag_of mid ≡ tag_of c = ap (λ x. option_map (λ (v : Revision). v.tag) x) r.goes.revision in
      let s = h.answered.answered in
      let can : CanAsk (host_of c) (name_of c) (fields_of c) span.first span.last (tag_of c) = some_of (asked_of mid) span _ asked k.lawful in
      let text : a.request.items ≡ request_with (closes c) (host_of c) (name_of c) (fields_of c) span.first span.last (tag_of c) = same_Some _ _ (r.text ∙ ap (request_for c) asked) in
      let closing : closes mid ≡ closes c = ap (λ (h : RequestOptions). h.closes) r.goes.same.how in
      let how = r.goes.same.how in
      let same : request_with (closes c) (host_of c) (name_of c) (fields_of c) span.first span.last (tag_of c) ≡ request_with (closes mid) (host_of mid) (name_of mid) (fields_of mid) span.first span.last (tag_of mid) =
      ap (λ b. request_with b (host_of c) (name_of c) (fields_of c) span.first span.last (tag_of c)) (sym closing)
      ∙ ap (λ h. request_with (closes mid) h (name_of c) (fields_of c) span.first span.last (tag_of c)) (sym host)
      ∙ ap (λ n. request_with (closes mid) (host_of mid) n (fields_of c) span.first span.last (tag_of c)) (sym name)
      ∙ ap (λ (h : RequestOptions). request_with (closes mid) (host_of mid) (name_of mid) h.fields span.first span.last (tag_of c)) (sym how)
      ∙ ap (λ t. request_with (closes mid) (host_of mid) (name_of mid) (fields_of mid) span.first span.last t) (sym tag) in
      record {
        catalogue = w.catalogue;
        lawful = g.lawful;
        has = ap (λ n. published n w.catalogue) name ∙ has;
        asked = asked;
        ahead = ahead_of mid;
        asks = some_of (asked_of mid) span _ asked k.asks;
        can = subst (λ (w : RequestOptions). CanAsk (host_of mid) (name_of mid) w.fields span.first span.last (tag_of mid)) (sym how)
            (subst (λ h. CanAsk h (name_of mid) (fields_of c) span.first span.last (tag_of mid)) (sym host)
            (subst (λ n. CanAsk (host_of c) n (fields_of c) span.first span.last (tag_of mid)) (sym name)
            (subst (λ t. CanAsk (host_of c) (name_of c) (fields_of c) span.first span.last t) (sym tag) can)));
        response = s.response;
        answers = subst (λ m. IsAnswer w.catalogue m s.response) (text ∙ same) s.answers;
        shown = s.shows.text;
      }

  -- after an answer without a report: fewer exchanges are left
  fewer : (m : ℕ) (mid next : ClientState) (a : AnsweredRequest) (what : Delivered) (name : List ℕ) → IsReading q name c → published (name_of c) w.catalogue ≡ Some p → Asks w.catalogue (length w.sent) i (Some a) c mid → RequestsKeeping c (Some a.request.items) mid
      → DeliversKeeping mid a.answer.text.items what next → ClientAgrees next w.book → report_of next ≡ None → IsWithin p q (suc m) c → IsWithin p q m next
  fewer m mid next a what name reading has asks k d agrees none within =
      let f = p.file in
      let r = asks.requests in
      let among = in_book (name_of c) has in
      let mid_agrees : ClientAgrees mid w.book = k.goes.agrees w.book agrees_now in
      let brings : BringsOn p mid next what =
      let known = knows_of laws mid w.book p g.distinct mid_agrees among in
      laws.brings mid next p a.span a.answer.text.items what (laws.served mid p a.span a.answer.text.items (own mid a asks k has) known) known d in
      let tag : tag_of next ≡ Some p.tag = tag_is next (record { tag = p.tag; complete = length f }) brings.revision in
      let knows : Knows f next = knows_of laws next w.book p g.distinct agrees among tag in
      let query : query_of next ≡ Some q = d.seen.same.query ∙ r.goes.same.query ∙ reading.query in
      let work : IsAtWork f next = record { revision = ap is_some brings.revision; knows = knows; query = ap is_some query } in
      let more : 1 ≤ left f next = some_left (left f next) (λ e. (let stands = laws.delivery mid next a.answer.text.items what f d brings.used work e in
      false≢true (sym (ap is_some none) ∙ stands))) in
      let most : left f next ≤ cost f q = some_of (query_of next) q _ query (laws.cost next f knows) in
      inr (tag, few within tag more most, omega (arith, few within tag more most, more))
    where
      few : IsWithin p q (suc m) c → tag_of next ≡ Some p.tag → 1 ≤ left p.file next → left p.file next ≤ cost p.file q → left p.file next ≤ m
      few (inl low) tag more most = omega arith
      few (inr had) tag more most =
          let mid_tag : tag_of mid ≡ Some p.tag = ap (λ x. option_map (λ (v : Revision). v.tag) x) asks.requests.goes.revision ∙ had.0 in
          let among = in_book (name_of c) has in
          let knows = knows_of laws c w.book p g.distinct agrees_now among had.0 in
          let mid_agrees : ClientAgrees mid w.book = k.goes.agrees w.book agrees_now in
          let brings : BringsOn p mid next what =
          let known = knows_of laws mid w.book p g.distinct mid_agrees among in
          laws.brings mid next p a.span a.answer.text.items what (laws.served mid p a.span a.answer.text.items (own mid a asks k has) known) known d in
          omega (arith, had.1, brings.less mid_tag, laws.goes c mid p.file k.goes knows)

  -- what one exchange comes to: the report is told, or the query is still read
  abbrev Outcome : ℕ → ClientState → Option Report → Type 0
  Outcome m next report = IsSomeAnd report (λ r. r.query ≡ q) ⊎ IsReading q (name_of c) next × IsWithin p q m next

  exchanged : (m : ℕ) (n : Entry) (next : ClientState) → IsReading q (name_of c) c → published (name_of c) w.catalogue ≡ Some p → IsWithin p q (suc m) c
      → ExchangesWithKeeping w.catalogue (length w.sent) i n.effect c next → StandsTrue next → told_of n ≡ news c next → Outcome m next n.report
  exchanged m n next reading has within h stands_true tells = by (report_of next) refl
    where
      kept : IsKept c next w.book
      kept = exchanged_kept laws w cs i h.seen.0 n.effect c h.seen.1 next g h.seen.2 h.requests h.seen.3 h.delivers (g.agree i c at)

      agrees : ClientAgrees next w.book
      agrees = kept.agrees w.book (λ p j. j) g.distinct

      query : query_of next ≡ Some q
      query = ap (λ (s : Seen). s.query) kept.same ∙ reading.query

      silently : (o : Option AnsweredRequest) → Asks w.catalogue (length w.sent) i o c h.seen.1 → RequestsKeeping c (request_in o) h.seen.1 → IsExchanged i o n.effect h.seen.1 next → IsDeliveredKeeping o h.seen.1 next
          → report_of next ≡ None → IsWithin p q m next
      silently None asks k e d none =
          let r = asks.requests in
          let unasked = no_request c (asked_of h.seen.1) r.text in
          absurd (elim (r.silent unasked) [
            | inl no_query ↦ false≢true (sym (ap is_some no_query) ∙ ap is_some (r.goes.same.query ∙ reading.query))
            | inr stands ↦ false≢true (sym (ap is_some none) ∙ ap (λ (x : ClientState). is_some (report_of x)) e.1 ∙ stands)
          ])
      silently (Some a) asks k e d none = fewer m h.seen.1 next a d.0 (name_of c) reading has asks k d.1 agrees none within

      asked : (r : Report) → report_of next ≡ Some r → r.query ≡ q
      asked r stands =
          let true_now = some_of (report_of next) r (λ (t : Report). IsTrueReport t (name_of next) (query_of next) w.book) stands (stands_true w.book agrees) in
          same_Some _ _ (sym true_now.asked ∙ query)

      by : (o : Option Report) → report_of next ≡ o → Outcome m next n.report
      by None none = inr (record { query = query; name_is = ap (λ (s : Seen). s.name) kept.same; silent = none }, silently h.seen.0 h.seen.2 h.requests h.seen.3 h.delivers none)
      by (Some r) stands = inl (report_for n.report r q (told_now c next (told_of n) tells reading.silent ∙ ap (option_map told) stands) (asked r stands))

-- ---- a stretch

module _ (laws : LowerLaws) (i : ℕ) (q : Query) (p : Publication) where
  -- so many exchanges have a report
  reach : (m : ℕ) (name : List ℕ) (w : World) (cs : List ClientState) (c : ClientState) (n : ℕ) (later : List Event) (ns : List Entry) (new : List ClientState) → Good w cs → slice_get cs i ≡ Some c → IsReading q name c
      → published name w.catalogue ≡ Some p → IsWithin p q m c → m ≤ n → RunsKeeping w cs (replicate n (Exchange i) ++ later) ns new → HasReport i q (take m (replicate n (Exchange i) ++ later)) (take m ns)
  reach zero name w cs c n later ns new g at reading has within enough h = absurd (elim within [ inl low ↦ omega arith | inr had ↦ omega (arith, had.2) ])
  reach (suc m) name w cs c zero later ns new g at reading has within enough h = absurd (omega arith)
  reach (suc m) name w cs c (suc n) later [] new g at reading has within enough h = absurd h
  reach (suc m) name w cs c (suc n) later (x ∷ ns) new g at reading has within enough (mid, step, rest) =
      let R = Keeping (ExchangesWithKeeping w.catalogue (length w.sent) i x.effect) in
      let changes : Changes R i c x cs mid = subst (λ o. AtClient o R i x cs mid) at step in
      let own_name : name_of c ≡ name = reading.name_is in
      let mine : IsReading q (name_of c) c = record { query = reading.query; name_is = refl; silent = reading.silent } in
      let there : slice_get mid i ≡ Some changes.next = ap (λ (xs : List ClientState). slice_get xs i) changes.changed ∙ get-set_same cs i changes.next c at in
      elim (exchanged laws w cs i c g at p q m x changes.next mine (ap (λ n. published n w.catalogue) own_name ∙ has) within changes.does.does changes.does.stands changes.tells) [
        | inl told ↦ inl (refl, told)
        | inr on ↦
            let next : IsReading q name changes.next = record { query = on.0.query; name_is = on.0.name_is ∙ own_name; silent = on.0.silent } in
            inr (reach m name (after w (Exchange i) x.effect) mid changes.next n later ns new (sound_step laws w cs (Exchange i) x mid g step).good there next has on.1 (omega arith) rest)
      ]

  -- the client that is seen
  client_at : (cs : List ClientState) (s : Seen) (o : Option ClientState) → slice_get cs i ≡ o → option_map seen o ≡ Some s → (c : ClientState) × (slice_get cs i ≡ Some c) × (name_of c ≡ s.name)
  client_at cs s None at is = absurd (none-some s is)
  client_at cs s (Some c) at is = (c, at, ap (λ (x : Seen). x.name) (same_Some _ _ is))

  from_opening : (w : World) (cs : List ClientState) (n : ℕ) (later : List Event) (ns : List Entry) (new : List ClientState) (s : Seen) → Good w cs → slice_get w.clients i ≡ Some s → published s.name w.catalogue ≡ Some p
      → suc (cost p.file q) ≤ n → RunsKeeping w cs (stretch i q n ++ later) ns new → HasReport i q (take (suc (cost p.file q)) (drop 1 (stretch i q n ++ later))) (take (suc (cost p.file q)) (drop 1 ns))
  unfolding name_of query_of report_of
  from_opening w cs n later [] new s g there has enough h = absurd h
  from_opening w cs n later (x ∷ ns) new s g there has enough (mid, step, rest) =
      let found = client_at cs s (slice_get cs i) refl (sym (get-map seen cs i) ∙ ap (λ (ss : List Seen). slice_get ss i) g.seen_are ∙ there) in
      let c = found.0 in
      let at = found.1 in
      let R = Keeping (OpensWithKeeping q i x.effect) in
      let changes : Changes R i c x cs mid = subst (λ o. AtClient o R i x cs mid) at step in
      let opens = changes.does.does.opens.seen in
      let reading : IsReading q s.name changes.next = record { query = ap query_of opens.1; name_is = ap name_of opens.1 ∙ found.2; silent = ap report_of opens.1 } in
      let here : slice_get mid i ≡ Some changes.next = ap (λ (xs : List ClientState). slice_get xs i) changes.changed ∙ get-set_same cs i changes.next c at in
      reach (suc (cost p.file q)) s.name (after w (Open i q) x.effect) mid changes.next n later ns new (sound_step laws w cs (Open i q) x mid g step).good here reading has (inl (omega arith)) enough rest

  -- whatever was before it
  after_others : (w : World) (cs : List ClientState) (before later : List Event) (n : ℕ) (ns : List Entry) (new : List ClientState) (s : Seen) → Good w cs → slice_get (after_all w before ns).clients i ≡ Some s
      → published s.name (after_all w before ns).catalogue ≡ Some p → suc (cost p.file q) ≤ n → RunsKeeping w cs (before ++ stretch i q n ++ later) ns new
      → HasReport i q (take (suc (cost p.file q)) (drop (suc (length before)) (before ++ stretch i q n ++ later))) (take (suc (cost p.file q)) (drop (suc (length before)) ns))
  after_others w cs [] later n ns new s g there has enough h = from_opening w cs n later ns new s g there has enough h
  after_others w cs (e ∷ before) later n [] new s g there has enough h = absurd h
  after_others w cs (e ∷ before) later n (x ∷ ns) new s g there has enough (mid, step, rest) =
      after_others (after w e x.effect) mid before later n ns new s (sound_step laws w cs e x mid g step).good there has enough rest

pub reached : (laws : LowerLaws) (events : List Event) (entries : List Entry) (new : List ClientState) → RunsKeeping start [] events entries new → AllReport events entries
reached laws events entries new runs i q n before later s p are there has enough =
    let found = after_others laws i q p start [] before later n entries new s good_start there has enough (subst (λ es. RunsKeeping start [] es entries new) are runs) in
    subst (λ es. HasReport i q (take (suc (cost p.file q)) (drop (suc (length before)) es)) (take (suc (cost p.file q)) (drop (suc (length before)) entries))) (sym are) found

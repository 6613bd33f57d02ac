-- A run goes on by one event, and a whole run is a log.
use Rattle.tiff_dir.specs.declared.tags.TheConstants.{BITS_PER_SAMPLE, GEO_ASCII_PARAMS, GEO_DOUBLE_PARAMS, MODEL_PIXEL_SCALE, MODEL_TIEPOINT, MODEL_TRANSFORMATION, SAMPLES_PER_PIXEL}
use Rattle.std.proofs.Common.{◌≡◌, ℕ, zero, suc, List, [], ◌∷◌, ◌++◌, length, map, take, Option, Some, None, refl, sym, ap, ◌∙◌, subst, ◌<◌, ◌≤◌, ◌+◌, get_or, Result, Ok, Err}
use Rattle.std.specs.Prelude.{IfOk, IfSome, IsSomeAnd, OnOk, OnErr, if◌then◌else◌, is_some, option_and_then, slice_get}
use Rattle.std.specs.Option.{option_map, option_map_or}
use Rattle.std.proofs.Common.{Vec, Global}
use Rattle.std.proofs.lemmas.List.{take_more, take_all}
use Rattle.std.proofs.lemmas.Option.{none-some, same_Some}
use Rattle.extents.specs.declared.memory.Memory.{Memory}
use Rattle.tiff_dir.specs.declared.query.Query.{Query}
use Rattle.tiff_dir.specs.declared.query.Query.TheVariants as queries
use Rattle.tiff_dir.specs.Faulty.{IsFaulty}
use Rattle.tiff_dir.specs.Geo.{key_source}
use Rattle.tiff_dir.specs.Level.{level_value}
use Rattle.tiff_dir.specs.Query.{Rectangle, rectangle}
use Rattle.geokeys.specs.Keys.{AreKeys}
use Rattle.geokeys.specs.Same.{Content}
use Rattle.http_range.specs.Book.{Publication, Book, Catalogue, In, Includes, HasDistinctTags}
use Rattle.cog_reader.specs.declared.outcome.Info.{Info}
use Rattle.cog_reader.specs.declared.outcome.Outcome.{Outcome}
use Rattle.cog_reader.specs.declared.outcome.Outcome.TheVariants as outcomes
use Rattle.cog_reader.specs.declared.outcome.Window.{Window}
use Rattle.cog_reader.specs.GeoFields.{geo_bytes}
use Rattle.cog_reader.specs.Outcome.{IsInfoOf, IsTrueOf, IsWindowOf, items_of}
use Rattle.tile_plan.specs.Samples.{samples_in}
use Rattle.cog_server.specs.declared.error.PublishError.{PublishError}
use Rattle.cog_server.specs.declared.server.Answer.{Answer}
use Rattle.cog_server.specs.Server.{ServerState}
use Rattle.cog_client.specs.declared.report.Report.{Report}
use Rattle.cog_client.specs.Report.{IsTrueReport, Tells, Told, said_of, told}
use Rattle.cog_client.specs.Client.{ClientState, IsOfBook, report_of}
use Rattle.world.specs.declared.event.Event.{Event}
use Rattle.world.specs.declared.event.Event.TheVariants.{Publish, Epoch, NewClient, Open, Forget, Ask, AskFrom, Deliver, Exchange, Check}
use Rattle.world.specs.declared.event.AnsweredCheck.{AnsweredCheck}
use Rattle.world.specs.declared.event.Effect.{Effect}
use Rattle.world.specs.declared.event.Entry.{Entry}
use Rattle.world.specs.Progress.{IsNeededEntry}
use Rattle.world.specs.World.{World, Seen, start, answer_in, next_of, publish_by, after, after_all, client_of, AtEach, IsTrueAt, IsTrueEntry, IsToldIn, SayTheSame, shown, AreAlike, AreOfBook, IsHonestEntry, IsExactEntry}
use Rattle.world.specs.Run.{AtClient, DeliversWith, IsChecked, Step, Runs, IsTrueLog, cut_at, news, receiver, told_of}
use Rattle.world.specs.State.{refused_at, server_of, Answers, AreKept, Does, IsAtAfter, IsCheckBy, IsCheckedKeeping, IsDeliveryKeeping, IsState, Keeping, Publishes, RunsKeeping, StepKeeping, answer_at, noted}
use Rattle.world.specs.LowerLaws.{LowerLaws}
use Rattle.world.proofs.Good.{Good, good_start}
use Rattle.world.proofs.Truth.{grows, honest_step, sound_step}
use Rattle.world.proofs.Exact.{exact_step}
use Rattle.world.proofs.Needed.{AllHosted, hosted_start, hosted_step, needed_step}
use Rattle.world.proofs.Reached.{reached}
use Rattle.world.proofs.Lists.{set_there}
use Rattle.world.proofs.Kept.{kept_after, kept_at, kept_length}

pub runs_more : (w : World) (cs : List ClientState) (es : List Event) (ns : List Entry) (mid : List ClientState) (e : Event) (n : Entry) (new : List ClientState) → RunsKeeping w cs es ns mid → StepKeeping (after_all w es ns) mid e n new → RunsKeeping w cs (es ++ e ∷ []) (ns ++ n ∷ []) new
runs_more w cs [] [] mid e n new h s = (new, (let P : List ClientState → Type 0 = λ xs. StepKeeping w xs e n new in subst P h s), refl)
runs_more w cs [] (m ∷ ns) mid e n new h s = absurd h
runs_more w cs (d ∷ es) [] mid e n new h s = absurd h
runs_more w cs (d ∷ es) (m ∷ ns) mid e n new h s = (h.0, h.1, runs_more (after w d m.effect) h.0 es ns mid e n new h.2 s)

after_more : (w : World) (cs : List ClientState) (es : List Event) (ns : List Entry) (mid : List ClientState) (e : Event) (n : Entry) → RunsKeeping w cs es ns mid → after_all w (es ++ e ∷ []) (ns ++ n ∷ []) ≡ after (after_all w es ns) e n.effect
after_more w cs [] [] mid e n h = refl
after_more w cs [] (m ∷ ns) mid e n h = absurd h
after_more w cs (d ∷ es) [] mid e n h = absurd h
after_more w cs (d ∷ es) (m ∷ ns) mid e n h = after_more (after w d m.effect) h.0 es ns mid e n h.2

-- ---- what holds at each event of a run

pub each_run : (P : World → Event → Entry → Type 0) (laws : LowerLaws)
    → ((w : World) (cs : List ClientState) (e : Event) (n : Entry) (new : List ClientState) → Good w cs → AllHosted cs → StepKeeping w cs e n new → P w e n)
    → (w : World) (cs : List ClientState) (es : List Event) (ns : List Entry) (new : List ClientState) → Good w cs → AllHosted cs → RunsKeeping w cs es ns new → AtEach P w es ns
each_run P laws each w cs [] [] new g hosts h = tt
each_run P laws each w cs [] (n ∷ ns) new g hosts h = h
each_run P laws each w cs (e ∷ es) [] new g hosts h = h
each_run P laws each w cs (e ∷ es) (n ∷ ns) new g hosts (mid, step, rest) =
    (each w cs e n mid g hosts step, each_run P laws each (after w e n.effect) mid es ns new (sound_step laws w cs e n mid g step).good (hosted_step w cs e n mid step hosts) rest)

pub good_run : (laws : LowerLaws) (w : World) (cs : List ClientState) (es : List Event) (ns : List Entry) (new : List ClientState) → Good w cs → RunsKeeping w cs es ns new → Good (after_all w es ns) new
good_run laws w cs [] [] new g h = subst (Good w) (sym h) g
good_run laws w cs [] (n ∷ ns) new g h = absurd h
good_run laws w cs (e ∷ es) [] new g h = absurd h
good_run laws w cs (e ∷ es) (n ∷ ns) new g (mid, step, rest) = good_run laws (after w e n.effect) mid es ns new (sound_step laws w cs e n mid g step).good rest

whole_run : (w : World) (cs : List ClientState) (es : List Event) (ns : List Entry) (new : List ClientState) → RunsKeeping w cs es ns new → length ns ≡ length es
whole_run w cs [] [] new h = refl
whole_run w cs [] (n ∷ ns) new h = absurd h
whole_run w cs (e ∷ es) [] new h = absurd h
whole_run w cs (e ∷ es) (n ∷ ns) new (mid, step, rest) = ap suc (whole_run (after w e n.effect) mid es ns new rest)

-- ---- reports of one tag and one query

grows_all : (w : World) (es : List Event) (ns : List Entry) → Includes (after_all w es ns).book w.book
grows_all w [] ns = λ q i. i
grows_all w (e ∷ es) [] = λ q i. i
grows_all w (e ∷ es) (n ∷ ns) = λ q i. grows_all (after w e n.effect) es ns q (grows w e q i)

-- where a report comes from
record IsSource (r : Report) (book : Book) : Type 0 where
  source : Publication
  published : In source book
  of_tag : source.tag ≡ r.tag
  holds : IsTrueOf source.file r.query r.outcome

source_at : (o : Option Report) (w : World) (client : Option ℕ) (later : Book) (r : Report) → Includes later w.book → IfSome o (IsTrueAt w client) → o ≡ Some r → IsSource r later
source_at None w client later r inc h e = absurd (none-some r e)
source_at (Some s) w client later r inc h e = subst (λ t. IsSource t later) (same_Some _ _ e) (told (option_and_then (slice_get w.clients) client) h) where
  told : (o : Option Seen) → IsSomeAnd o (λ x. IsTrueReport s x.name x.query w.book) → IsSource s later
  told None h = absurd h
  told (Some x) h = record { source = h.source; published = inc h.source h.published; of_tag = h.of_tag; holds = h.holds }

source_of : (w : World) (es : List Event) (ns : List Entry) (r : Report) (i : ℕ) → AtEach IsTrueEntry w es ns → IsSomeAnd (slice_get ns i) (λ n. n.report ≡ Some r) → IsSource r (after_all w es ns).book
source_of w [] [] r i t is = absurd is
source_of w [] (n ∷ ns) r i t is = absurd t
source_of w (e ∷ es) [] r i t is = absurd t
source_of w (e ∷ es) (n ∷ ns) r zero t is =
    let v = after w e n.effect in
    source_at n.report v (client_of e) (after_all v es ns).book r (grows_all v es ns) t.0 is
source_of w (e ∷ es) (n ∷ ns) r (suc i) t is = source_of (after w e n.effect) es ns r i t.1 is

-- lists of sides are equal where each side is
sides_same : (xs ys : List (ℕ × ℕ)) → map Some xs ≡ map Some ys → xs ≡ ys
sides_same [] [] e = refl
sides_same [] (y ∷ ys) e = absurd (cc)
sides_same (x ∷ xs) [] e = absurd (cc)
sides_same (x ∷ xs) (y ∷ ys) e =
    let head : Some x ≡ Some y = cc in
    let tail : map Some xs ≡ map Some ys = cc in
    ap (λ z. z ∷ xs) (same_Some _ _ head) ∙ ap (λ zs. y ∷ zs) (sides_same xs ys tail)

tells_same : (sides sides' : List (ℕ × ℕ)) (minor minor' : ℕ) (keys keys' : List (ℕ × Content)) (s s' t t' x x' : Option (List (List ℕ)))
    → sides ≡ sides' → minor ≡ minor' → keys ≡ keys' → s ≡ s' → t ≡ t' → x ≡ x' → Tells sides minor keys s t x ≡ Tells sides' minor' keys' s' t' x'
tells_same sides sides' minor minor' keys keys' s s' t t' x x' a b c d e f =
    ap (λ v. Tells v minor keys s t x) a ∙ ap (λ v. Tells sides' v keys s t x) b ∙ ap (λ v. Tells sides' minor' v s t x) c
    ∙ ap (λ v. Tells sides' minor' keys' v t x) d ∙ ap (λ v. Tells sides' minor' keys' s' v x) e ∙ ap (λ v. Tells sides' minor' keys' s' t' v) f

-- what two answers to Info tell of one file is the same
same_info : (laws : LowerLaws) (f : List ℕ) (i j : Info) → IsInfoOf f i → IsInfoOf f j → said_of (outcomes.Info i) ≡ said_of (outcomes.Info j)
same_info laws f i j a b =
    let order : b.order ≡ a.order = same_Some _ _ (sym b.order_is ∙ a.order_is) in
    let keys = laws.geo (key_source f) a.order (geo_bytes f GEO_DOUBLE_PARAMS) (geo_bytes f GEO_ASCII_PARAMS) i.geo j.geo a.keys
    (subst (λ o. AreKeys (key_source f) o (geo_bytes f GEO_DOUBLE_PARAMS) (geo_bytes f GEO_ASCII_PARAMS) j.geo) order b.keys) in
    tells_same _ _ _ _ _ _ _ _ _ _ _ _ (sides_same i.sides.items j.sides.items (a.sides_are ∙ sym b.sides_are)) keys.0 keys.1
    (a.scale ∙ sym (b.scale ∙ ap (λ o. items_of o f MODEL_PIXEL_SCALE) order))
    (a.tiepoints ∙ sym (b.tiepoints ∙ ap (λ o. items_of o f MODEL_TIEPOINT) order))
    (a.transformation ∙ sym (b.transformation ∙ ap (λ o. items_of o f MODEL_TRANSFORMATION) order))

abbrev tuple_of : ℕ → ℕ → ℕ → ℕ → List ℕ → ℕ × ℕ × ℕ × ℕ × List ℕ
tuple_of w h s b v = (w, h, s, b, v)

shown_same : (w w' h h' s s' b b' : ℕ) (v v' : List ℕ) → w ≡ w' → h ≡ h' → s ≡ s' → b ≡ b' → v ≡ v' → tuple_of w h s b v ≡ tuple_of w' h' s' b' v'
shown_same w w' h h' s s' b b' v v' c d e f g =
    ap (λ x. tuple_of x h s b v) c ∙ ap (λ x. tuple_of w' x s b v) d ∙ ap (λ x. tuple_of w' h' x b v) e ∙ ap (λ x. tuple_of w' h' s' x v) f ∙ ap (λ x. tuple_of w' h' s' b' x) g

-- two windows of one file for one query are equal
same_windows : (laws : LowerLaws) (f : List ℕ) (q : Query) (v u : Window) → IsWindowOf f q v → IsWindowOf f q u → shown v ≡ shown u
same_windows laws f q v u a b =
    let asked : a.asked ≡ b.asked = same_Some _ _ (sym a.asked_is ∙ b.asked_is) in
    let level : a.asked.level ≡ b.asked.level = ap (λ (r : Rectangle). r.level) asked in
    shown_same v.w u.w v.h u.h v.samples u.samples v.bits u.bits (samples_in v.bits v.pixels.items) (samples_in u.bits u.pixels.items)
    (a.width ∙ ap (λ (r : Rectangle). r.width) asked ∙ sym b.width)
    (a.height ∙ ap (λ (r : Rectangle). r.height) asked ∙ sym b.height)
    (same_Some _ _ (sym a.samples ∙ ap (λ n. level_value f n SAMPLES_PER_PIXEL 0) level ∙ b.samples))
    (same_Some _ _ (sym a.bits ∙ ap (λ n. level_value f n BITS_PER_SAMPLE 0) level ∙ b.bits))
    (laws.window f q (samples_in v.bits v.pixels.items) (samples_in u.bits u.pixels.items) a.window b.window)

-- Info asks for no window
no_window : (f : List ℕ) (q : Query) (v : Window) → q ≡ queries.Info → IsWindowOf f q v → ⊥
unfolding rectangle
no_window f q v is a =
    let asked : rectangle f queries.Info ≡ Some a.asked = ap (rectangle f) (sym is) ∙ a.asked_is in
    none-some a.asked asked

same_outcome : (laws : LowerLaws) (f : List ℕ) (q : Query) (x y : Outcome) → IsTrueOf f q x → IsTrueOf f q y → SayTheSame x y
same_outcome laws f q (outcomes.Window v) (outcomes.Window u) x y = same_windows laws f q v u x y
same_outcome laws f q (outcomes.Window v) (outcomes.Info i) x y = absurd (no_window f q v y.0 x)
same_outcome laws f q (outcomes.Window v) (outcomes.Fault k) x y = absurd (x.window.0 k y)
same_outcome laws f q (outcomes.Info i) (outcomes.Window u) x y = absurd (no_window f q u x.0 y)
same_outcome laws f q (outcomes.Info i) (outcomes.Info j) x y = same_info laws f i j x.1 y.1
same_outcome laws f q (outcomes.Info i) (outcomes.Fault k) x y = absurd (x.1.sound k (subst (λ a. IsFaulty f a k) x.0 y))
same_outcome laws f q (outcomes.Fault k) (outcomes.Window u) x y = absurd (y.window.0 k x)
same_outcome laws f q (outcomes.Fault k) (outcomes.Info j) x y = absurd (y.1.sound k (subst (λ a. IsFaulty f a k) y.0 x))
same_outcome laws f q (outcomes.Fault k) (outcomes.Fault l) x y = tt

alike : (laws : LowerLaws) (book : Book) (ns : List Entry) → HasDistinctTags book → ((r : Report) → IsToldIn r ns → IsSource r book) → AreAlike ns
alike laws book ns distinct sources r s i j tag query =
    let a = sources r i in
    let b = sources s j in
    let same : a.source ≡ b.source = laws.fronts.one book distinct a.source b.source a.published b.published (a.of_tag ∙ (tag ∙ sym b.of_tag)) in
    let P : Publication → Type 0 = λ p. IsTrueOf p.file r.query r.outcome in
    let Q : Query → Type 0 = λ q. IsTrueOf b.source.file q r.outcome in
    same_outcome laws b.source.file s.query r.outcome s.outcome (subst Q query (subst P same a.holds)) b.holds

-- ---- what a caller sees of a run

at_seen : (o : Option ClientState) (R S : ClientState → ClientState → Type 0) → ((c next : ClientState) → R c next → S c next) → (i : ℕ) (n : Entry) (old new : List ClientState) → AtClient o (Keeping R) i n old new → AtClient o S i n old new
at_seen None R S each i n old new h = h
at_seen (Some c) R S each i n old new h = record { next = h.next; changed = h.changed; does = each c h.next h.does.does; tells = h.tells }

delivery_seen : (o : Option Answer) (client : Option ClientState) (cut : Option ℕ) (i : ℕ) (n : Entry) (old new : List ClientState) → IsDeliveryKeeping o client cut i n old new
    → AtClient (receiver o client) (DeliversWith (cut_at cut (option_map_or (λ (a : Answer). a.text.items) o [])) i n.effect) i n old new
delivery_seen None client cut i n old new h = h
delivery_seen (Some a) client cut i n old new h = at_seen (receiver (Some a) client) _ _ (λ c next d. d.seen) i n old new h

checked_seen : (catalogue : Catalogue) (sent i : ℕ) (c : ClientState) (o : Option AnsweredCheck) (effect : Effect) → IsCheckedKeeping catalogue sent i c o effect → IsChecked catalogue sent i c effect
checked_seen catalogue sent i c None effect h = subst (IsChecked catalogue sent i c) (sym h.0) (refl, h.1)
checked_seen catalogue sent i c (Some k) effect h = subst (IsChecked catalogue sent i c) (sym h.0) h.1.seen

-- what stands already is no news
quiet_news : (c : ClientState) (t : Option Told) → t ≡ None → t ≡ news c c
quiet_news c t none = by (report_of c) refl
  where
    by : (r : Option Report) → report_of c ≡ r → t ≡ news c c
    by None is = none ∙ sym (ap (λ (o : Option Report). if is_some o then None else option_map told o) is)
    by (Some r) is = none ∙ sym (ap (λ (o : Option Report). if is_some o then None else option_map told o) is)

check_seen : (o : Option ClientState) (catalogue : Catalogue) (sent i : ℕ) (n : Entry) (old new : List ClientState) → slice_get old i ≡ o → IsCheckBy o catalogue sent i n old new
    → AtClient o (λ c next. (next ≡ c) × IsChecked catalogue sent i c n.effect) i n old new
check_seen None catalogue sent i n old new at h = h
check_seen (Some c) catalogue sent i n old new at h =
    record { next = c; changed = h.2.same ∙ sym (set_there old i c at); does = (refl, checked_seen catalogue sent i c h.0 n.effect h.1); tells = quiet_news c (told_of n) h.2.report }

pub step_seen : (w : World) (cs : List ClientState) (e : Event) (n : Entry) (new : List ClientState) → StepKeeping w cs e n new → Step w cs e n new
step_seen w cs (Publish name file) n new h = h
step_seen w cs (Epoch e) n new h = h
step_seen w cs (NewClient name blocks) n new h = h
step_seen w cs (Open i q) n new h = at_seen (slice_get cs i) _ _ (λ c next d. (d.done, d.opens.seen)) i n cs new h
step_seen w cs (Forget i) n new h = at_seen (slice_get cs i) _ _ (λ c next d. (d.done, d.forgets)) i n cs new h
step_seen w cs (Ask message) n new h = (h.0.answer, h.0.answered, record { done = h.0.done; report = h.0.report; same = h.1 })
step_seen w cs (AskFrom i) n new h = at_seen (slice_get cs i) _ _ (λ c next d. d.seen) i n cs new h
step_seen w cs (Deliver i k cut) n new h = delivery_seen (slice_get w.sent k) (slice_get cs i) cut i n cs new h
step_seen w cs (Exchange i) n new h = at_seen (slice_get cs i) _ _ (λ c next d. d.seen) i n cs new h
step_seen w cs (Check i) n new h = check_seen (slice_get cs i) w.catalogue (length w.sent) i n cs new refl h

pub runs_seen : (w : World) (cs : List ClientState) (es : List Event) (ns : List Entry) (new : List ClientState) → RunsKeeping w cs es ns new → Runs w cs es ns new
runs_seen w cs [] [] new h = h
runs_seen w cs [] (n ∷ ns) new h = h
runs_seen w cs (e ∷ es) [] new h = h
runs_seen w cs (e ∷ es) (n ∷ ns) new (mid, step, rest) = (mid, step_seen w cs e n mid step, runs_seen (after w e n.effect) mid es ns new rest)

-- ---- the log

clients_truth : (laws : LowerLaws) (es : List Event) (ns : List Entry) (cs : List ClientState) → RunsKeeping start [] es ns cs → AreOfBook cs (after_all start es ns).book
clients_truth laws es ns cs runs i = by (slice_get cs i) refl
  where
    good : Good (after_all start es ns) cs
    good = good_run laws start [] es ns cs good_start runs

    by : (o : Option ClientState) → slice_get cs i ≡ o → IfSome o (λ c. IsOfBook c (after_all start es ns).book)
    by None at = tt
    by (Some c) at = laws.seen c (after_all start es ns).book (good.agree i c at (after_all start es ns).book (λ p j. j) good.distinct)

pub run_truth : (laws : LowerLaws) (es : List Event) (ns : List Entry) (cs : List ClientState) → RunsKeeping start [] es ns cs → IsTrueLog es ns cs
run_truth laws es ns cs runs =
    let good = good_run laws start [] es ns cs good_start runs in
    let reports = each_run IsTrueEntry laws (λ w cs e n new g hosts step. (sound_step laws w cs e n new g step).told) start [] es ns cs good_start hosted_start runs in
    record {
      whole = whole_run start [] es ns cs runs;
      true_reports = reports;
      alike = alike laws (after_all start es ns).book ns good.distinct (λ r i. source_of start es ns r i.0 reports i.1);
      needed = each_run IsNeededEntry laws (needed_step laws) start [] es ns cs good_start hosted_start runs;
      progress = reached laws es ns cs runs;
      checked = each_run IsExactEntry laws (λ w cs e n new g hosts step. exact_step laws w cs e n new g step) start [] es ns cs good_start hosted_start runs;
      distinct = good.distinct;
      honest = each_run IsHonestEntry laws (λ w cs e n new g hosts step. honest_step laws w cs e n new g step) start [] es ns cs good_start hosted_start runs;
      clients = clients_truth laws es ns cs runs;
    }

pub whole : (events : List Event) (i : ℕ) (ns : List Entry) (cs : List ClientState) → length events ≤ i → RunsKeeping start [] (take i events) ns cs → RunsKeeping start [] events ns cs
whole events i ns cs le runs = subst (λ xs. RunsKeeping start [] xs ns cs) (take_all i events le) runs

pub whole_truth : (laws : LowerLaws) (events : List Event) (i : ℕ) (ns : List Entry) (cs : List ClientState) → length events ≤ i → RunsKeeping start [] (take i events) ns cs → IsTrueLog events ns cs
whole_truth laws events i ns cs le runs = run_truth laws events ns cs (whole events i ns cs le runs)

pub on_err_of : {T E : Type 0} (r : Result T E) (P : Type 0) → P → OnErr r P
on_err_of (Ok x) P p = tt
on_err_of (Err e) P p = p

pub then_ok_of : {T E : Type 0} {P Q : Type 0} (r : Result T E) → (P → Q) → OnOk r P → OnOk r Q
then_ok_of (Ok x) f p = f p
then_ok_of (Err e) f p = tt

pub then_err_of : {T E : Type 0} {P Q : Type 0} (r : Result T E) → (P → Q) → OnErr r P → OnErr r Q
then_err_of (Ok x) f p = tt
then_err_of (Err e) f p = f p

pub begun : (entries : List Entry) (clients : List ClientState) (server : ServerState) (places : List ℕ) → entries ≡ [] → clients ≡ [] → server ≡ server_of start → places ≡ []
    → RunsKeeping start [] [] entries clients × IsState (after_all start [] entries) server entries places
begun entries clients server places none no_clients at no_places =
    let P : List Entry → Type 0 = λ ns. RunsKeeping start [] [] ns clients in
    let Q : List ℕ → Type 0 = λ ps. AreKept entries ps [] in
    (subst P (sym none) no_clients, record { server_at = at; kept = subst Q (sym no_places) tt })

-- the same state, where entries and places are lent
pub state_at : (w : World) (server : ServerState) (entries lent : List Entry) (places lent_places : List ℕ) → lent ≡ entries → lent_places ≡ places → IsState w server entries places → IsState w server lent lent_places
state_at w server entries lent places lent_places same same_places h =
    let P : List Entry → Type 0 = λ ns. IsState w server ns lent_places in
    let Q : List ℕ → Type 0 = λ ps. IsState w server entries ps in
    subst P (sym same) (subst Q (sym same_places) h)

-- a run with one more event
pub more : (events : List Event) (i : ℕ) (ns : List Entry) (cs new : List ClientState) (e : Event) (n : Entry) (entries : List Entry) (old server : ServerState) (ps places : List ℕ) → i < length events → e ≡ get_or events i e → entries ≡ ns ++ n ∷ []
    → places ≡ noted (answer_in n.effect) (length ns) ps → RunsKeeping start [] (take i events) ns cs → IsState (after_all start (take i events) ns) old ns ps → Does (after_all start (take i events) ns) cs e n new server
    → RunsKeeping start [] (take (i + 1) events) entries new × IsState (after_all start (take (i + 1) events) entries) server entries places
more events i ns cs new e n entries old server ps places inside is added_one noted_one runs state does =
    let es : take (i + 1) events ≡ take i events ++ e ∷ [] = take_more events i e inside ∙ ap (λ (x : Event). take i events ++ x ∷ []) (sym is) in
    let w = after_all start (take i events) ns in
    let P : List Event → Type 0 = λ xs. RunsKeeping start [] xs (ns ++ n ∷ []) new in
    let P' : List Entry → Type 0 = λ ms. RunsKeeping start [] (take (i + 1) events) ms new in
    let same : after_all start (take (i + 1) events) entries ≡ after w e n.effect =
    ap (λ (ms : List Entry). after_all start (take (i + 1) events) ms) added_one
    ∙ (ap (λ (xs : List Event). after_all start xs (ns ++ n ∷ [])) es ∙ after_more start [] (take i events) ns cs e n runs) in
    let K : List ℕ → Type 0 = λ qs. AreKept (ns ++ n ∷ []) qs (after w e n.effect).sent in
    let Q : World → Type 0 = λ v. IsState v server (ns ++ n ∷ []) places in
    let Q' : List Entry → Type 0 = λ ms. IsState (after_all start (take (i + 1) events) entries) server ms places in
    let kept = subst K (sym noted_one) (kept_after ns n ps w.sent state.kept) in
    let state' : IsState (after w e n.effect) server (ns ++ n ∷ []) places = record { server_at = does.server_at; kept = kept } in
    (subst P' (sym added_one) (subst P (sym es) (runs_more start [] (take i events) ns cs e n new runs does.step)), subst Q' (sym added_one) (subst Q (sym same) state'))

-- ---- the code's steps

-- what a step of the code does, where its state is the world's
abbrev pub DoesIn : ServerState → List Entry → List ℕ → List ClientState → Event → Entry → List ClientState → ServerState → Type 0
DoesIn server entries places cs e n new after = (w : World) → IsState w server entries places → Does w cs e n new after

published_at : (w : World) (p : Publication) (o : Option PublishError) (s : ServerState) → IsAtAfter o p (server_of w) s → s ≡ server_of (publish_by w p o)
published_at w p None s at = at
published_at w p (Some refusal) s at = at

does_publish : (w : World) (old new : ServerState) (cs : List ClientState) (name file : Vec ℕ Global) (n : Entry) → Publishes name.items file.items n old new → old ≡ server_of w → Does w cs (Publish name file) n cs new
does_publish w old new cs name file n h at =
    let P : ServerState → Type 0 = λ x. Publishes name.items file.items n x new in
    let here : Publishes name.items file.items n (server_of w) new = subst P at h in
    record {
      step = record { done = here.done; report = here.report; same = refl };
      server_at = published_at w (next_of w name.items file.items) (refused_at w name.items file.items) new here.server_at;
    }

pub ok_publish : (r : Result Entry Memory) (old new : ServerState) (entries : List Entry) (places : List ℕ) (cs : List ClientState) (event : Event) (name file : Vec ℕ Global) (name' file' : List ℕ) → event ≡ Publish name file → name' ≡ name.items → file' ≡ file.items
    → IfOk r (λ n. Publishes name' file' n old new) → IfOk r (λ n. DoesIn old entries places cs event n cs new)
ok_publish (Err e) old new entries places cs event name file name' file' is named filed h = tt
ok_publish (Ok n) old new entries places cs event name file name' file' is named filed h = λ w s.
    let P : Event → Type 0 = λ x. Does w cs x n cs new in
    let Q : List ℕ → Type 0 = λ x. Publishes x file' n old new in
    let R : List ℕ → Type 0 = λ x. Publishes name.items x n old new in
    subst P (sym is) (does_publish w old new cs name file n (subst R filed (subst Q named h)) s.server_at)

-- an event that leaves the server, and needs of the state the catalogue and how many answers were sent
at_server : (R : Catalogue → ℕ → Type 0) (w : World) (server : ServerState) (entries : List Entry) (places : List ℕ) → IsState w server entries places → R server.catalogue (length places) → R w.catalogue (length w.sent)
at_server R w server entries places s h =
    let P : ServerState → Type 0 = λ x. R x.catalogue (length places) in
    let Q : ℕ → Type 0 = λ k. R w.catalogue k in
    subst Q (kept_length entries places w.sent s.kept) (subst P s.server_at h)

pub ok_ask : (r : Result Entry Memory) (server : ServerState) (entries : List Entry) (places : List ℕ) (number : ℕ) (cs : List ClientState) (event : Event) (message : Vec ℕ Global) (message' : List ℕ)
    → event ≡ Ask message → message' ≡ message.items → number ≡ length places → IfOk r (λ n. Answers server.catalogue number message' n)
    → IfOk r (λ n. DoesIn server entries places cs event n cs server)
ok_ask (Err e) server entries places number cs event message message' is named count h = tt
ok_ask (Ok n) server entries places number cs event message message' is named count h = λ w s.
    let P : Event → Type 0 = λ x. Does w cs x n cs server in
    let Q : List ℕ → Type 0 = λ x. Answers server.catalogue number x n in
    let C : ℕ → Type 0 = λ k. Answers server.catalogue k message.items n in
    let R : Catalogue → ℕ → Type 0 = λ catalogue k. Answers catalogue k message.items n in
    subst P (sym is) (record { step = (at_server R w server entries places s (subst C count (subst Q named h)), refl); server_at = s.server_at })

-- a call of client i that the server answers
pub ok_call : (F : ℕ → Event) (R : Catalogue → ℕ → ℕ → Entry → List ClientState → List ClientState → Type 0) (steps : (w : World) (i : ℕ) (n : Entry) (cs new : List ClientState) → R w.catalogue (length w.sent) i n cs new → StepKeeping w cs (F i) n new × (server_of (after w (F i) n.effect) ≡ server_of w))
    → (r : Result Entry Memory) (server : ServerState) (entries : List Entry) (places : List ℕ) (number : ℕ) (cs new : List ClientState) (event : Event) (i i' : ℕ) → event ≡ F i → i' ≡ i → number ≡ length places
    → IfOk r (λ n. R server.catalogue number i' n cs new) → IfOk r (λ n. DoesIn server entries places cs event n new server)
ok_call F R steps (Err e) server entries places number cs new event i i' is same count h = tt
ok_call F R steps (Ok n) server entries places number cs new event i i' is same count h = λ w s.
    let P : Event → Type 0 = λ x. Does w cs x n new server in
    let Q : ℕ → Type 0 = λ x. R server.catalogue number x n cs new in
    let C : ℕ → Type 0 = λ k. R server.catalogue k i n cs new in
    let here = at_server (λ catalogue k. R catalogue k i n cs new) w server entries places s (subst C count (subst Q same h)) in
    let t = steps w i n cs new here in
    subst P (sym is) (record { step = t.0; server_at = s.server_at ∙ sym t.1 })

pub ok_deliver : (r : Result Entry Memory) (server : ServerState) (entries : List Entry) (places : List ℕ) (cs new : List ClientState) (event : Event) (i k : ℕ) (cut : Option ℕ) (answer : Option Answer) → event ≡ Deliver i k cut
    → answer ≡ option_and_then (answer_at entries) (slice_get places k) → IfOk r (λ n. IsDeliveryKeeping answer (slice_get cs i) cut i n cs new) → IfOk r (λ n. DoesIn server entries places cs event n new server)
ok_deliver (Err e) server entries places cs new event i k cut answer is found h = tt
ok_deliver (Ok n) server entries places cs new event i k cut answer is found h = λ w s.
    let P : Event → Type 0 = λ x. Does w cs x n new server in
    let Q : Option Answer → Type 0 = λ a. IsDeliveryKeeping a (slice_get cs i) cut i n cs new in
    subst P (sym is) (record { step = subst Q (found ∙ kept_at entries places w.sent k s.kept) h; server_at = s.server_at })

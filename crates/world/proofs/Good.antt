-- The world's invariant, and that publications, restarts and clients keep it.
use Rattle.std.proofs.Common.{◌≡◌, ◌≢◌, ℕ, get_or, suc, zero, List, [], ◌∷◌, ◌++◌, length, map, Option, Some, None, Bool, true, false, refl, sym, ap, ◌∙◌, subst, arith, ◌⊎◌, inl, inr, ◌<◌, ◌≤◌, ◌+◌, ◌^◌, append-nil}
use Rattle.std.specs.Prelude.{slice_get, slice_set, IfSome, nat_lt, not, ◌==◌, if◌then◌else◌}
use Rattle.std.specs.Option.{option_map, option_to_list}
use Rattle.std.specs.Str.{bytes_eq}
use Rattle.std.proofs.lemmas.Bool.{cases_Bool}
use Rattle.std.proofs.lemmas.Bool.Decides.{nat_tests}
use Rattle.std.proofs.lemmas.List.Kept.{AllPairs-cons}
use Rattle.std.proofs.lemmas.Option.{none-some, same_Some}
use Rattle.std.proofs.lemmas.Slice.Eq.{bytes_eq-Decides}
use Rattle.tiff_dir.specs.declared.query.Query.{Query}
use Rattle.http_range.specs.declared.publication.TheConstants.{FILE_LIMIT}
use Rattle.http_range.specs.Names.{is_name}
use Rattle.http_range.specs.Book.{Publication, IsPublication, Book, In, Includes, HasDistinctTags, Catalogue, IsCatalogue, published, Covers, publish, publication_tag}
use Rattle.cog_server.specs.declared.error.PublishError.{PublishError}
use Rattle.cog_server.specs.declared.server.Answer.{Answer}
use Rattle.cog_server.specs.Server.{refusal_of}
use Rattle.cog_client.specs.declared.error.ClientError.{ClientError}
use Rattle.cog_client.specs.Client.{ClientState, ClientAgrees, KnowsOne, client_refusal, name_of, query_of, revision_of}
use Rattle.world.specs.declared.event.Event.{Event}
use Rattle.world.specs.declared.event.Event.TheVariants.{Publish, Epoch, NewClient, Open, Forget, Ask, AskFrom, Deliver, Exchange, Check}
use Rattle.world.specs.declared.event.Effect.{Effect}
use Rattle.world.specs.State.{refused_at}
use Rattle.world.specs.World.{World, Seen, start, answer_in, next_of, publish_by, made_by, scheduled, after, host, opened, StaysHonest}
use Rattle.world.specs.Run.{seen}
use Rattle.world.specs.LowerLaws.{LowerLaws}
use Rattle.world.proofs.Lists.{get-map, get-set, get-push, map-set, set_there}

abbrev pub AgreesLater : ClientState → Book → Type 0
AgreesLater c book = (later : Book) → Includes later book → HasDistinctTags later → ClientAgrees c later

abbrev pub AllAgree : List ClientState → Book → Type 0
AllAgree cs book = (i : ℕ) (c : ClientState) → slice_get cs i ≡ Some c → AgreesLater c book

-- the publication's tag is of an earlier epoch, or of this one with a number that is used
pub record IsOlder (w : World) (p : Publication) : Type 0 where
  pub epoch : ℕ
  pub number : ℕ
  pub epoch_small : epoch < 2 ^ 32
  pub number_small : number < 2 ^ 32
  pub tag : p.tag ≡ publication_tag epoch number
  pub used : (epoch < w.epoch) ⊎ ((epoch ≡ w.epoch) × (number ≤ w.count))

-- it is so in another world, where the number is used there
older_in : (w later : World) (p : Publication) (old : IsOlder w p)
    → ((old.epoch < later.epoch) ⊎ ((old.epoch ≡ later.epoch) × (old.number ≤ later.count))) → IsOlder later p
older_in w later p old used = record {
  epoch = old.epoch;
  number = old.number;
  epoch_small = old.epoch_small;
  number_small = old.number_small;
  tag = old.tag;
  used = used;
}

-- each answer that was sent is honest
abbrev pub SentHonest : List Answer → Book → Type 0
SentHonest sent book = (k : ℕ) (a : Answer) → slice_get sent k ≡ Some a → StaysHonest a book

pub record Good (w : World) (cs : List ClientState) : Type 0 where
  pub epoch_small : w.epoch < 2 ^ 32
  pub count_small : w.count < 2 ^ 32
  pub older : (p : Publication) → In p w.book → IsOlder w p
  pub distinct : HasDistinctTags w.book
  pub lawful : IsCatalogue w.catalogue
  pub covers : Covers w.book w.catalogue
  pub seen_are : map seen cs ≡ w.clients
  pub agree : AllAgree cs w.book
  pub honest : SentHonest w.sent w.book

pub good_start : Good start []
good_start = record {
  epoch_small = omega arith;
  count_small = omega arith;
  older = λ p i. absurd i;
  distinct = λ i j d before inside. absurd (omega arith);
  lawful = tt;
  covers = λ name p e. absurd (none-some p e);
  seen_are = refl;
  agree = λ i c e. absurd (none-some c e);
  honest = λ k a e. absurd (none-some a e);
}

-- ---- publications

-- what stands at a place of a book is in it
in_at : (book : Book) (k : ℕ) (d : Publication) → k < length book → In (get_or book k d) book
in_at [] k d inside = absurd (omega arith)
in_at (p ∷ book) zero d inside = inl refl
in_at (p ∷ book) (suc k) d inside = inr (in_at book k d (omega arith))

-- what is accepted is lawful
record IsAccepted (count : ℕ) (name file : List ℕ) : Type 0 where
  named : is_name name ≡ true
  some : 1 ≤ length file
  small : length file ≤ FILE_LIMIT
  room : (count == 4294967295) ≡ false

passed : {A : Type 0} (b : Bool) (x : A) (r : Option A) → (if b then Some x else r) ≡ None → (b ≡ false) × (r ≡ None)
passed true x r e = absurd (none-some x (sym e))
passed false x r e = (refl, e)

not_false : (b : Bool) → not b ≡ false → b ≡ true
not_false true e = refl
not_false false e = sym e

accepted : (count : ℕ) (catalogue : Catalogue) (name file : List ℕ) → refusal_of count catalogue name file ≡ None
    → IsAccepted count name file
accepted count catalogue name file e =
    let a = passed _ _ _ e in
    let b = passed _ _ _ a.1 in
    let c = passed _ _ _ b.1 in
    let d = passed _ _ _ c.1 in
    let x = passed _ _ _ d.1 in
    let some : (length file == 0) ≡ false = b.0 in
    let small : nat_lt FILE_LIMIT (length file) ≡ false = c.0 in
    record { named = not_false (is_name name) a.0; some = grind (arith, nat_tests); small = grind (arith, nat_tests); room = x.0 }

module _ (laws : LowerLaws) where
  -- no publication has the next tag
  unused : (w : World) (cs : List ClientState) (q : Publication) → Good w cs → w.count + 1 < 2 ^ 32 → In q w.book → q.tag ≡ publication_tag w.epoch (w.count + 1) → ⊥
  unused w cs q g room i e =
      let old = g.older q i in
      let small = g.epoch_small in
      let same = laws.apart old.epoch old.number w.epoch (w.count + 1) (omega (arith, old.epoch_small)) (omega (arith, old.number_small)) (omega arith) (omega arith) (sym old.tag ∙ e) in
      elim old.used [ inl h ↦ omega (arith, same.0) | inr h ↦ omega (arith, same.0, same.1, h.0, h.1) ]

  -- a name has what was published last
  covers_next : (book : Book) (catalogue : Catalogue) (p : Publication) → Covers book catalogue → Covers (p ∷ book) (publish p catalogue)
  covers_next book catalogue p covers name q found =
      elim (cases_Bool (bytes_eq name p.name)) [
        | inl same ↦
            (let e : name ≡ p.name = (bytes_eq-Decides name p.name).0 same in
            let here : published name (publish p catalogue) ≡ Some p = ap (λ (n : List ℕ). published n (publish p catalogue)) e ∙ laws.replaces.stands p catalogue in
            inl (same_Some _ _ (sym found ∙ here)))
        | inr other ↦
            (let differ : name ≡ p.name → ⊥ = λ e. (let wrong : bytes_eq name p.name ≡ true = (bytes_eq-Decides name p.name).1 e in cc) in
            inr (covers name q (sym (laws.replaces.others p catalogue name differ) ∙ found)))
      ]

  good_accepted : (w : World) (cs : List ClientState) (name file : List ℕ) → refused_at w name file ≡ None → Good w cs → Good (publish_by w (next_of w name file) None) cs
  good_accepted w cs name file none g =
      let p = next_of w name file in
      let ok = accepted w.count w.catalogue name file none in
      let full : (w.count == 4294967295) ≡ false = ok.room in
      let small = g.count_small in
      let epoch = g.epoch_small in
      let room : w.count + 1 < 2 ^ 32 = grind (arith, nat_tests) in
      let lawful : IsPublication p = record {
        named = ok.named;
        tagged = laws.kept w.epoch (w.count + 1) (omega arith) (omega arith);
        some = ok.some;
        small = ok.small;
      } in
      record {
        epoch_small = epoch;
        count_small = room;
        older = λ q i. elim i [
          | inl e ↦ record { epoch = w.epoch; number = w.count + 1; epoch_small = epoch; number_small = room; tag = ap (λ (x : Publication). x.tag) e; used = inr (refl, omega arith) }
          | inr j ↦ older_in w _ q (g.older q j) (elim (g.older q j).used [ inl h ↦ inl h | inr h ↦ inr (h.0, omega (arith, h.1)) ])
        ];
        distinct =
            AllPairs-cons (λ q r. q.tag ≢ r.tag) p w.book
            (λ k d inside e. unused w cs (get_or w.book k d) g room (in_at w.book k d inside) (sym e)) g.distinct;
        lawful = laws.replaces.lawful p w.catalogue lawful g.lawful;
        covers = covers_next w.book w.catalogue p g.covers;
        seen_are = g.seen_are;
        agree = λ i c e later inc d. g.agree i c e later (λ q j. inc q (inr j)) d;
        honest = λ k a e for later named inc. g.honest k a e for later named (λ q j. inc q (inr j));
      }

  pub good_publish : (w : World) (cs : List ClientState) (name file : List ℕ) (o : Option PublishError) → refused_at w name file ≡ o → Good w cs → Good (publish_by w (next_of w name file) o) cs
  good_publish w cs name file (Some refusal) e g = g
  good_publish w cs name file None e g = good_accepted w cs name file e g

-- the world of a restart, or the same
abbrev pub restart_by : World → ℕ → Bool → World
restart_by w e greater = if greater then record w { epoch = e; count = 0; catalogue = [] } else w

pub good_epoch : (b : Bool) (w : World) (cs : List ClientState) (e : ℕ) → nat_lt w.epoch e ≡ b → e < 2 ^ 32 → Good w cs → Good (restart_by w e b) cs
good_epoch false w cs e t small g = g
good_epoch true w cs e t small g =
    let greater : w.epoch < e = grind (arith, nat_tests) in
    record {
      epoch_small = small;
      count_small = omega arith;
      older = λ p i. older_in w _ p (g.older p i) (inl (elim (g.older p i).used [ inl h ↦ omega (arith, h) | inr h ↦ omega (arith, h.0) ]));
      distinct = g.distinct;
      lawful = tt;
      covers = λ name p found. absurd (none-some p found);
      seen_are = g.seen_are;
      agree = g.agree;
      honest = g.honest;
    }

-- ---- clients

pub good_clients : (w : World) (cs new : List ClientState) (clients : List Seen) → Good w cs → map seen new ≡ clients → AllAgree new w.book → Good (record w { clients = clients }) new
good_clients w cs new clients g same agree =
    record {
      epoch_small = g.epoch_small;
      count_small = g.count_small;
      older = λ p i. older_in w _ p (g.older p i) (g.older p i).used;
      distinct = g.distinct;
      lawful = g.lawful;
      covers = g.covers;
      seen_are = same;
      agree = agree;
      honest = g.honest;
    }

-- ---- answers

-- one more answer, if any, that is honest in every later book
honest_added : (o : Option Answer) (sent : List Answer) (book : Book) → SentHonest sent book → IfSome o (λ a. StaysHonest a book) → SentHonest (sent ++ option_to_list o) book
honest_added None sent book all new = subst (λ xs. SentHonest xs book) (sym (append-nil sent)) all
honest_added (Some b) sent book all new = λ k a e. elim (get-push sent k b a e) [
  | inl is ↦ (let P : Answer → Type 0 = λ x. StaysHonest x book in subst P (sym is) new)
  | inr old ↦ all k a old
]

-- what an event makes of the world leaves the answers
published_sent : (w : World) (p : Publication) (o : Option PublishError) → (publish_by w p o).sent ≡ w.sent
published_sent w p None = refl
published_sent w p (Some refusal) = refl

restarted_sent : (b : Bool) (w : World) (e : ℕ) → (restart_by w e b).sent ≡ w.sent
restarted_sent true w e = refl
restarted_sent false w e = refl

made_sent : (o : Option ClientError) (w : World) (name : List ℕ) → (made_by w name o).sent ≡ w.sent
made_sent None w name = refl
made_sent (Some refusal) w name = refl

sent_stays : (w : World) (e : Event) → (scheduled w e).sent ≡ w.sent
sent_stays w (Publish name file) = published_sent w (next_of w name.items file.items) (refused_at w name.items file.items)
sent_stays w (Epoch e) = restarted_sent (nat_lt w.epoch e) w e
sent_stays w (NewClient name blocks) = made_sent (client_refusal host name.items blocks) w name.items
sent_stays w (Open i q) = refl
sent_stays w (Forget i) = refl
sent_stays w (Ask message) = refl
sent_stays w (AskFrom i) = refl
sent_stays w (Deliver i a cut) = refl
sent_stays w (Exchange i) = refl
sent_stays w (Check i) = refl

-- an event, and the answer that it sends, if any
pub good_after : (w : World) (cs : List ClientState) (e : Event) (effect : Effect) → Good (scheduled w e) cs → IfSome (answer_in effect) (λ a. StaysHonest a (scheduled w e).book) → Good (after w e effect) cs
good_after w cs e effect g new =
    record {
      epoch_small = g.epoch_small;
      count_small = g.count_small;
      older = λ p i. older_in (scheduled w e) _ p (g.older p i) (g.older p i).used;
      distinct = g.distinct;
      lawful = g.lawful;
      covers = g.covers;
      seen_are = g.seen_are;
      agree = g.agree;
      honest = honest_added (answer_in effect) w.sent (scheduled w e).book (subst (λ xs. SentHonest xs (scheduled w e).book) (sent_stays w e) g.honest) new;
    }

-- a client without a revision agrees with every book
pub nothing_agrees : (c : ClientState) → revision_of c ≡ None → (book : Book) → ClientAgrees c book
unfolding ClientAgrees
nothing_agrees c none book = subst (λ o. IfSome o (KnowsOne c book)) (sym none) tt

pub agree_set : (cs : List ClientState) (i : ℕ) (c next : ClientState) (book : Book) → slice_get cs i ≡ Some c → AllAgree cs book → AgreesLater next book → AllAgree (slice_set cs i next) book
agree_set cs i c next book there all new = λ j d e. elim (get-set cs i j next d c there e) [
  | inl is ↦ (let P : ClientState → Type 0 = λ x. AgreesLater x book in subst P (sym is) new)
  | inr old ↦ all j d old
]

pub agree_push : (cs : List ClientState) (next : ClientState) (book : Book) → AllAgree cs book → AgreesLater next book → AllAgree (cs ++ next ∷ []) book
agree_push cs next book all new = λ j d e. elim (get-push cs j next d e) [
  | inl is ↦ (let P : ClientState → Type 0 = λ x. AgreesLater x book in subst P (sym is) new)
  | inr old ↦ all j d old
]

abbrev pub see : List ℕ → Option Query → Seen
see name query = record { name = name; query = query }

pub seen_same : (c next : ClientState) → name_of next ≡ name_of c → query_of next ≡ query_of c → seen next ≡ seen c
seen_same c next n q = ap (λ (m : List ℕ). see m (query_of next)) n ∙ ap (λ (o : Option Query). see (name_of c) o) q

-- a client that keeps its name and its query is seen as before
pub kept_seen : (cs : List ClientState) (i : ℕ) (c next : ClientState) → slice_get cs i ≡ Some c → seen next ≡ seen c → map seen (slice_set cs i next) ≡ map seen cs
kept_seen cs i c next there same =
    map-set seen cs i next ∙ (ap (λ (s : Seen). slice_set (map seen cs) i s) same ∙ set_there (map seen cs) i (seen c) (get-map seen cs i ∙ ap (λ (o : Option ClientState). option_map seen o) there))

pub opened_there : (cs : List ClientState) (i : ℕ) (c next : ClientState) (q : Query) → slice_get cs i ≡ Some c → name_of next ≡ name_of c → query_of next ≡ Some q → map seen (slice_set cs i next) ≡ opened (map seen cs) i q
opened_there [] i c next q there n e = refl
opened_there (d ∷ cs) zero c next q there n e =
    let same : d ≡ c = cc in
    ap (λ (s : Seen). s ∷ map seen cs) (ap (λ (m : List ℕ). see m (query_of next)) (n ∙ ap (λ (x : ClientState). name_of x) (sym same)) ∙ ap (λ (o : Option Query). see (name_of d) o) e)
opened_there (d ∷ cs) (suc i) c next q there n e = ap (λ (ss : List Seen). seen d ∷ ss) (opened_there cs i c next q there n e)

pub opened_none : (cs : List ClientState) (i : ℕ) (q : Query) → slice_get cs i ≡ None → opened (map seen cs) i q ≡ map seen cs
opened_none [] i q none = refl
opened_none (d ∷ cs) zero q none = absurd (none-some d (sym none))
opened_none (d ∷ cs) (suc i) q none = ap (λ (ss : List Seen). seen d ∷ ss) (opened_none cs i q none)

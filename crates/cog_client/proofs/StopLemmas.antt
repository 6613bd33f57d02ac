-- An answer in pieces: its blocks are stored over what its head made of the client, until memory is wanting.
use Rattle.std.proofs.Common.{◌≡◌, ℕ, ◌-◌, ◌*◌, true, List, [], ◌++◌, length, take, Option, Some, None, Ok, refl, sym, ap, ◌∙◌, subst, arith, inl, inr}
use Rattle.std.proofs.lemmas.Bool.{leb-true}
use Rattle.std.proofs.lemmas.Option.{none-some}
use Rattle.std.specs.Prelude.{IfSome, IsSome, is_some}
use Rattle.tiff_dir.specs.declared.query.Query.{Query}
use Rattle.extents.specs.declared.span.Span.{Span}
use Rattle.extents.specs.declared.limits.TheConstants.{BLOCK_SIZE}
use Rattle.http_range.specs.Announced.{Announced, body_behind}
use Rattle.http_range.specs.Laws.{FrontsAreRead}
use Rattle.http_range.specs.Piece.{SeenPiece}
use Rattle.http_range.specs.Reading.{ReadsHead}
use Rattle.range_cache.specs.Cache.{Blocks}
use Rattle.range_cache.specs.Laws.{BesideBringNone, FrontHolds}
use Rattle.cog_reader.specs.Reader as reader
use Rattle.cog_reader.specs.Reader.{ReaderState}
use Rattle.cog_client.specs.declared.request_options.RequestOptions.{RequestOptions}
use Rattle.cog_client.specs.declared.case.Case.{Case}
use Rattle.cog_client.specs.declared.case.Case.TheVariants.{Ignored, Adopted, Restarted, Accepted}
use Rattle.cog_client.specs.declared.report.Report.{Report}
use Rattle.cog_client.specs.declared.revision_reader.RevisionReader.{RevisionReader}
use Rattle.cog_client.specs.PartialAnswer.{StopsInBytes}
use Rattle.cog_client.specs.Body.{IsStopped}
use Rattle.cog_client.specs.Case.{Revision, case_of, is_beside}
use Rattle.cog_client.specs.Client.{ClientState, IsAlone, IsClient, IsStanding, MayKeep, asked_of, blocks_of, feed_of, host_of, how_of, name_of, query_of, report_of, revision_of}
use Rattle.cog_client.specs.Fed.{case_of_head, piece_with}
use Rattle.cog_client.specs.FedClient.{Begins, FedAllBut, FedBefore, FedBody, case_for}
use Rattle.cog_client.specs.AnswerPhase.{Feed, TakesNoBody, waits, unused, passed, follows}
use Rattle.cog_reader.specs.Going.{AreSame}
use Rattle.cog_client.specs.Keeps.{StopsDelivery}
use Rattle.cog_client.specs.Steps.{Stores, StopsStoring}
use Rattle.cog_client.specs.Take.{brought_by, stored_front}
use Rattle.cog_client.proofs.AcceptLemmas.{span_is}
use Rattle.cog_client.proofs.ClientLemmas.{by_source, known, refed, stays_refed, stores_front}
use Rattle.cog_client.proofs.DeliverLemmas.{accepted_stops, adopted_stops, restarted_stops}
use Rattle.cog_client.proofs.FedLemmas.{case_is_of_head}
use Rattle.cog_client.proofs.GoingLemmas.{same_refl}

-- ---- a body that is taken

-- a client that takes a body reads a revision
accepted_reads : (v : Option Revision) (a : Option Span) (head : Announced) → case_of_head v a head ≡ Accepted → IsSome v
accepted_reads None None head is = cc
accepted_reads None (Some s) head is = cc
accepted_reads (Some v) a head is = refl

pub begun_reads : (k : Case) (head : Announced) (s mid : ClientState) → case_for s head ≡ k → Begins k head s mid → IsSome (revision_of mid)
unfolding revision_of
begun_reads (Ignored w) head s mid is b = absurd b
begun_reads Adopted head s mid is b = ap is_some b.revision
begun_reads Restarted head s mid is b = ap is_some b.revision
begun_reads Accepted head s mid is (e, same) =
    ap (λ (c : ClientState). is_some (revision_of c)) same ∙ accepted_reads (revision_of s) (asked_of s) head is

-- and no report stands
pub unreported : (c : ClientState) (span : Span) → IsClient c → asked_of c ≡ Some span → report_of c ≡ None
unfolding report_of asked_of
unreported c span sound asks = at c.report sound.standing
  where
    at : (o : Option Report) → IfSome o (IsStanding c.query c.asked) → o ≡ None
    at None standing = refl
    at (Some r) standing = absurd (none-some span (sym standing.1 ∙ asks))

module _ (law : FrontHolds) (mid new : ClientState) (same : new ≡ record mid { cache = blocks_of new; feed = feed_of new }) (sound : IsClient new) where
  pub stored_over : (p : SeenPiece) (span : Span) (k : ℕ) → IsSome (revision_of mid) → blocks_of new ≡ stored_front k p span (blocks_of mid) → Stores p span k mid new
  unfolding revision_of blocks_of
  stored_over p span k reads is =
      subst (Stores p span k mid) (sym same)
      (by_source (λ o. IsClient (record mid { source = o; cache = blocks_of new; feed = feed_of new })
      → Stores p span k (record mid { source = o }) (record mid { source = o; cache = blocks_of new; feed = feed_of new }))
      (λ (x : RevisionReader) c. stores_front mid.feed (feed_of new) mid.how mid.host mid.name mid.query mid.asked x mid.cache mid.report (blocks_of new) p span k law c is)
      mid.source reads (subst IsClient same sound))

-- ---- the case of its head is that of the answer, unless it is beside what is asked for

brings_none : BesideBringNone → (head : Announced) (body : List ℕ) (span : Span) → is_beside span (piece_with head body) ≡ true
    → brought_by (piece_with head body) span ≡ []
brings_none beside head body span is = beside head.complete head.first body span (leb-true _ _ is)

-- a piece that isn't beside has the case of its head
pub case_is : (s : ClientState) (head : Announced) (body : List ℕ) (span : Span) (k : Case)
    → (k ≡ Accepted → (asked_of s ≡ Some span) × (is_beside span (piece_with head body) ≡ true → ⊥))
    → case_for s head ≡ k → case_of (revision_of s) (asked_of s) (piece_with head body) ≡ k
case_is s head body span k asks is = elim (case_is_of_head (revision_of s) (asked_of s) head body) [
  | inl same ↦ same ∙ is
  | inr other ↦
      let a = asks (sym is ∙ other.0) in
      absurd (a.1 (subst (λ o. IfSome o (λ x. is_beside x (piece_with head body) ≡ true)) a.0 other.2))
]

-- ---- memory was wanting

stops_storing : (p : SeenPiece) (span : Span) (k : ℕ) (mid new : ClientState) → asked_of mid ≡ Some span → report_of new ≡ None → TakesNoBody (feed_of new)
    → Stores p span k mid new → StopsStoring p mid new
stops_storing p span k mid new asks none dropped st = record {
  same = st.same;
  asked = st.asked;
  revision = st.revision;
  report = none;
  feed = dropped;
  blocks = (
    k,
    subst (λ (b : Blocks). AreSame b (blocks_of new)) (st.blocks ∙ ap (λ x. stored_front k p x (blocks_of mid)) (span_is (asked_of mid) span asks)) (same_refl (blocks_of new)),
  );
  file = st.file;
}

stops_from : (p : SeenPiece) (s new : ClientState) (e : Feed) → StopsStoring p (record s { feed = e }) new → StopsStoring p s new
unfolding how_of host_of name_of query_of asked_of revision_of blocks_of
stops_from p s new e st = record {
  same = record { host = st.same.host; name = st.same.name; query = st.same.query; how = st.same.how };
  asked = st.asked;
  revision = st.revision;
  report = st.report;
  feed = st.feed;
  blocks = st.blocks;
  file = λ f size piece knows. stays_refed s new e f (st.file f size piece (refed s e f knows));
}

module _ (law : FrontsAreRead) (lengths : (r : ReaderState) (f : List ℕ) → reader.ReaderAgrees r f → length f ≡ reader.file_length_of r) (s mid new : ClientState) (text : List ℕ) (head : Announced) (reads : ReadsHead text (Ok head)) where
  abbrev piece : SeenPiece
  piece = piece_with head (body_behind head text)

  pub stops_by : (k : Case) → case_of (revision_of s) (asked_of s) piece ≡ k → Begins k head s mid → StopsStoring piece mid new → StopsDelivery s text new
  stops_by (Ignored w) is b st = absurd b
  stops_by Adopted is b st = adopted_stops law piece text (Ok head, reads, refl) s mid new is b st
  stops_by Restarted is b st = restarted_stops law piece text (Ok head, reads, refl) s mid new is b st
  stops_by Accepted is (e, same) st =
      accepted_stops law piece text (Ok head, reads, refl) s new lengths is (stops_from piece s new e (subst (λ (m : ClientState). StopsStoring piece m new) same st))

-- what is asked for where the piece is of the revision that was read
pub asked_before : (k : Case) (head : Announced) (s mid : ClientState) (span : Span) → Begins k head s mid → asked_of mid ≡ Some span → k ≡ Accepted → asked_of s ≡ Some span
unfolding asked_of
asked_before (Ignored w) head s mid span b asks is = absurd b
asked_before Adopted head s mid span b asks is = absurd (let wrong : Adopted ≡ Accepted = is in cc)
asked_before Restarted head s mid span b asks is = absurd (let wrong : Restarted ≡ Accepted = is in cc)
asked_before Accepted head s mid span (e, same) asks is = sym (ap asked_of same) ∙ asks

module _ (law : FrontsAreRead) (lengths : (r : ReaderState) (f : List ℕ) → reader.ReaderAgrees r f → length f ≡ reader.file_length_of r) (holds : FrontHolds) (beside : BesideBringNone) (s : ClientState) (p bytes : List ℕ) (old new : ClientState)
    (same : new ≡ record old { cache = blocks_of new; feed = feed_of new }) (dropped : TakesNoBody (feed_of new)) (sound : IsClient new)
    (stops : StopsInBytes (feed_of old) (blocks_of old) bytes (blocks_of new)) where
  abbrev At : Feed → Type 0
  At e = StopsInBytes e (blocks_of old) bytes (blocks_of new)

  body_stops : (b : FedAllBut s p bytes old) → FedBody b.head s b.body old → StopsDelivery s p new
  unfolding asked_of
  body_stops b x =
      let all = body_behind b.head p in
      let left : x.taken.left ≡ b.head.length - length b.body = let l = x.is.left in omega (arith, l) in
      let stopped : IsStopped b.head x.taken.span (blocks_of x.mid) all (blocks_of new) =
      subst (λ (xs : List ℕ). IsStopped b.head x.taken.span (blocks_of x.mid) xs (blocks_of new)) (ap (λ (n : ℕ). b.body ++ take n bytes) left ∙ b.joins)
      (subst At x.feed stops b.head (blocks_of x.mid) b.body x.is) in
      let over : new ≡ record x.mid { cache = blocks_of new; feed = feed_of new } =
      same ∙ ap (λ (o : ClientState). record o { cache = blocks_of new; feed = feed_of new }) x.same in
      let asks : asked_of new ≡ Some x.taken.span = ap asked_of over ∙ x.asked in
      let st = stored_over holds x.mid new over sound (piece_with b.head all) x.taken.span stopped.0 (begun_reads (case_for s b.head) b.head s x.mid refl x.begins) stopped.2 in
      let some : brought_by (piece_with b.head all) x.taken.span ≡ [] → ⊥ =
      λ none. let long = ap length none in let few = stopped.1 in omega (arith, long, few) in
      stops_by law lengths s x.mid new p b.head b.reads (case_for s b.head)
      (case_is s b.head all x.taken.span (case_for s b.head)
      (λ accepted. (asked_before (case_for s b.head) b.head s x.mid x.taken.span x.begins x.asked accepted, λ is. some (brings_none beside b.head all x.taken.span is))) refl)
      x.begins
      (stops_storing (piece_with b.head all) x.taken.span stopped.0 x.mid new x.asked (unreported new x.taken.span sound asks) dropped st)

  pub fed_stops : FedBefore s p bytes old → StopsDelivery s p new
  unfolding feed_of
  fed_stops (inl h) = elim h.feed [
    | inl o ↦ absurd (subst At o.keeps stops)
    | inr r ↦ absurd (subst At r.keeps stops)
  ]
  fed_stops (inr b) = elim b.by [
    | inl x ↦ let is : feed_of old ≡ passed x.reason = ap feed_of x.same in absurd (subst At is stops)
    | inr x ↦ body_stops b x
  ]

-- a client stays sound where blocks of a body were stored
pub stopped_sound : (e e' : Feed) (how : RequestOptions) (h n : List ℕ) (q : Option Query) (a : Option Span) (s : Option RevisionReader) (b b' : Blocks) (r : Option Report) (bytes : List ℕ)
    → IsClient (known e how h n q a s b r) → b'.capacity ≡ b.capacity → StopsInBytes e b bytes b' → IsClient (known e' how h n q a s b' r)
stopped_sound e e' how h n q a s b b' r bytes c room stops =
    record { hosted = c.hosted; named = c.named; alone = at s e c.alone stops; reading = c.reading; tiles = kept s c.tiles; buffer = c.buffer; standing = c.standing; few = c.few }
  where
    kept : (o : Option RevisionReader) → IfSome o (MayKeep b) → IfSome o (MayKeep b')
    kept None k = tt
    kept (Some o) k = k ∙ ap (λ (n : ℕ). n * BLOCK_SIZE) (sym room)

    at : (o : Option RevisionReader) (x : Feed) → IsAlone o b r x → StopsInBytes x b bytes b' → IsAlone o b' r e'
    at (Some o) x alone stops = tt
    at None (waits p) alone stops = absurd stops
    at None (unused w) alone stops = absurd stops
    at None (passed w) alone stops = absurd stops
    at None (follows head k body part) alone stops = absurd alone.1.1

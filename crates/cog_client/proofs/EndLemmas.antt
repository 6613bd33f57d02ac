-- An answer in pieces: its end.
use Rattle.std.proofs.Common.{◌≡◌, ℕ, ◌-◌, Bool, true, false, cond, List, length, Option, Some, None, Result, Ok, Err, refl, sym, ap, ◌∙◌, subst, arith, inl, inr}
use Rattle.std.specs.Prelude.{IfSome, not, if◌then◌else◌, ◌==◌}
use Rattle.std.specs.Str.{bytes_eq}
use Rattle.extents.specs.declared.span.Span.{Span}
use Rattle.http_range.specs.declared.reading.Why.{Why}
use Rattle.http_range.specs.Announced.{Announced, body_behind}
use Rattle.http_range.specs.Laws.{FrontsAreRead}
use Rattle.http_range.specs.Piece.{SeenPiece}
use Rattle.http_range.specs.Reading.{ReadsAnswer, ReadsHead}
use Rattle.range_cache.specs.Cache.{Blocks}
use Rattle.range_cache.specs.Laws.{BesideBringNone, FrontHolds}
use Rattle.cog_reader.specs.Reader as reader
use Rattle.cog_reader.specs.Reader.{ReaderState}
use Rattle.cog_client.specs.declared.case.Case.{Case}
use Rattle.cog_client.specs.declared.case.Case.TheVariants.{Ignored, Adopted, Restarted, Accepted}
use Rattle.cog_client.specs.declared.delivered.Delivered.{Delivered}
use Rattle.cog_client.specs.declared.delivered.Delivered.TheVariants.{Took, Restarted as ARestart, Ignored as AnIgnored}
use Rattle.cog_client.specs.declared.delivered.Ignored as why
use Rattle.cog_client.specs.declared.delivered.Ignored.TheVariants.{NotUsed, OtherRevision, OtherLength, NotAsked}
use Rattle.cog_client.specs.PartialAnswer.{IsTold}
use Rattle.cog_client.specs.Calls.{unless_reported}
use Rattle.cog_client.specs.Case.{Revision, case_of, is_beside}
use Rattle.cog_client.specs.Client.{ClientState, IsClient, asked_of, blocks_of, feed_of, holding, host_of, how_of, name_of, query_of, report_of, revision_of}
use Rattle.cog_client.specs.Fed.{is_beside_at, piece_with, told_at_end}
use Rattle.cog_client.specs.FedClient.{Begins, Fed, FedBody, case_for}
use Rattle.cog_client.specs.AnswerPhase.{Feed, nothing_fed, passed}
use Rattle.cog_client.specs.Keeps.{DeliversKeeping, GoesOnKeeping, Misses, StopsDelivery}
use Rattle.cog_client.specs.Steps.{AcceptsPiece, Stores}
use Rattle.cog_client.specs.Take.{IsIgnored, brought_by, take as taken, take_by}
use Rattle.cog_client.proofs.AcceptLemmas.{accept_goes, accept_stops, all_stored}
use Rattle.cog_client.proofs.ClientLemmas.{refed, stays_refed}
use Rattle.cog_client.proofs.DeliverLemmas.{accepted_delivers, adopted_delivers, asks_still, ignores, restarted_delivers}
use Rattle.cog_client.proofs.FedLemmas.{case_is_of_head, nothing_more}
use Rattle.cog_client.proofs.StopLemmas.{asked_before, begun_reads, case_is, stops_by, stored_over, unreported}

-- ---- the body

-- what was told of a body isn't ignored, where its case takes it and it isn't beside
tells : (head : Announced) (s : Span) (body : List ℕ) (came : ℕ) → came ≡ length body → is_beside_at head came s ≡ is_beside s (piece_with head body)
tells head s body came is = ap (λ (n : ℕ). is_beside_at head n s) is

pub not_ignored : (d : Delivered) → ((w : why.Ignored) → d ≡ AnIgnored w → ⊥) → IsIgnored d → ⊥
not_ignored (Took n) never i = i
not_ignored ARestart never i = i
not_ignored (AnIgnored w) never i = never w refl

-- a body that is told of isn't beside what is asked for
not_beside : (head : Announced) (body : List ℕ) (span : Span) (k : Case) (what : Delivered) (came count : ℕ) → came ≡ length body → k ≡ Accepted
    → what ≡ told_at_end k head came count (Some span) → (IsIgnored what → ⊥) → is_beside span (piece_with head body) ≡ true → ⊥
not_beside head body span (Ignored w) what came count is accepted told used beside = cc
not_beside head body span Adopted what came count is accepted told used beside = cc
not_beside head body span Restarted what came count is accepted told used beside = cc
not_beside head body span Accepted what came count is accepted told used beside =
    let t : what ≡ AnIgnored NotAsked = told ∙ ap (λ t. cond t (AnIgnored NotAsked) (Took count)) (tells head span body came is ∙ beside) in
    used (subst IsIgnored (sym t) tt)

-- a piece of the revision that is read is beside or taken
beside_or_taken : (v : Option Revision) (a : Option Span) (p : SeenPiece) → case_of v a p ≡ Accepted → IfSome a (λ s. is_beside s p ≡ false)
beside_or_taken v None p is = tt
beside_or_taken None (Some s) p is = cc
beside_or_taken (Some v) (Some s) p is = tests (not (bytes_eq v.tag p.tag)) (not (v.complete == p.complete)) (is_beside s p) p.whole is
  where
    tests : (other length beside whole : Bool) → (if other then (if whole then Restarted else Ignored OtherRevision) else if length then Ignored OtherLength else if beside then Ignored NotAsked else Accepted) ≡ Accepted → beside ≡ false
    tests true length beside true is = cc
    tests true length beside false is = cc
    tests false true beside whole is = cc
    tests false false true whole is = cc
    tests false false false whole is = refl

accepts_from : (p : SeenPiece) (s new : ClientState) (e : Feed) (count : ℕ) → AcceptsPiece p (record s { feed = e }) new count → AcceptsPiece p s new count
unfolding how_of host_of name_of query_of asked_of revision_of blocks_of
accepts_from p s new e count st = record {
  same = record { host = st.same.host; name = st.same.name; query = st.same.query; how = st.same.how };
  asked = st.asked;
  revision = st.revision;
  blocks = st.blocks;
  counted = st.counted;
  feed = st.feed;
  rests = st.rests;
  file = λ f size piece knows. stays_refed s new e f (st.file f size piece (refed s e f knows));
}

module _ (law : FrontsAreRead) (lengths : (r : ReaderState) (f : List ℕ) → reader.ReaderAgrees r f → length f ≡ reader.file_length_of r) (s mid new : ClientState)
    (text : List ℕ) (head : Announced) (reads : ReadsHead text (Ok head)) (span : Span) (asks : asked_of mid ≡ Some span) (count came : ℕ)
    (came_is : came ≡ length (body_behind head text)) (takes : AcceptsPiece (piece_with head (body_behind head text)) mid new count) where
  abbrev piece : SeenPiece
  piece = piece_with head (body_behind head text)

  accepted_by : (e : Feed) → mid ≡ record s { feed = e } → case_for s head ≡ Accepted → asked_of s ≡ Some span → (what : Delivered) (beside : Bool) → is_beside span piece ≡ beside
      → what ≡ (if beside then AnIgnored NotAsked else Took count) → (IsIgnored what → ⊥) → DeliversKeeping s text what new
  accepted_by e same is a what true at told used = absurd (used (subst IsIgnored (sym told) tt))
  accepted_by e same is a what false at told used =
      subst (λ (d : Delivered). DeliversKeeping s text d new) (sym told)
      (accepted_delivers law piece text (Ok head, reads, refl) s new lengths count
      (case_is s head (body_behind head text) span Accepted (λ _. (a, λ wrong. let no : true ≡ false = sym wrong ∙ at in cc)) is)
      (accepts_from piece s new e count (subst (λ (m : ClientState). AcceptsPiece piece m new count) same takes)))

  pub delivers_by : (k : Case) → case_for s head ≡ k → Begins k head s mid → (what : Delivered) → what ≡ told_at_end k head came count (Some span) → (IsIgnored what → ⊥)
      → DeliversKeeping s text what new
  delivers_by (Ignored w) is b what told used = absurd b
  delivers_by Adopted is b what told used =
      subst (λ (d : Delivered). DeliversKeeping s text d new) (sym told)
      (adopted_delivers law piece text (Ok head, reads, refl) s mid new count (case_is s head (body_behind head text) span Adopted (λ wrong. absurd (let no : Adopted ≡ Accepted = wrong in cc)) is) b takes)
  delivers_by Restarted is b what told used =
      subst (λ (d : Delivered). DeliversKeeping s text d new) (sym told)
      (restarted_delivers law piece text (Ok head, reads, refl) s mid new count (case_is s head (body_behind head text) span Restarted (λ wrong. absurd (let no : Restarted ≡ Accepted = wrong in cc)) is) b takes)
  delivers_by Accepted is (e, same) what told used =
      accepted_by e same is (asked_before Accepted head s mid span (e, same) asks refl) what (is_beside span piece) refl
      (told ∙ ap (λ t. cond t (AnIgnored NotAsked) (Took count)) (tells head span (body_behind head text) came came_is)) used

-- ---- the whole

module _ (law : FrontsAreRead) (lengths : (r : ReaderState) (f : List ℕ) → reader.ReaderAgrees r f → length f ≡ reader.file_length_of r) (holds : FrontHolds) (beside : BesideBringNone)
    (s : ClientState) (p : List ℕ) (old mid : ClientState) (dropped : mid ≡ record old { feed = nothing_fed }) (sound : IsClient mid) where
  -- what isn't ignored is of a body
  body_told : (what : Delivered) → IsTold (feed_of old) what → (IsIgnored what → ⊥) → Fed s p old
      → (head : Announced) × ReadsHead p (Ok head) × FedBody head s (body_behind head p) old
  unfolding feed_of
  body_told what told used (inl h) = elim h.feed [
    | inl o ↦ let t = subst (λ (e : Feed). IsTold e what) o.keeps told in absurd (used (subst IsIgnored (sym t.2) tt))
    | inr r ↦ let t = subst (λ (e : Feed). IsTold e what) r.keeps told in absurd (used (subst IsIgnored (sym t) tt))
  ]
  body_told what told used (inr (head, reads, inl x)) =
      let is : feed_of old ≡ passed x.reason = ap feed_of x.same in
      let t = subst (λ (e : Feed). IsTold e what) is told in
      absurd (used (subst IsIgnored (sym t) tt))
  body_told what told used (inr (head, reads, inr x)) = (head, reads, x)

  module _ (head : Announced) (reads : ReadsHead p (Ok head)) (x : FedBody head s (body_behind head p) old) where
    over : mid ≡ record x.mid { cache = blocks_of mid; feed = feed_of mid }
    unfolding blocks_of feed_of
    over = dropped ∙ ap (λ (o : ClientState). record o { feed = nothing_fed }) x.same
        ∙ ap (λ (o : ClientState). record x.mid { cache = blocks_of o; feed = feed_of o }) (sym dropped)

    asks_now : asked_of mid ≡ Some x.taken.span
    unfolding asked_of
    asks_now = ap asked_of over ∙ x.asked

    same_blocks : blocks_of mid ≡ blocks_of old
    unfolding blocks_of
    same_blocks = ap blocks_of dropped

    stores : Stores (piece_with head (body_behind head p)) x.taken.span (length (brought_by (piece_with head (body_behind head p)) x.taken.span)) x.mid mid
    stores =
        let p = piece_with head (body_behind head p) in
        stored_over holds x.mid mid over sound p x.taken.span (length (brought_by p x.taken.span)) (begun_reads (case_for s head) head s x.mid refl x.begins)
        (same_blocks ∙ x.is.holds ∙ sym (all_stored p x.taken.span (blocks_of x.mid)))

    ended : (what : Delivered) → IsTold (feed_of old) what → (IsIgnored what → ⊥) → (new : ClientState) (o : Option Span) → GoesOnKeeping mid new
        → asked_of new ≡ unless_reported (report_of new) (asked_of mid) → Misses new o → feed_of new ≡ nothing_fed → DeliversKeeping s p what new
    ended what told used new o goes asked misses empty =
        let t = subst (λ (e : Feed). IsTold e what) x.feed told in
        let next = x.is.next in
        delivers_by law lengths s x.mid new p head reads x.taken.span x.asked x.taken.count (x.taken.next - head.first) (omega (arith, next))
        (accept_goes (piece_with head (body_behind head p)) x.taken.span x.taken.count o x.mid mid new x.asked stores x.is.counted goes asked misses empty)
        (case_for s head) refl x.begins what t used

    -- memory was wanting after it
    end_stops : (new : ClientState) → GoesOnKeeping mid new → asked_of new ≡ unless_reported (report_of new) (asked_of mid) → report_of new ≡ None → feed_of new ≡ nothing_fed
        → (what : Delivered) → IsTold (feed_of old) what → (IsIgnored what → ⊥) → StopsDelivery s p new
    end_stops new goes asked none empty what told used =
        let q = piece_with head (body_behind head p) in
        let t = subst (λ (e : Feed). IsTold e what) x.feed told in
        let next = x.is.next in
        stops_by law lengths s x.mid new p head reads (case_for s head)
        (case_is s head (body_behind head p) x.taken.span (case_for s head)
        (λ accepted. (
          asked_before (case_for s head) head s x.mid x.taken.span x.begins x.asked accepted,
          not_beside head (body_behind head p) x.taken.span (case_for s head) what (x.taken.next - head.first) x.taken.count (omega (arith, next)) accepted t used,
        )) refl) x.begins
        (accept_stops q x.taken.span (length (brought_by q x.taken.span)) x.mid mid new x.asked stores goes asked none empty)

  -- the same of what is told, whatever it is of
  pub ends : (what : Delivered) → IsTold (feed_of old) what → (IsIgnored what → ⊥) → Fed s p old → (new : ClientState) (o : Option Span) → GoesOnKeeping mid new
      → asked_of new ≡ unless_reported (report_of new) (asked_of mid) → Misses new o → feed_of new ≡ nothing_fed → DeliversKeeping s p what new
  ends what told used fed = let b = body_told what told used fed in ended b.0 b.1 b.2 what told used

  pub stops : (what : Delivered) → IsTold (feed_of old) what → (IsIgnored what → ⊥) → Fed s p old → (new : ClientState) → GoesOnKeeping mid new
      → asked_of new ≡ unless_reported (report_of new) (asked_of mid) → report_of new ≡ None → feed_of new ≡ nothing_fed → StopsDelivery s p new
  stops what told used fed new goes asked none empty = let b = body_told what told used fed in end_stops b.0 b.1 b.2 new goes asked none empty what told used

  pub silent : (what : Delivered) → IsTold (feed_of old) what → (IsIgnored what → ⊥) → Fed s p old → report_of mid ≡ None
  silent what told used fed = let b = body_told what told used fed in unreported mid b.2.taken.span sound (asks_now b.0 b.1 b.2)

  -- ---- what is ignored

  asks_before : mid ≡ record s { feed = nothing_fed } → asked_of s ≡ unless_reported (report_of s) (asked_of s)
  unfolding asked_of report_of
  asks_before over =
      subst (λ (m : ClientState). asked_of m ≡ unless_reported (report_of m) (asked_of m)) over (asks_still mid.query mid.asked mid.report sound.standing)

  nothing_used : (w reason : why.Ignored) → AnIgnored w ≡ AnIgnored reason → mid ≡ record s { feed = nothing_fed } → (r : Result SeenPiece Why) → ReadsAnswer p r
      → taken (holding s) r ≡ record { says = AnIgnored reason; leaves = holding s } → DeliversKeeping s p (AnIgnored w) mid
  nothing_used w reason told over r reads is =
      ignores s mid over p w r reads (is ∙ ap (λ (d : Delivered). record { says = d; leaves = holding s }) (sym told)) (asks_before over)

  -- a body that is beside what was asked for
  beside_ended : (w : why.Ignored) (head : Announced) → ReadsHead p (Ok head) → (x : FedBody head s (body_behind head p) old) → (k : Case) → case_for s head ≡ k → Begins k head s x.mid
      → AnIgnored w ≡ told_at_end k head (x.taken.next - head.first) x.taken.count (Some x.taken.span) → DeliversKeeping s p (AnIgnored w) mid
  unfolding blocks_of feed_of
  beside_ended w head reads x (Ignored r) is b told = absurd b
  beside_ended w head reads x Adopted is b told = absurd (let wrong : AnIgnored w ≡ Took x.taken.count = told in cc)
  beside_ended w head reads x Restarted is b told = absurd (let wrong : AnIgnored w ≡ ARestart = told in cc)
  beside_ended w head reads x Accepted is (e, same) told = at (is_beside x.taken.span (piece_with head (body_behind head p))) refl
    where
      rows : AnIgnored w ≡ (if is_beside x.taken.span (piece_with head (body_behind head p)) then AnIgnored NotAsked else Took x.taken.count)
      rows =
          let next = x.is.next in
          told ∙ ap (λ t. cond t (AnIgnored NotAsked) (Took x.taken.count)) (tells head x.taken.span (body_behind head p) (x.taken.next - head.first) (omega (arith, next)))

      over_start : is_beside x.taken.span (piece_with head (body_behind head p)) ≡ true → mid ≡ record s { feed = nothing_fed }
      over_start t =
          let kept : blocks_of old ≡ blocks_of x.mid = x.is.holds ∙ nothing_more beside (holding x.mid) (piece_with head (body_behind head p)) x.taken.span t in
          dropped ∙ ap (λ (o : ClientState). record o { feed = nothing_fed }) (x.same ∙ ap (λ (bs : Blocks). record x.mid { cache = bs; feed = feed_of old }) kept)
          ∙ ap (λ (m : ClientState). record m { feed = nothing_fed }) same

      asked : asked_of s ≡ Some x.taken.span
      asked = asked_before Accepted head s x.mid x.taken.span (e, same) x.asked refl

      at : (t : Bool) → is_beside x.taken.span (piece_with head (body_behind head p)) ≡ t → DeliversKeeping s p (AnIgnored w) mid
      at false f = absurd (let wrong : AnIgnored w ≡ Took x.taken.count = rows ∙ ap (λ t. cond t (AnIgnored NotAsked) (Took x.taken.count)) f in cc)
      at true t =
          let passed_over : case_of (revision_of s) (asked_of s) (piece_with head (body_behind head p)) ≡ Ignored NotAsked =
          elim (case_is_of_head (revision_of s) (asked_of s) head (body_behind head p)) [
            | inl kept ↦
                let no = beside_or_taken (revision_of s) (asked_of s) (piece_with head (body_behind head p)) (kept ∙ is) in
                let not : is_beside x.taken.span (piece_with head (body_behind head p)) ≡ false = subst (λ o. IfSome o (λ z. is_beside z (piece_with head (body_behind head p)) ≡ false)) asked no in
                absurd (let wrong : true ≡ false = sym t ∙ not in cc)
            | inr other ↦ other.1
          ] in
          nothing_used w NotAsked (rows ∙ ap (λ t. cond t (AnIgnored NotAsked) (Took x.taken.count)) t) (over_start t) (Ok (piece_with head (body_behind head p)))
          (Ok head, reads, refl) (ap (λ k. take_by k (holding s) (piece_with head (body_behind head p))) passed_over)

  pub ended_ignored : (w : why.Ignored) → IsTold (feed_of old) (AnIgnored w) → Fed s p old → DeliversKeeping s p (AnIgnored w) mid
  unfolding feed_of
  ended_ignored w told (inl h) =
      let over : mid ≡ record s { feed = nothing_fed } = dropped ∙ ap (λ (o : ClientState). record o { feed = nothing_fed }) h.same in
      elim h.feed [
        | inl o ↦
            let t = subst (λ (e : Feed). IsTold e (AnIgnored w)) o.keeps told in
            nothing_used w (NotUsed t.0) t.2 over (Err t.0) (Err t.0, t.1, refl) refl
        | inr r ↦
            let t = subst (λ (e : Feed). IsTold e (AnIgnored w)) r.keeps told in
            nothing_used w (NotUsed r.reason) t over (Err r.reason) (Err r.reason, r.reads, refl) refl
      ]
  ended_ignored w told (inr (head, reads, inl x)) =
      let over : mid ≡ record s { feed = nothing_fed } = dropped ∙ ap (λ (o : ClientState). record o { feed = nothing_fed }) x.same in
      let is : feed_of old ≡ passed x.reason = ap feed_of x.same in
      let t = subst (λ (e : Feed). IsTold e (AnIgnored w)) is told in
      let q = piece_with head (body_behind head p) in
      let passed_over : case_of (revision_of s) (asked_of s) q ≡ Ignored x.reason = elim (case_is_of_head (revision_of s) (asked_of s) head (body_behind head p)) [
        | inl kept ↦ kept ∙ x.is
        | inr other ↦ absurd (let wrong : Ignored x.reason ≡ Accepted = sym x.is ∙ other.0 in cc)
      ] in
      nothing_used w x.reason t over (Ok q) (Ok head, reads, refl) (ap (λ k. take_by k (holding s) q) passed_over)
  ended_ignored w told (inr (head, reads, inr x)) =
      beside_ended w head reads x (case_for s head) refl x.begins (subst (λ (e : Feed). IsTold e (AnIgnored w)) x.feed told)

-- An answer is taken, case by case.
use Rattle.std.proofs.Common.{◌≡◌, ℕ, ◌+◌, ◌-◌, Bool, true, false, List, length, take, drop, Option, Some, None, Result, Ok, refl, sym, ap, ◌∙◌, subst, arith, inl, inr}
use Rattle.std.specs.Option.{option_map}
use Rattle.std.specs.Prelude.{IfSome, IsSome, not, if◌then◌else◌, ◌==◌}
use Rattle.std.specs.Str.{bytes_eq}
use Rattle.std.proofs.lemmas.Bool.{false≢true, eqb-true}
use Rattle.std.proofs.lemmas.Option.{none-some, same_Some}
use Rattle.std.proofs.lemmas.Slice.Eq.{bytes_eq-Decides}
use Rattle.std.proofs.Math.Seq.{take-append_seam}
use Rattle.tiff_dir.specs.declared.query.Query.{Query}
use Rattle.extents.specs.declared.span.Span.{Span}
use Rattle.http_range.specs.declared.reading.Why.{Why}
use Rattle.http_range.specs.Book.{Publication, Book, HasDistinctTags}
use Rattle.http_range.specs.Honest.{IsFront, IsPieceOf as IsOf, IsPieceOfBook, IsReadAs}
use Rattle.http_range.specs.Laws.{FrontsAreRead}
use Rattle.http_range.specs.Piece.{SeenPiece}
use Rattle.http_range.specs.Reading.{ReadsAnswer}
use Rattle.range_cache.specs.Cache.{Blocks}
use Rattle.range_cache.specs.Piece.{IsPieceOf}
use Rattle.cog_reader.specs.Reader as reader
use Rattle.cog_reader.specs.Reader.{ReaderState}
use Rattle.cog_client.specs.declared.case.Case.{Case}
use Rattle.cog_client.specs.declared.case.Case.TheVariants as cases
use Rattle.cog_client.specs.declared.delivered.Delivered.{Delivered}
use Rattle.cog_client.specs.declared.delivered.Delivered.TheVariants.{Took, Restarted, Ignored}
use Rattle.cog_client.specs.declared.delivered.Ignored as why
use Rattle.cog_client.specs.declared.delivered.Ignored.TheVariants.{NotUsed}
use Rattle.cog_client.specs.declared.report.Report.{Report}
use Rattle.cog_client.specs.declared.revision_reader.RevisionReader.{RevisionReader}
use Rattle.cog_client.specs.Case.{Revision, case_of, is_beside}
use Rattle.cog_client.specs.Take.{Holding, Taken, IsIgnored, asked_or_first, base_of, keep, stored_count, emptied, first_span, revision_of_piece, stored_front, stored_of, take as taken, take_by}
use Rattle.cog_client.specs.Client.{ClientAgrees, ClientState, IsReadingOf, IsStanding, Knows, KnowsBy, KnowsOne, asked_of, blocks_of, feed_of, holding, host_of, how_of, name_of, query_of, report_of, revision_in, revision_in, revision_of, to_come, unread}
use Rattle.cog_client.specs.AnswerPhase.{nothing_fed}
use Rattle.cog_client.specs.Calls.{unless_reported}
use Rattle.cog_client.specs.Keeps.{DeliversKeeping, StaysOf, StopsDelivery}
use Rattle.cog_reader.specs.Going.{AreSame}
use Rattle.cog_client.specs.Steps.{Adopts, StopsStoring, AcceptsPiece}
use Rattle.cog_client.proofs.GoingLemmas.{end_refl, same_refl}
use Rattle.cog_client.proofs.ClientLemmas.{agrees_by, refed, same_trans}

-- ---- what the cases say of the client

pub nothing_asked : (v : Option Revision) (a : Option Span) (p : SeenPiece) → case_of v a p ≡ cases.Adopted → v ≡ None
nothing_asked v None p is = cc
nothing_asked None (Some s) p is = refl
nothing_asked (Some v) (Some s) p is = absurd (never (not (bytes_eq v.tag p.tag)) (not (v.complete == p.complete)) (is_beside s p) p.whole is)
  where
    never : (other length beside whole : Bool) → (if other then (if whole then cases.Restarted else cases.Ignored why.TheVariants.OtherRevision) else if length then cases.Ignored why.TheVariants.OtherLength else if beside then cases.Ignored why.TheVariants.NotAsked else cases.Accepted) ≡ cases.Adopted → ⊥
    never true length beside true is = cc
    never true length beside false is = cc
    never false true beside whole is = cc
    never false false true whole is = cc
    never false false false whole is = cc

-- whatever isn't ignored was asked for
pub was_asked : (v : Option Revision) (a : Option Span) (p : SeenPiece) (k : Case) → case_of v a p ≡ k → ((w : why.Ignored) → k ≡ cases.Ignored w → ⊥) → IsSome a
was_asked v None p k is used = absurd (used why.TheVariants.NotAsked (sym is))
was_asked v (Some s) p k is used = refl

-- a piece that is taken is of the client's revision
pub same_revision : (v : Option Revision) (a : Option Span) (p : SeenPiece) → case_of v a p ≡ cases.Accepted → v ≡ Some (revision_of_piece p)
same_revision v None p is = cc
same_revision None (Some s) p is = cc
same_revision (Some v) (Some s) p is =
    let both = tests (bytes_eq v.tag p.tag) (v.complete == p.complete) (is_beside s p) p.whole is in
    ap Some (ap (λ t. record { tag = t; complete = v.complete }) ((bytes_eq-Decides v.tag p.tag).0 both.0) ∙ ap (λ l. record { tag = p.tag; complete = l }) (eqb-true v.complete p.complete both.1))
  where
    tests : (tag length beside whole : Bool) → (if not tag then (if whole then cases.Restarted else cases.Ignored why.TheVariants.OtherRevision) else if not length then cases.Ignored why.TheVariants.OtherLength else if beside then cases.Ignored why.TheVariants.NotAsked else cases.Accepted) ≡ cases.Accepted → (tag ≡ true) × (length ≡ true)
    tests true true beside whole is = (refl, refl)
    tests true false beside whole is = cc
    tests false length beside true is = cc
    tests false length beside false is = cc

-- a piece that restarts is of another revision
pub other_tag : (v : Revision) (a : Option Span) (p : SeenPiece) → case_of (Some v) a p ≡ cases.Restarted → v.tag ≡ p.tag → ⊥
other_tag v None p is same = cc
other_tag v (Some s) p is same = differ (bytes_eq v.tag p.tag) (not (v.complete == p.complete)) (is_beside s p) p.whole is ((bytes_eq-Decides v.tag p.tag).1 same)
  where
    differ : (tag length beside whole : Bool) → (if not tag then (if whole then cases.Restarted else cases.Ignored why.TheVariants.OtherRevision) else if length then cases.Ignored why.TheVariants.OtherLength else if beside then cases.Ignored why.TheVariants.NotAsked else cases.Accepted) ≡ cases.Restarted → tag ≡ true → ⊥
    differ true true beside whole is same = cc
    differ true false true whole is same = cc
    differ true false false whole is same = cc
    differ false length beside whole is same = false≢true same

pub only_first : (v : Option Revision) (a : Option Span) (p : SeenPiece) → case_of v a p ≡ cases.Restarted → IsSome v
only_first None None p is = cc
only_first None (Some s) p is = cc
only_first (Some v) a p is = refl

-- ---- a piece of a publication

pub piece_at : (source : Publication) (p : SeenPiece) → IsOf source p → IsPieceOf source.file p.first p.body
piece_at source p of = by of.body
  where
    by : IsFront p.body (drop p.first source.file) → IsPieceOf source.file p.first p.body
    by (rest, joined) =
        let count : p.first + length p.body - p.first ≡ length p.body = omega arith in
        sym (ap (λ k. take k (drop p.first source.file)) count ∙ ap (take (length p.body)) (sym joined) ∙ take-append_seam p.body rest)

-- what a file of this length is to a client, and what it keeps of it when it takes a piece
abbrev Begins : SeenPiece → ClientState → Type 0
Begins p c = (f : List ℕ) → length f ≡ p.complete → Knows f c

abbrev Keeps : SeenPiece → ClientState → ClientState → Type 0
Keeps p old new = (f : List ℕ) → p.complete ≡ length f → IsPieceOf f p.first p.body → Knows f old → StaysOf f old new

module _ (law : FrontsAreRead) (p : SeenPiece) (text : List ℕ) (reads : ReadsAnswer text (Ok p)) where
  pub begun_agrees : (old mid new : ClientState) → name_of new ≡ name_of old → revision_of new ≡ Some (revision_of_piece p) → Begins p mid → Keeps p mid new
      → (book : Book) → IsReadAs (IsPieceOfBook (name_of old) book) text → ClientAgrees new book
  unfolding ClientAgrees
  begun_agrees old mid new name revision begins keeps book read = at (read (Ok p) reads)
    where
      at : IsPieceOfBook (name_of old) book p → IfSome (revision_of new) (KnowsOne new book)
      at (source, published, named, of) = subst (λ v. IfSome v (KnowsOne new book)) (sym revision) (record {
        source = source;
        published = published;
        of_name = named ∙ sym name;
        of_tag = sym of.tag;
        knows = (keeps source.file of.complete (piece_at source p of) (begins source.file (sym of.complete))).knows;
      })

  pub kept_agrees : (old new : ClientState) → name_of new ≡ name_of old → revision_of old ≡ Some (revision_of_piece p) → revision_of new ≡ Some (revision_of_piece p) → Keeps p old new
      → (book : Book) → HasDistinctTags book → ClientAgrees old book → IsReadAs (IsPieceOfBook (name_of old) book) text → ClientAgrees new book
  unfolding ClientAgrees
  kept_agrees old new name before after keeps book distinct agrees read = at (read (Ok p) reads) (subst (λ v. IfSome v (KnowsOne old book)) before agrees)
    where
      at : IsPieceOfBook (name_of old) book p → KnowsOne old book (revision_of_piece p) → IfSome (revision_of new) (KnowsOne new book)
      at (source, published, named, of) k =
          let same : k.source ≡ source = law.one book distinct k.source source k.published published (k.of_tag ∙ of.tag) in
          let knows : Knows source.file old = subst (λ (s : Publication). Knows s.file old) same k.knows in
          subst (λ v. IfSome v (KnowsOne new book)) (sym after) (record {
            source = source;
            published = published;
            of_name = named ∙ sym name;
            of_tag = sym of.tag;
            knows = (keeps source.file of.complete (piece_at source p of) knows).knows;
          })

  -- ---- another revision is read from now on

  pub begins_delivers : (old mid new : ClientState) (a : Span) (what : Delivered) (count : ℕ) → what ≡ (taken (holding old) (Ok p)).says
      → (taken (holding old) (Ok p)).leaves ≡ keep (revision_of_piece p) a (emptied (blocks_of old)) p → (IsIgnored what → ⊥)
      → (revision_of old ≡ Some (revision_of_piece p) → ⊥) → Adopts (revision_of_piece p) (Some a) old mid → AcceptsPiece p mid new count → DeliversKeeping old text what new
  begins_delivers old mid new a what count says leaves used other adopts takes =
      let revision : revision_of new ≡ Some (revision_of_piece p) = takes.revision ∙ adopts.revision in
      let same = same_trans old mid new adopts.same takes.same in
      record {
        seen = record {
          same = same;
          reading = Ok p;
          reads = reads;
          answers = says;
          revision = revision ∙ sym (ap (λ (h : Holding). h.revision) leaves);
          asked = takes.asked ∙ ap (unless_reported (report_of new)) (adopts.asks ∙ sym (ap (λ (h : Holding). h.asked) leaves));
          blocks = subst (λ (b : Blocks). AreSame b (blocks_of new))
              (ap (λ x. stored_of p (asked_or_first x) (blocks_of mid)) adopts.asks ∙ ap (stored_of p a) adopts.blocks ∙ sym (ap (λ (h : Holding). h.blocks) leaves)) takes.blocks;
          feed = takes.feed;
          ignored = λ i. absurd (used i);
        };
        rests = inr takes.rests;
        file = λ f still piece knows. absurd (other (sym still ∙ revision));
        agrees = λ book distinct agrees read. begun_agrees old mid new same.name revision adopts.knows takes.file book read;
      }

  pub begins_stops : (old mid new : ClientState) (a : Span) (k : Case) → case_of (revision_of old) (asked_of old) p ≡ k → base_of k (blocks_of old) ≡ emptied (blocks_of old)
      → (taken (holding old) (Ok p)).leaves ≡ keep (revision_of_piece p) a (emptied (blocks_of old)) p → (IsIgnored (taken (holding old) (Ok p)).says → ⊥)
      → (revision_of old ≡ Some (revision_of_piece p) → ⊥) → Adopts (revision_of_piece p) (Some a) old mid → StopsStoring p mid new → StopsDelivery old text new
  begins_stops old mid new a k is base leaves used other adopts stops =
      let revision : revision_of new ≡ Some (revision_of_piece p) = stops.revision ∙ adopts.revision in
      let asked : asked_of new ≡ Some a = stops.asked ∙ adopts.asks in
      let same = same_trans old mid new adopts.same stops.same in
      record {
        same = same;
        reading = Ok p;
        reads = reads;
        used = used;
        revision = revision ∙ sym (ap (λ (h : Holding). h.revision) leaves);
        asked = asked ∙ sym (ap (λ (h : Holding). h.asked) leaves);
        report = stops.report;
        feed = stops.feed;
        blocks = (
          stops.blocks.0,
          subst (λ (b : Blocks). AreSame b (blocks_of new))
              (ap (λ x. stored_front stops.blocks.0 p (asked_or_first x) (blocks_of mid)) (sym stops.asked)
              ∙ ap (stored_front stops.blocks.0 p (asked_or_first (asked_of new))) (adopts.blocks ∙ sym base ∙ ap (λ x. base_of x (blocks_of old)) (sym is))) stops.blocks.1,
        );
        file = λ f still piece knows. absurd (other (sym still ∙ revision));
        agrees = λ book distinct agrees read. begun_agrees old mid new same.name revision adopts.knows stops.file book read;
      }

  -- ---- the revision that is read

  pub keeps_delivers : (old new : ClientState) (count : ℕ) → case_of (revision_of old) (asked_of old) p ≡ cases.Accepted → revision_of old ≡ Some (revision_of_piece p)
      → IsSome (asked_of old) → ((f : List ℕ) → Knows f old → p.complete ≡ length f) → AcceptsPiece p old new count → DeliversKeeping old text (Took count) new
  keeps_delivers old new count is before asked size takes =
      let revision : revision_of new ≡ Some (revision_of_piece p) = takes.revision ∙ before in
      let t : taken (holding old) (Ok p) ≡ take_by cases.Accepted (holding old) p = ap (λ k. take_by k (holding old) p) is in
      record {
        seen = record {
          same = takes.same;
          reading = Ok p;
          reads = reads;
          answers = ap Took takes.counted ∙ ap (λ (x : Taken). x.says) (sym t);
          revision = takes.revision ∙ ap (λ (x : Taken). x.leaves.revision) (sym t);
          asked = takes.asked ∙ ap (λ (x : Taken). unless_reported (report_of new) x.leaves.asked) (sym t);
          blocks = subst (λ (x : Taken). AreSame x.leaves.blocks (blocks_of new)) (sym t) takes.blocks;
          feed = takes.feed;
          ignored = λ i. absurd i;
        };
        rests = inr takes.rests;
        file = λ f still piece knows. takes.file f (size f knows) piece knows;
        agrees = kept_agrees old new takes.same.name before revision takes.file;
      }

  pub keeps_stops : (old new : ClientState) → case_of (revision_of old) (asked_of old) p ≡ cases.Accepted → revision_of old ≡ Some (revision_of_piece p) → ((f : List ℕ) → Knows f old → p.complete ≡ length f)
      → StopsStoring p old new → StopsDelivery old text new
  keeps_stops old new is before size stops =
      let revision : revision_of new ≡ Some (revision_of_piece p) = stops.revision ∙ before in
      let t : taken (holding old) (Ok p) ≡ take_by cases.Accepted (holding old) p = ap (λ k. take_by k (holding old) p) is in
      record {
        same = stops.same;
        reading = Ok p;
        reads = reads;
        used = λ i. subst (λ (x : Taken). IsIgnored x.says) t i;
        revision = stops.revision ∙ ap (λ (x : Taken). x.leaves.revision) (sym t);
        asked = stops.asked ∙ ap (λ (x : Taken). x.leaves.asked) (sym t);
        report = stops.report;
        feed = stops.feed;
        blocks = (
          stops.blocks.0,
          subst (λ (b : Blocks). AreSame b (blocks_of new))
              (ap (λ x. stored_front stops.blocks.0 p (asked_or_first x) (blocks_of old)) (sym stops.asked)
              ∙ ap (λ x. stored_front stops.blocks.0 p (asked_or_first (asked_of new)) (base_of x (blocks_of old))) (sym is)) stops.blocks.1,
        );
        file = λ f still piece knows. stops.file f (size f knows) piece knows;
        agrees = kept_agrees old new stops.same.name before revision stops.file;
      }

-- ---- what is ignored

pub asks_still : (q : Option Query) (a : Option Span) (r : Option Report) → IfSome r (IsStanding q a) → a ≡ unless_reported r a
asks_still q a None h = refl
asks_still q a (Some r) h = h.1

module _ (old new : ClientState) (dropped : new ≡ record old { feed = nothing_fed }) where
  still_knows : (f : List ℕ) → Knows f old → Knows f (record old { feed = nothing_fed })
  still_knows f knows = refed old nothing_fed f knows

  still_agrees : (book : Book) → ClientAgrees old book → ClientAgrees (record old { feed = nothing_fed }) book
  unfolding name_of revision_of
  still_agrees book agrees = agrees_by old (record old { feed = nothing_fed }) refl refl still_knows book agrees

  ignores_at : (text : List ℕ) (w : why.Ignored) (reading : Result SeenPiece Why) → ReadsAnswer text reading
      → taken (holding old) reading ≡ record { says = Ignored w; leaves = holding old } → asked_of old ≡ unless_reported (report_of old) (asked_of old)
      → DeliversKeeping old text (Ignored w) (record old { feed = nothing_fed })
  unfolding how_of host_of name_of query_of asked_of revision_of report_of blocks_of feed_of to_come unread
  ignores_at text w reading reads is asked = record {
    seen = record {
      same = record { host = refl; name = refl; query = refl; how = refl };
      reading = reading;
      reads = reads;
      answers = sym (ap (λ (t : Taken). t.says) is);
      revision = sym (ap (λ (t : Taken). t.leaves.revision) is);
      asked = asked ∙ ap (λ (t : Taken). unless_reported (report_of old) t.leaves.asked) (sym is);
      blocks = subst (λ (t : Taken). AreSame t.leaves.blocks (blocks_of old)) (sym is) (same_refl (blocks_of old));
      feed = refl;
      ignored = λ i. refl;
    };
    rests = inl tt;
    file = λ f still piece knows. record { knows = still_knows f knows; come = end_refl (to_come old f); held = λ asked q is one. end_refl (unread old f q) };
    agrees = λ book distinct agrees read. still_agrees book agrees;
  }

  pub ignores : (text : List ℕ) (w : why.Ignored) (reading : Result SeenPiece Why) → ReadsAnswer text reading
      → taken (holding old) reading ≡ record { says = Ignored w; leaves = holding old } → asked_of old ≡ unless_reported (report_of old) (asked_of old)
      → DeliversKeeping old text (Ignored w) new
  ignores text w reading reads is asked =
      subst (DeliversKeeping old text (Ignored w)) (sym dropped) (ignores_at text w reading reads is asked)

-- ---- the three cases of a piece that is used

some_or_first : (o : Option Span) → IsSome o → o ≡ Some (asked_or_first o)
some_or_first None none = absurd (false≢true none)
some_or_first (Some s) some = refl

-- the length of what is read is that of every file that is known
known_length : ((r : ReaderState) (f : List ℕ) → reader.ReaderAgrees r f → length f ≡ reader.file_length_of r) → (c : ClientState) (v : Revision) → revision_of c ≡ Some v
    → (f : List ℕ) → Knows f c → v.complete ≡ length f
unfolding revision_of Knows
known_length law c v is f knows = at c.source refl is knows
  where
    at : (o : Option RevisionReader) → c.source ≡ o → option_map revision_in o ≡ Some v → IfSome o (KnowsBy f c) → v.complete ≡ length f
    at None e none k = absurd (none-some v none)
    at (Some s) e some k =
        let same : revision_in s ≡ v = same_Some _ _ some in
        let reading : IsReadingOf c.query c.report s = subst (λ o. IfSome o (IsReadingOf c.query c.report)) e k.sound.reading in
        let long : s.complete ≡ reader.file_length_of s.reader = reading.0 in
        sym (ap (λ (w : Revision). w.complete) same) ∙ long ∙ sym (law s.reader f k.reader)

module _ (law : FrontsAreRead) (p : SeenPiece) (text : List ℕ) (reads : ReadsAnswer text (Ok p)) (old mid new : ClientState) where
  pub adopted_asks : case_of (revision_of old) (asked_of old) p ≡ cases.Adopted → asked_of old ≡ Some (asked_or_first (asked_of old))
  adopted_asks is = some_or_first (asked_of old) (was_asked (revision_of old) (asked_of old) p cases.Adopted is (λ w e. cc))

  pub adopted_delivers : (count : ℕ) → case_of (revision_of old) (asked_of old) p ≡ cases.Adopted → Adopts (revision_of_piece p) (asked_of old) old mid → AcceptsPiece p mid new count → DeliversKeeping old text (Took count) new
  adopted_delivers count is adopts takes =
      let a = asked_or_first (asked_of old) in
      let t : taken (holding old) (Ok p) ≡ take_by cases.Adopted (holding old) p = ap (λ k. take_by k (holding old) p) is in
      let e : Adopts (revision_of_piece p) (Some a) old mid = subst (λ o. Adopts (revision_of_piece p) o old mid) (adopted_asks is) adopts in
      begins_delivers law p text reads old mid new a (Took count) count
      (ap Took (takes.counted ∙ ap (λ x. stored_count p (asked_or_first x) (blocks_of mid)) e.asks ∙ ap (stored_count p a) e.blocks) ∙ ap (λ (x : Taken). x.says) (sym t))
      (ap (λ (x : Taken). x.leaves) t) (λ i. i)
      (λ some. none-some (revision_of_piece p) (sym (nothing_asked (revision_of old) (asked_of old) p is) ∙ some)) e takes

  pub adopted_stops : case_of (revision_of old) (asked_of old) p ≡ cases.Adopted → Adopts (revision_of_piece p) (asked_of old) old mid → StopsStoring p mid new → StopsDelivery old text new
  adopted_stops is adopts stops =
      let t : taken (holding old) (Ok p) ≡ take_by cases.Adopted (holding old) p = ap (λ k. take_by k (holding old) p) is in
      begins_stops law p text reads old mid new (asked_or_first (asked_of old)) cases.Adopted is refl (ap (λ (x : Taken). x.leaves) t) (λ i. subst (λ (x : Taken). IsIgnored x.says) t i)
      (λ some. none-some (revision_of_piece p) (sym (nothing_asked (revision_of old) (asked_of old) p is) ∙ some))
      (subst (λ o. Adopts (revision_of_piece p) o old mid) (adopted_asks is) adopts) stops

  pub restarted_delivers : (count : ℕ) → case_of (revision_of old) (asked_of old) p ≡ cases.Restarted → Adopts (revision_of_piece p) (Some first_span) old mid → AcceptsPiece p mid new count → DeliversKeeping old text Restarted new
  restarted_delivers count is adopts takes =
      let t : taken (holding old) (Ok p) ≡ take_by cases.Restarted (holding old) p = ap (λ k. take_by k (holding old) p) is in
      begins_delivers law p text reads old mid new first_span Restarted count (ap (λ (x : Taken). x.says) (sym t)) (ap (λ (x : Taken). x.leaves) t) (λ i. i)
      (λ some. other_tag (revision_of_piece p) (asked_of old) p (subst (λ v. case_of v (asked_of old) p ≡ cases.Restarted) some is) refl) adopts takes

  pub restarted_stops : case_of (revision_of old) (asked_of old) p ≡ cases.Restarted → Adopts (revision_of_piece p) (Some first_span) old mid → StopsStoring p mid new → StopsDelivery old text new
  restarted_stops is adopts stops =
      let t : taken (holding old) (Ok p) ≡ take_by cases.Restarted (holding old) p = ap (λ k. take_by k (holding old) p) is in
      begins_stops law p text reads old mid new first_span cases.Restarted is refl (ap (λ (x : Taken). x.leaves) t) (λ i. subst (λ (x : Taken). IsIgnored x.says) t i)
      (λ some. other_tag (revision_of_piece p) (asked_of old) p (subst (λ v. case_of v (asked_of old) p ≡ cases.Restarted) some is) refl) adopts stops

module _ (law : FrontsAreRead) (p : SeenPiece) (text : List ℕ) (reads : ReadsAnswer text (Ok p)) (old new : ClientState) where
  pub accepted_delivers : ((r : ReaderState) (f : List ℕ) → reader.ReaderAgrees r f → length f ≡ reader.file_length_of r) → (count : ℕ) → case_of (revision_of old) (asked_of old) p ≡ cases.Accepted → AcceptsPiece p old new count → DeliversKeeping old text (Took count) new
  accepted_delivers lengths count is takes =
      let before = same_revision (revision_of old) (asked_of old) p is in
      keeps_delivers law p text reads old new count is before (was_asked (revision_of old) (asked_of old) p cases.Accepted is (λ w e. cc))
      (known_length lengths old (revision_of_piece p) before) takes

  pub accepted_stops : ((r : ReaderState) (f : List ℕ) → reader.ReaderAgrees r f → length f ≡ reader.file_length_of r) → case_of (revision_of old) (asked_of old) p ≡ cases.Accepted
      → StopsStoring p old new → StopsDelivery old text new
  accepted_stops lengths is stops =
      let before = same_revision (revision_of old) (asked_of old) p is in
      keeps_stops law p text reads old new is before (known_length lengths old (revision_of_piece p) before) stops

-- A client in the midst of an answer agrees with a book of which what came of it is a piece.
use Rattle.std.proofs.Common.{◌≡◌, ℕ, ◌*◌, Bool, true, false, List, length, Option, Some, None, Ok, refl, sym, ap, ◌∙◌, subst, inl, inr}
use Rattle.std.specs.Prelude.{IfSome, IsSome, not, if◌then◌else◌, ◌==◌}
use Rattle.std.specs.Str.{bytes_eq}
use Rattle.std.proofs.lemmas.Bool.{eqb-true}
use Rattle.std.proofs.lemmas.Slice.Eq.{bytes_eq-Decides}
use Rattle.extents.specs.declared.span.Span.{Span}
use Rattle.extents.specs.declared.limits.TheConstants.{BLOCK_SIZE}
use Rattle.http_range.specs.Announced.{Announced, body_behind}
use Rattle.http_range.specs.Book.{Book, HasDistinctTags}
use Rattle.http_range.specs.Honest.{IsPieceOfBook, IsReadAs}
use Rattle.http_range.specs.Laws.{FrontsAreRead}
use Rattle.http_range.specs.Piece.{SeenPiece}
use Rattle.http_range.specs.Reading.{ReadsHead}
use Rattle.range_cache.specs.Laws.{FrontHolds}
use Rattle.range_cache.specs.Piece.{IsPieceOf}
use Rattle.range_cache.specs.Cache.{Blocks}
use Rattle.cog_client.specs.declared.case.Case.{Case}
use Rattle.cog_client.specs.declared.case.Case.TheVariants.{Ignored, Adopted, Restarted, Accepted}
use Rattle.cog_client.specs.declared.delivered.Ignored.TheVariants.{OtherRevision, OtherLength}
use Rattle.cog_client.specs.declared.revision_reader.RevisionReader.{RevisionReader}
use Rattle.cog_client.specs.Case.{Revision}
use Rattle.cog_client.specs.Client.{ClientAgrees, ClientState, IsAlone, IsClient, Knows, KnowsBy, MayKeep, asked_of, blocks_of, feed_of, name_of, revision_of}
use Rattle.cog_client.specs.Fed.{case_of_head, piece_with}
use Rattle.cog_client.specs.FedClient.{Begins, FedBody, FrontsKeepAgreement, case_for, revision_of_head}
use Rattle.cog_client.specs.AnswerPhase.{Feed}
use Rattle.cog_client.specs.Keeps.{StaysOf}
use Rattle.cog_client.specs.Steps.{Adopts}
use Rattle.cog_client.specs.Take.{brought_by}
use Rattle.cog_client.proofs.AcceptLemmas.{all_stored}
use Rattle.cog_client.proofs.ClientLemmas.{agrees_by, by_source, refed, stays_refed}
use Rattle.cog_client.proofs.DeliverLemmas.{begun_agrees, kept_agrees}
use Rattle.cog_client.proofs.StopLemmas.{begun_reads, stored_over}

-- what is kept of an answer says nothing of a file
refed_agrees : (s c : ClientState) (e : Feed) → c ≡ record s { feed = e } → (book : Book) → ClientAgrees s book → ClientAgrees c book
unfolding name_of revision_of
refed_agrees s c e same book agrees =
    subst (λ (x : ClientState). ClientAgrees x book) (sym same) (agrees_by s (record s { feed = e }) refl refl (refed s e) book agrees)

-- a head that is followed for the revision that is read is of that revision
head_revision : (v : Option Revision) (a : Option Span) (head : Announced) → case_of_head v a head ≡ Accepted → v ≡ Some (revision_of_head head)
head_revision v None head is = cc
head_revision None (Some s) head is = cc
head_revision (Some v) (Some s) head is =
    let both = tests (bytes_eq v.tag head.tag) (v.complete == head.complete) head.whole is in
    ap Some (ap (λ t. record { tag = t; complete = v.complete }) ((bytes_eq-Decides v.tag head.tag).0 both.0) ∙ ap (λ l. record { tag = head.tag; complete = l }) (eqb-true v.complete head.complete both.1))
  where
    tests : (tag length whole : Bool) → (if not tag then (if whole then Restarted else Ignored OtherRevision) else if not length then Ignored OtherLength else Accepted) ≡ Accepted → (tag ≡ true) × (length ≡ true)
    tests true true whole is = (refl, refl)
    tests true false whole is = cc
    tests false length true is = cc
    tests false length false is = cc

-- a client that reads a revision stays sound whatever blocks it has
fed_sound : (f : List ℕ) (mid c : ClientState) → c ≡ record mid { cache = blocks_of c; feed = feed_of c } → (blocks_of c).capacity ≡ mid.cache.capacity → IsSome (revision_of mid) → Knows f mid → IsClient c
unfolding revision_of Knows
fed_sound f mid c same room some knows =
    subst IsClient (sym same) (by_source (λ o. mid.source ≡ o → IfSome o (KnowsBy f mid) → IsClient (record mid { cache = blocks_of c; feed = feed_of c }))
    (λ (x : RevisionReader) is k. record {
      hosted = k.sound.hosted;
      named = k.sound.named;
      alone = subst (λ o. IsAlone o (blocks_of c) mid.report (feed_of c)) (sym is) tt;
      reading = k.sound.reading;
      tiles = subst (λ o. IfSome o (MayKeep (blocks_of c))) (sym is) ((subst (λ o. IfSome o (MayKeep mid.cache)) is k.sound.tiles) ∙ ap (λ (n : ℕ). n * BLOCK_SIZE) (sym room));
      buffer = k.sound.buffer;
      standing = k.sound.standing;
      few = k.sound.few;
    })
    mid.source some refl knows)

module _ (law : FrontsAreRead) (holds : FrontHolds) (s c : ClientState) (p : List ℕ) (head : Announced) (reads : ReadsHead p (Ok head)) (x : FedBody head s (body_behind head p) c) where
  abbrev piece : SeenPiece
  piece = piece_with head (body_behind head p)

  -- there may be as many blocks as before
  same_room : (blocks_of c).capacity ≡ x.mid.cache.capacity
  unfolding blocks_of
  same_room = ap (λ (b : Blocks). b.capacity) x.is.holds

  -- blocks of a file are stored over what is known of it
  keeps : IsSome (revision_of x.mid) → (f : List ℕ) → head.complete ≡ length f → IsPieceOf f head.first (body_behind head p) → Knows f x.mid → StaysOf f x.mid c
  keeps some f size of knows =
      (stored_over holds x.mid c x.same (fed_sound f x.mid c x.same same_room some knows) piece x.taken.span (length (brought_by piece x.taken.span)) some
      (x.is.holds ∙ sym (all_stored piece x.taken.span (blocks_of x.mid)))).file f size of knows

  name_is : name_of x.mid ≡ name_of s → name_of c ≡ name_of s
  unfolding name_of
  name_is same = ap name_of x.same ∙ same

  revision_is : revision_of c ≡ revision_of x.mid
  unfolding revision_of
  revision_is = ap revision_of x.same

  -- another revision is read from the head on
  adopts_agrees : (a : Option Span) → Adopts (revision_of_head head) a s x.mid → IsSome (revision_of x.mid) → (book : Book)
      → IsReadAs (IsPieceOfBook (name_of s) book) p → ClientAgrees c book
  adopts_agrees a b some book read =
      begun_agrees law piece p (Ok head, reads, refl) s x.mid c (name_is b.same.name) (revision_is ∙ b.revision) b.knows (keeps some) book read

  by_case : (k : Case) → case_for s head ≡ k → Begins k head s x.mid → (book : Book) → HasDistinctTags book → ClientAgrees s book
      → IsReadAs (IsPieceOfBook (name_of s) book) p → ClientAgrees c book
  unfolding name_of revision_of
  by_case (Ignored w) is b book distinct agrees read = absurd b
  by_case Adopted is b book distinct agrees read = adopts_agrees (asked_of s) b (begun_reads Adopted head s x.mid is b) book read
  by_case Restarted is b book distinct agrees read = adopts_agrees _ b (begun_reads Restarted head s x.mid is b) book read
  by_case Accepted is (e, same) book distinct agrees read =
      let before = head_revision (revision_of s) (asked_of s) head is in
      let some = begun_reads Accepted head s x.mid is (e, same) in
      kept_agrees law piece p (Ok head, reads, refl) s c (name_is (ap name_of same)) before (revision_is ∙ ap revision_of same ∙ before)
      (λ f size of knows. stays_refed s c e f (subst (λ (m : ClientState). StaysOf f m c) same
      (keeps some f size of (subst (Knows f) (sym same) (refed s e f knows)))))
      book distinct agrees read

pub fed_agrees : FrontsAreRead → FrontHolds → FrontsKeepAgreement
fed_agrees law holds s c p book (inl h) distinct agrees read = refed_agrees s c (feed_of c) h.same book agrees
fed_agrees law holds s c p book (inr (head, reads, inl x)) distinct agrees read = refed_agrees s c _ x.same book agrees
fed_agrees law holds s c p book (inr (head, reads, inr x)) distinct agrees read = by_case law holds s c p head reads x (case_for s head) refl x.begins book distinct agrees read

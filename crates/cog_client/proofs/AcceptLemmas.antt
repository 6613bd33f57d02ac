-- Taking a piece of the revision that is read.
use Rattle.std.proofs.Common.{◌≡◌, ℕ, List, length, Option, Some, None, sym, ap, ◌∙◌, subst, arith}
use Rattle.std.proofs.lemmas.List.{take_all}
use Rattle.extents.specs.declared.span.Span.{Span}
use Rattle.http_range.specs.Piece.{SeenPiece}
use Rattle.range_cache.specs.Cache.{Block, Blocks, stored}
use Rattle.cog_client.specs.declared.report.Report.{Report}
use Rattle.cog_client.specs.Take.{asked_or_first, brought_by, stored_count, stored_front, stored_of}
use Rattle.cog_client.specs.Client.{ClientState, asked_of, blocks_of, feed_of, report_of}
use Rattle.cog_client.specs.AnswerPhase.{TakesNoBody, nothing_fed}
use Rattle.cog_client.specs.Calls.{unless_reported}
use Rattle.cog_client.specs.Keeps.{GoesOnKeeping, Misses}
use Rattle.cog_reader.specs.Going.{AreSame}
use Rattle.cog_client.specs.Steps.{Stores, StopsStoring, AcceptsPiece}
use Rattle.cog_client.proofs.ClientLemmas.{same_trans, stays_trans}

-- the first of all of them are all of them
pub all_stored : (p : SeenPiece) (span : Span) (b : Blocks) → stored_front (length (brought_by p span)) p span b ≡ stored_of p span b
all_stored p span b =
    ap (λ (bs : List Block). record b { entries = stored b.capacity bs b.entries }) (take_all (length (brought_by p span)) (brought_by p span) (omega arith))

unreported : (r : Option Report) (a : Option Span) → r ≡ None → unless_reported r a ≡ a
unreported r a none = ap (λ o. unless_reported o a) none

pub span_is : (a : Option Span) (span : Span) → a ≡ Some span → span ≡ asked_or_first a
span_is a span is = sym (ap asked_or_first is)

pub accept_stops : (p : SeenPiece) (span : Span) (k : ℕ) (old mid new : ClientState) → asked_of old ≡ Some span → Stores p span k old mid → GoesOnKeeping mid new
    → asked_of new ≡ unless_reported (report_of new) (asked_of mid) → report_of new ≡ None → feed_of new ≡ nothing_fed → StopsStoring p old new
accept_stops p span k old mid new is s g asked none dropped = record {
  same = same_trans old mid new s.same g.seen.same;
  asked = asked ∙ unreported (report_of new) (asked_of mid) none ∙ s.asked;
  revision = g.seen.revision ∙ s.revision;
  report = none;
  feed = subst TakesNoBody (sym dropped) tt;
  blocks = (
    k,
    subst (λ b. AreSame b (blocks_of new)) (s.blocks ∙ ap (λ x. stored_front k p x (blocks_of old)) (span_is (asked_of old) span is)) g.seen.blocks,
  );
  file = λ f size piece knows. let first = s.file f size piece knows in stays_trans f old mid new s.same.query first (g.file f first.knows);
}

pub accept_goes : (p : SeenPiece) (span : Span) (count : ℕ) (o : Option Span) (old mid new : ClientState) → asked_of old ≡ Some span → Stores p span (length (brought_by p span)) old mid
    → count ≡ stored_count p span (blocks_of old) → GoesOnKeeping mid new → asked_of new ≡ unless_reported (report_of new) (asked_of mid) → Misses new o → feed_of new ≡ nothing_fed → AcceptsPiece p old new count
accept_goes p span count o old mid new is s counted g asked misses dropped = record {
  same = same_trans old mid new s.same g.seen.same;
  asked = asked ∙ ap (unless_reported (report_of new)) s.asked;
  revision = g.seen.revision ∙ s.revision;
  blocks = subst (λ b. AreSame b (blocks_of new))
      (s.blocks ∙ all_stored p span (blocks_of old) ∙ ap (λ x. stored_of p x (blocks_of old)) (span_is (asked_of old) span is)) g.seen.blocks;
  counted = counted ∙ ap (λ x. stored_count p x (blocks_of old)) (span_is (asked_of old) span is);
  feed = dropped;
  rests = (o, misses);
  file = λ f size piece knows. let first = s.file f size piece knows in stays_trans f old mid new s.same.query first (g.file f first.knows);
}

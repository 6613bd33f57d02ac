-- RequestOptions: what is asked for is no part of what is known.
use Rattle.std.proofs.Common.{◌≡◌, ℕ, List, Option, Some, None, true, false, refl, sym, ap, ◌∙◌, subst, arith, inl, inr}
use Rattle.std.specs.Prelude.{IfSome, IsSome, IsTrue, is_some}
use Rattle.std.proofs.lemmas.Option.{none-some}
use Rattle.std.proofs.lemmas.Bool.{false≢true}
use Rattle.tiff_dir.specs.declared.query.Query.{Query}
use Rattle.extents.specs.declared.span.Span.{Span}
use Rattle.extents.specs.Extent.{Extent}
use Rattle.http_range.specs.Ask.{CanAsk}
use Rattle.http_range.specs.Names.{is_host, is_name}
use Rattle.std.specs.Option.{option_map}
use Rattle.extents.specs.Block.{blocks}
use Rattle.range_cache.specs.Cache.{Blocks}
use Rattle.cog_client.specs.declared.request_options.RequestOptions.{RequestOptions}
use Rattle.cog_client.specs.declared.report.Report.{Report}
use Rattle.cog_client.specs.declared.revision_reader.RevisionReader.{RevisionReader}
use Rattle.cog_client.specs.Case.{Revision}
use Rattle.cog_client.specs.AnswerPhase.{Feed, TakesNoBody, nothing_fed}
use Rattle.cog_client.specs.Client.{ClientState, IsAlone, IsClient, IsFew, IsPlain, IsStanding, Knows, ahead_of, asked_of, blocks_of, feed_of, fields_of, host_of, how_of, name_of, query_of, report_of, revision_of, tag_of, to_come, unread}
use Rattle.cog_client.specs.Calls.{IsAsked, IsIdle, SameClient, request_for, unless_reported}
use Rattle.cog_client.specs.Keeps.{AsksFor, AsksLike, GoesOnKeeping, ComesFirst, Lacks, RequestsKeeping}
use Rattle.cog_reader.specs.Going.{AreTouched, IsMissing, IsMissingWithRoom}
use Rattle.cog_client.proofs.GoingLemmas.{end_refl, same_refl}
use Rattle.cog_client.proofs.ClientLemmas.{agrees_by, goes_by, goes_trans, known, rehowed}

pub few_missing : (b : Blocks) (complete : ℕ) (r : Extent) (ahead : ℕ) (span : Span) → IsMissing b complete r ahead span → IsFew span
few_missing b complete r ahead span m =
    let some = m.lacks.gap.some in
    let on = m.on in
    let few = m.few in
    let first = m.first ∙ m.lacks.first_is in
    let last = m.last in
    omega arith

-- ---- what is asked for changes nothing that is known

module _ (e e' : Feed) (how : RequestOptions) (h n : List ℕ) (q : Option Query) (a asked : Option Span) (b : Blocks) (r : Option Report) where
  reasked_knows : (s : Option RevisionReader) → IsClient (known e' how h n q asked s b r) → (f : List ℕ) → Knows f (known e how h n q a s b r) → Knows f (known e' how h n q asked s b r)
  unfolding Knows
  reasked_knows None c f k = tt
  reasked_knows (Some s) c f k = record { reader = k.reader; blocks = k.blocks; report = k.report; sound = c }

  pub reasked : (s : Option RevisionReader) → IsClient (known e' how h n q asked s b r) → GoesOnKeeping (known e how h n q a s b r) (known e' how h n q asked s b r)
  unfolding how_of host_of name_of query_of revision_of blocks_of to_come unread
  reasked s c =
      goes_by (known e how h n q a s b r) (known e' how h n q asked s b r) (record { host = refl; name = refl; query = refl; how = refl }) refl (same_refl b)
      (λ f k. record { knows = reasked_knows s c f k; come = end_refl (to_come (known e how h n q a s b r) f); held = λ x k is one. end_refl (unread (known e how h n q a s b r) f k) })

-- nothing is asked

standing_still : (q : Option Query) (a : Option Span) (r : Option Report) → IfSome r (IsStanding q a) → IfSome r (IsStanding q None)
standing_still q a None h = tt
standing_still q a (Some r) h = (h.0, refl)

-- and of an answer nothing is kept
pub alone_still : (s : Option RevisionReader) (b : Blocks) (r : Option Report) (e e' : Feed) → e' ≡ nothing_fed → IsAlone s b r e → IsAlone s b r e'
alone_still None b r e e' dropped alone = (alone.0, (alone.1.0, subst TakesNoBody (sym dropped) tt))
alone_still (Some s) b r e e' dropped alone = tt

module _ (e e' : Feed) (dropped : e' ≡ nothing_fed) (how : RequestOptions) (h n : List ℕ) (q : Option Query) (a : Option Span) (s : Option RevisionReader) (b : Blocks) (r : Option Report) where
  unasked_sound : IsClient (known e how h n q a s b r) → IsClient (known e' how h n q None s b r)
  unasked_sound c = record { hosted = c.hosted; named = c.named; alone = alone_still s b r e e' dropped c.alone; reading = c.reading; tiles = c.tiles; buffer = c.buffer; standing = standing_still q a r c.standing; few = tt }

  pub unasked : IsClient (known e how h n q a s b r) → GoesOnKeeping (known e how h n q a s b r) (known e' how h n q None s b r)
  unasked c = reasked e e' how h n q a None b r s (unasked_sound c)

pub none_asked : (r : Option Report) (a b : Option Span) → a ≡ unless_reported r b → b ≡ None → a ≡ None
none_asked None a b is none = is ∙ none
none_asked (Some r) a b is none = is

-- where a client asks, its request is for what is missing

same_text : (old new : ClientState) (span : Span) → how_of new ≡ how_of old → host_of new ≡ host_of old → name_of new ≡ name_of old → revision_of new ≡ revision_of old → request_for new (Some span) ≡ request_for old (Some span)
same_text old new span how host name revision = cc

same_lawful : (old new : ClientState) (span : Span) → how_of new ≡ how_of old → host_of new ≡ host_of old → name_of new ≡ name_of old → revision_of new ≡ revision_of old
    → CanAsk (host_of new) (name_of new) (fields_of new) span.first span.last (tag_of new)
    → CanAsk (host_of old) (name_of old) (fields_of old) span.first span.last (tag_of old)
same_lawful old new span how host name revision can =
    let tag : tag_of new ≡ tag_of old = ap (λ o. option_map (λ (v : Revision). v.tag) o) revision in
    subst (λ (w : RequestOptions). CanAsk (host_of old) (name_of old) w.fields span.first span.last (tag_of old)) how
    (subst (λ t. CanAsk (host_of old) (name_of old) (fields_of new) span.first span.last t) tag
    (subst (λ n. CanAsk (host_of old) n (fields_of new) span.first span.last (tag_of new)) name
    (subst (λ h. CanAsk h (name_of new) (fields_of new) span.first span.last (tag_of new)) host can)))

-- a plain client stays one
pub plain_as : (old new : ClientState) → SameClient old new → IsPlain old → IsPlain new
plain_as old new same plain = (
  subst (λ h. IsTrue (is_host h)) (sym same.host) plain.0,
  subst (λ n. IsTrue (is_name n)) (sym same.name) plain.1,
  ap (λ (w : RequestOptions). w.fields) same.how ∙ plain.2,
)

-- the range that is needed next, of what is known before
lacks_back : (old new : ClientState) (v : Revision) (ahead : ℕ) (span : Span) → blocks_of new ≡ blocks_of old → ((f : List ℕ) → Knows f new → Knows f old) → ((f : List ℕ) → to_come new f ≡ to_come old f)
    → Lacks old v ahead span → Lacks new v ahead span
lacks_back old new v ahead span blocks knows come l =
    let missing = subst (λ b. IsMissingWithRoom b v.complete l.range ahead span) (sym blocks) (l.missing, l.room) in
    record {
      range = l.range;
      next = λ f k. subst (ComesFirst l.range) (sym (come f)) (l.next f (knows f k));
      missing = missing.0;
      room = missing.1;
      needed = λ f k. subst (λ rs. AreTouched rs span) (sym (come f)) (l.needed f (knows f k));
    }

asks_back : (old new : ClientState) (v : Option Revision) (ahead : ℕ) (span : Span) → blocks_of new ≡ blocks_of old → ((f : List ℕ) → Knows f new → Knows f old) → ((f : List ℕ) → to_come new f ≡ to_come old f)
    → AsksFor old v ahead span → AsksFor new v ahead span
asks_back old new None ahead span blocks knows come asks = asks
asks_back old new (Some v) ahead span blocks knows come l = lacks_back old new v ahead span blocks knows come l

-- however it asks, this is what it lacks
pub asks_like : (c : ClientState) (how : RequestOptions) → AsksLike how c (record c { how = how })
unfolding how_of name_of revision_of blocks_of to_come
asks_like c how = record {
  seen = refl;
  knows = rehowed c how;
  come = λ f. refl;
  agrees = agrees_by c (record c { how = how }) refl refl (rehowed c how);
  asks = λ v ahead span. asks_back c (record c { how = how }) v ahead span refl (rehowed (record c { how = how }) (how_of c)) (λ f. refl);
}

-- what a caller sees of it
pub is_asked : (c : ClientState) (v : Option Revision) (ahead : ℕ) (span : Span) → AsksFor c v ahead span → IsAsked c v ahead span
is_asked c None ahead span asks = asks
is_asked c (Some v) ahead span l = (l.range, l.missing)

few_asked : (c : ClientState) (v : Option Revision) (ahead : ℕ) (span : Span) → AsksFor c v ahead span → IsFew span
few_asked c None ahead span is = let first = ap (λ (s : Span). s.first) is in let last = ap (λ (s : Span). s.last) is in omega arith
few_asked c (Some v) ahead span l = few_missing (blocks_of c) v.complete l.range ahead span l.missing

module _ (e : Feed) (how : RequestOptions) (h n : List ℕ) (q : Option Query) (a : Option Span) (s : Option RevisionReader) (b : Blocks) (r : Option Report) (span : Span) where
  -- the same client, before and after it asks for this
  abbrev pub mid : ClientState
  mid = known e how h n q a s b r

  abbrev pub new : ClientState
  new = known e how h n q (Some span) s b r

  pub asking_sound : IsClient mid → report_of mid ≡ None → AsksFor mid (revision_of mid) (ahead_of mid) span → IsClient new
  unfolding report_of
  asking_sound c none asks = record {
    hosted = c.hosted;
    named = c.named;
    alone = c.alone;
    reading = c.reading;
    tiles = c.tiles;
    buffer = c.buffer;
    standing = subst (λ o. IfSome o (IsStanding q (Some span))) (sym none) tt;
    few = few_asked mid (revision_of mid) (ahead_of mid) span asks;
  }

  pub requested : (old : ClientState) (text : List ℕ) → GoesOnKeeping old mid → IsClient mid → IsClient new → is_some (query_of old) ≡ true → is_some (report_of old) ≡ false → report_of mid ≡ None
      → feed_of mid ≡ nothing_fed → Some text ≡ request_for mid (Some span) → CanAsk (host_of mid) (name_of mid) (fields_of mid) span.first span.last (tag_of mid) → AsksFor mid (revision_of mid) (ahead_of mid) span → RequestsKeeping old (Some text) new
  unfolding how_of host_of name_of query_of asked_of revision_of report_of blocks_of feed_of to_come
  requested old text goes c d query quiet none dropped is can asks =
      let on = goes_trans old mid new goes (reasked e e how h n q a (Some span) b r s d) in
      let asking = asks_back mid new (revision_of mid) (ahead_of mid) span refl (λ f k. ((reasked e e how h n q (Some span) a b r s c).file f k).knows) (λ f. refl) asks in
      record {
        seen = record {
          goes = on.seen;
          text = is ∙ same_text old mid span goes.seen.same.how goes.seen.same.host goes.seen.same.name goes.seen.revision;
          asks = is_asked new (revision_of mid) (ahead_of mid) span asking;
          silent = λ none_is. absurd (none-some span (sym none_is));
          idle = λ idle. absurd (elim idle [
            | inl none_is ↦ false≢true (sym (ap is_some (sym goes.seen.same.query ∙ none_is)) ∙ query)
            | inr some ↦ false≢true (sym (ap is_some none) ∙ some)
          ]);
          report = λ some. absurd (false≢true (sym quiet ∙ some));
          feed = dropped;
        };
        lawful = same_lawful old mid span goes.seen.same.how goes.seen.same.host goes.seen.same.name goes.seen.revision can;
        goes = on;
        asks = asking;
      }

-- where nothing is to do, there is no request
-- a client that asks and has no report isn't idle
pub busy : (c : ClientState) → is_some (query_of c) ≡ true → is_some (report_of c) ≡ false → IsIdle c → ⊥
busy c asks quiet (inl none) = false≢true (sym (ap is_some none) ∙ asks)
busy c asks quiet (inr some) = false≢true (sym quiet ∙ some)

pub requests_none : (old new : ClientState) → GoesOnKeeping old new → asked_of new ≡ None → IsIdle new → (IsSome (report_of old) → report_of new ≡ report_of old)
    → feed_of new ≡ nothing_fed → RequestsKeeping old None new
requests_none old new goes none idle report dropped = record {
  seen = record {
    goes = goes.seen;
    text = sym (ap (request_for old) none);
    asks = subst (λ a. IfSome a (IsAsked new (revision_of new) (ahead_of new))) (sym none) tt;
    silent = λ _. idle;
    idle = λ _. none;
    report = report;
    feed = dropped;
  };
  lawful = subst (λ a. IfSome a (λ s. CanAsk (host_of old) (name_of old) (fields_of old) s.first s.last (tag_of old))) (sym none) tt;
  goes = goes;
  asks = subst (λ a. IfSome a (AsksFor new (revision_of new) (ahead_of new))) (sym none) tt;
}

pub none_of : {A : Type 0} (o : Option A) → is_some o ≡ false → o ≡ None
none_of None h = refl
none_of (Some a) h = cc

-- what is kept of an answer is dropped
pub cleared : (e e' : Feed) (how : RequestOptions) (h n : List ℕ) (q : Option Query) (a : Option Span) (s : Option RevisionReader) (b : Blocks) (r : Option Report) → e' ≡ nothing_fed
    → IsClient (known e how h n q a s b r) → IsClient (known e' how h n q a s b r)
cleared e e' how h n q a s b r dropped c = record {
  hosted = c.hosted;
  named = c.named;
  alone = alone_still s b r e e' dropped c.alone;
  reading = c.reading;
  tiles = c.tiles;
  buffer = c.buffer;
  standing = c.standing;
  few = c.few;
}

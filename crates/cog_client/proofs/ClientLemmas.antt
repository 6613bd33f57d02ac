-- What the steps of a client keep.
use Rattle.std.proofs.Common.{◌≡◌, ℕ, ◌*◌, ◌≤◌, List, [], length, Option, Some, None, refl, sym, ap, ◌∙◌, subst}
use Rattle.std.proofs.lemmas.Bool.{false≢true}
use Rattle.std.specs.Prelude.{IfSome, IsSome, IsSomeAnd, is_some, if◌then◌else◌}
use Rattle.std.specs.Global.{Vec}
use Rattle.std.specs.Option.{option_map, option_map_or}
use Rattle.tiff_dir.specs.declared.query.Query.{Query}
use Rattle.extents.specs.declared.span.Span.{Span}
use Rattle.extents.specs.declared.limits.TheConstants.{BLOCK_SIZE, MAX_RANGE_BYTES}
use Rattle.tiff_dir.specs.Needs.{IsEndOf}
use Rattle.tiff_dir.specs.Query.{needs}
use Rattle.http_range.specs.Book.{Book}
use Rattle.http_range.specs.Piece.{SeenPiece}
use Rattle.range_cache.specs.Cache.{Blocks, Holds}
use Rattle.range_cache.specs.Laws.{FrontHolds}
use Rattle.cog_reader.specs.Outcome.{IsTrueOf}
use Rattle.cog_reader.specs.Reader as reader
use Rattle.cog_reader.specs.Reader.{ReaderState}
use Rattle.tile_plan.specs.TileCache.{KeptTiles}
use Rattle.cog_client.specs.declared.request_options.RequestOptions.{RequestOptions}
use Rattle.cog_client.specs.declared.report.Report.{Report}
use Rattle.cog_client.specs.declared.revision_reader.RevisionReader.{RevisionReader}
use Rattle.cog_client.specs.Case.{Revision}
use Rattle.cog_client.specs.Take.{emptied, stored_front}
use Rattle.cog_client.specs.AnswerPhase.{Feed, nothing_fed}
use Rattle.cog_client.specs.Client.{ClientAgrees, ClientState, IsAlone, IsClient, IsFew, IsReadingOf, IsReportOf, KeepsOneRange, Knows, KnowsBy, KnowsOne, MayKeep, asked_of, blocks_of, feed_of, host_of, how_of, name_of, query_of, report_of, revision_in, revision_of, tag_of, to_come, unread}
use Rattle.cog_client.specs.Calls.{SameClient}
use Rattle.cog_client.specs.Keeps.{GoesOnKeeping, OpensKeeping, StaysOf}
use Rattle.cog_reader.specs.Going as going
use Rattle.cog_reader.specs.Going.{work}
use Rattle.cog_client.specs.Steps.{Adopts, Concludes, Stores}
use Rattle.cog_client.proofs.GoingLemmas.{end_nil, end_refl, end_trans, same_refl, same_trans as blocks_trans}

abbrev pub known : Feed → RequestOptions → List ℕ → List ℕ → Option Query → Option Span → Option RevisionReader → Blocks → Option Report → ClientState
known e how h n q a s b r = record { how = how; host = h; name = n; query = q; asked = a; source = s; cache = b; report = r; feed = e }

pub known_is : (e : Feed) (how : RequestOptions) (h n : List ℕ) (q q' : Option Query) (a : Option Span) (s s' : Option RevisionReader) (b : Blocks) (r r' : Option Report) → q ≡ q' → s ≡ s' → r ≡ r' → known e how h n q a s b r ≡ known e how h n q' a s' b r'
known_is e how h n q q' a s s' b r r' query source report =
    ap (λ x. known e how h n x a s b r) query ∙ ap (λ x. known e how h n q' a x b r) source ∙ ap (known e how h n q' a s' b) report

-- a client with a revision reads something
pub by_source : (P : Option RevisionReader → Type 0) → ((s : RevisionReader) → P (Some s)) → (o : Option RevisionReader) → IsSome (option_map revision_in o) → P o
by_source P h None none = absurd (false≢true none)
by_source P h (Some s) some = h s

-- the tag is that of what is read
pub tag_is : (c : ClientState) (s : RevisionReader) → c.source ≡ Some s → tag_of c ≡ Some s.tag
unfolding revision_of
tag_is c s is = ap (λ o. option_map (λ (v : Revision). v.tag) (option_map revision_in o)) is

-- ---- agreement goes by files

pub some_knows : (f : List ℕ) (c : ClientState) (s : RevisionReader) → c.source ≡ Some s → Knows f c → KnowsBy f c s
unfolding Knows
some_knows f c s is k = subst (λ o. IfSome o (KnowsBy f c)) is k

pub knows_some : (f : List ℕ) (c : ClientState) (s : RevisionReader) → c.source ≡ Some s → KnowsBy f c s → Knows f c
unfolding Knows
knows_some f c s is k = subst (λ o. IfSome o (KnowsBy f c)) (sym is) k

agrees_as : (v : Option Revision) (old new : ClientState) (book : Book) → name_of new ≡ name_of old → ((f : List ℕ) → Knows f old → Knows f new)
    → IfSome v (KnowsOne old book) → IfSome v (KnowsOne new book)
agrees_as None old new book name knows k = tt
agrees_as (Some v) old new book name knows k = record {
  source = k.source;
  published = k.published;
  of_name = k.of_name ∙ sym name;
  of_tag = k.of_tag;
  knows = knows k.source.file k.knows;
}

pub agrees_by : (old new : ClientState) → name_of new ≡ name_of old → revision_of new ≡ revision_of old → ((f : List ℕ) → Knows f old → Knows f new)
    → (book : Book) → ClientAgrees old book → ClientAgrees new book
unfolding ClientAgrees
agrees_by old new name revision knows book agrees =
    subst (λ v. IfSome v (KnowsOne new book)) (sym revision) (agrees_as (revision_of old) old new book name knows agrees)

pub goes_by : (old new : ClientState) → SameClient old new → revision_of new ≡ revision_of old → going.AreSame (blocks_of old) (blocks_of new)
    → ((f : List ℕ) → Knows f old → StaysOf f old new) → GoesOnKeeping old new
goes_by old new same revision blocks file = record {
  seen = record { same = same; revision = revision; blocks = blocks };
  file = file;
  agrees = agrees_by old new same.name revision (λ f k. (file f k).knows);
}

-- ---- the blocks of a piece are stored

module _ (e e' : Feed) (how : RequestOptions) (h n : List ℕ) (q : Option Query) (a : Option Span) (s : RevisionReader) (b : Blocks) (r : Option Report) where
  pub stores_front : (new : Blocks) (p : SeenPiece) (span : Span) (k : ℕ) → FrontHolds → IsClient (known e' how h n q a (Some s) new r)
      → new ≡ stored_front k p span b → Stores p span k (known e how h n q a (Some s) b r) (known e' how h n q a (Some s) new r)
  unfolding how_of host_of name_of query_of asked_of revision_of report_of blocks_of to_come unread Knows
  stores_front new p span k law c is = record {
    same = record { host = refl; name = refl; query = refl; how = refl };
    asked = refl;
    revision = refl;
    report = refl;
    blocks = is;
    file = λ f size piece knows. record {
      knows = record {
        reader = knows.reader;
        blocks = subst (Holds f) (sym is) (law f b p.complete p.first p.body span k size piece knows.blocks);
        report = knows.report;
        sound = c;
      };
      come = end_refl (reader.to_come s.reader f);
      held = λ asked x is one. end_refl (reader.unread s.reader f x);
    };
  }

module _ (e : Feed) (how : RequestOptions) (h n : List ℕ) (q : Option Query) (a : Option Span) (s : RevisionReader) (b : Blocks) (r : Option Report) where
  -- ---- going on

  pub gone_sound : (s' : RevisionReader) (new : Blocks) → s'.complete ≡ s.complete → KeepsOneRange s' → IsClient (known e how h n q a (Some s) b r)
      → going.ReaderGoesOn (work s.reader b) (work s'.reader new) → IsClient (known e how h n q a (Some s') new r)
  gone_sound s' new complete buffer c goes = record {
    hosted = c.hosted;
    named = c.named;
    alone = tt;
    reading = (complete ∙ c.reading.0 ∙ sym goes.file_length, goes.query ∙ c.reading.1);
    tiles = goes.most ∙ c.tiles ∙ ap (λ (n : ℕ). n * BLOCK_SIZE) (sym goes.blocks.capacity);
    buffer = buffer;
    standing = c.standing;
    few = c.few;
  }

  gone_report : (f : List ℕ) (s' : RevisionReader) (o : Option Report) → s'.tag ≡ s.tag → IfSome o (IsReportOf f s) → IfSome o (IsReportOf f s')
  gone_report f s' None tag h = tt
  gone_report f s' (Some x) tag h = (h.0 ∙ sym tag, h.1)

  -- the reader is asked what the client is
  reading_of : IsClient (known e how h n q a (Some s) b r) → r ≡ None → reader.query_of s.reader ≡ q
  reading_of c quiet = c.reading.1 ∙ ap (λ o. if is_some o then None else q) quiet

  pub gone : (s' : RevisionReader) (new : Blocks) → r ≡ None → s'.tag ≡ s.tag → s'.complete ≡ s.complete → KeepsOneRange s' → IsClient (known e how h n q a (Some s) b r)
      → going.ReaderGoesOn (work s.reader b) (work s'.reader new) → GoesOnKeeping (known e how h n q a (Some s) b r) (known e how h n q a (Some s') new r)
  unfolding how_of host_of name_of query_of revision_of blocks_of to_come unread Knows
  gone s' new quiet tag complete buffer c goes =
      goes_by (known e how h n q a (Some s) b r) (known e how h n q a (Some s') new r) (record { host = refl; name = refl; query = refl; how = refl })
      (ap Some (ap (λ t. record { tag = t; complete = s'.complete }) tag ∙ ap (λ l. record { tag = s.tag; complete = l }) complete)) goes.blocks
      (λ f knows.
      let w = goes.file f knows.reader knows.blocks in
      record {
        knows = record { reader = w.reader; blocks = w.cache; report = gone_report f s' r tag knows.report; sound = gone_sound s' new complete buffer c goes };
        come = w.come;
        held = λ asked x is one. w.held asked x (reading_of c quiet ∙ is) one;
      })

-- ---- a report that stands from now on

module _ (e : Feed) (how : RequestOptions) (h n : List ℕ) (q : Query) (a : Option Span) (s s' : RevisionReader) (b : Blocks) where
  pub concluded_sound : (x : Report) → IsClient (known e how h n (Some q) a (Some s) b None) → Concludes q s (Some x) s' → IsClient (known e how h n (Some q) None (Some s') b (Some x))
  concluded_sound x c d = record {
    hosted = c.hosted;
    named = c.named;
    alone = tt;
    reading = (d.complete ∙ c.reading.0 ∙ sym d.length, d.unasked refl);
    tiles = ap (λ (t : KeptTiles). t.most) d.tiles ∙ c.tiles;
    buffer = subst (λ (v : Vec ℕ). length v.items ≤ MAX_RANGE_BYTES) (sym d.buffer) c.buffer;
    standing = (ap Some d.report.0, refl);
    few = tt;
  }

  concluded_true : (f : List ℕ) (x : Report) → IsClient (known e how h n (Some q) a (Some s) b None) → Concludes q s (Some x) s' → reader.ReaderAgrees s.reader f → IsReportOf f s' x
  concluded_true f x c d agrees =
      let of : IsTrueOf f q x.outcome = subst (λ o. IsSomeAnd o (λ k. IsTrueOf f k x.outcome)) c.reading.1 (d.true_of f agrees) in
      (d.report.1 ∙ sym d.tag, subst (λ k. IsTrueOf f k x.outcome) d.report.0 of)

  pub concluded : (x : Report) → ((r : ReaderState) (f : List ℕ) → reader.query_of r ≡ None → reader.to_come r f ≡ []) → IsClient (known e how h n (Some q) a (Some s) b None) → Concludes q s (Some x) s'
      → GoesOnKeeping (known e how h n (Some q) a (Some s) b None) (known e how h n (Some q) None (Some s') b (Some x))
  unfolding how_of host_of name_of query_of revision_of blocks_of to_come unread Knows
  concluded x none c d =
      goes_by (known e how h n (Some q) a (Some s) b None) (known e how h n (Some q) None (Some s') b (Some x)) (record { host = refl; name = refl; query = refl; how = refl })
      (ap Some (ap (λ t. record { tag = t; complete = s'.complete }) d.tag ∙ ap (λ l. record { tag = s.tag; complete = l }) d.complete)) (same_refl b)
      (λ f knows. record {
        knows = record { reader = d.agrees f knows.reader; blocks = knows.blocks; report = concluded_true f x c d knows.reader; sound = concluded_sound x c d };
        come = subst (λ rs. IsEndOf rs (reader.to_come s.reader f)) (sym (none s'.reader f (d.unasked refl))) (end_nil (reader.to_come s.reader f));
        held = λ asked x is one. subst (λ rs. IsEndOf rs (reader.unread s.reader f x)) (sym (d.held f x)) (end_refl (reader.unread s.reader f x));
      })

pub goes_refl : (c : ClientState) → GoesOnKeeping c c
goes_refl c =
    goes_by c c (record { host = refl; name = refl; query = refl; how = refl }) refl (same_refl (blocks_of c)) (λ f knows. record { knows = knows; come = end_refl (to_come c f); held = λ asked q is one. end_refl (unread c f q) })

pub same_trans : (a b c : ClientState) → SameClient a b → SameClient b c → SameClient a c
same_trans a b c h k = record { host = k.host ∙ h.host; name = k.name ∙ h.name; query = k.query ∙ h.query; how = k.how ∙ h.how }

pub stays_trans : (f : List ℕ) (a b c : ClientState) → query_of b ≡ query_of a → StaysOf f a b → StaysOf f b c → StaysOf f a c
stays_trans f a b c same h k = record {
  knows = k.knows;
  come = end_trans (to_come a f) (to_come b f) (to_come c f) h.come k.come;
  held = λ asked q is one. end_trans (unread a f q) (unread b f q) (unread c f q) (h.held asked q is one) (k.held asked q (same ∙ is) one);
}

pub goes_trans : (a b c : ClientState) → GoesOnKeeping a b → GoesOnKeeping b c → GoesOnKeeping a c
goes_trans a b c h k = record {
  seen = record {
    same = same_trans a b c h.seen.same k.seen.same;
    revision = k.seen.revision ∙ h.seen.revision;
    blocks = blocks_trans (blocks_of a) (blocks_of b) (blocks_of c) h.seen.blocks k.seen.blocks;
  };
  file = λ f knows. let first = h.file f knows in stays_trans f a b c h.seen.same.query first (k.file f first.knows);
  agrees = λ book agrees. k.agrees book (h.agrees book agrees);
}

-- ---- a query is asked

abbrev pub EndsAreWanted : Type 0
EndsAreWanted = (r : ReaderState) (f : List ℕ) → reader.ReaderAgrees r f → IfSome (reader.query_of r) (λ q. IsEndOf (reader.to_come r f) (needs f q))

module _ (e e' : Feed) (dropped : e' ≡ nothing_fed) (how : RequestOptions) (h n : List ℕ) (q : Option Query) (a : Option Span) (b : Blocks) (r : Option Report) (query : Query) where
  pub opened_alone : OpensKeeping query (known e how h n q a None b r) (known e' how h n (Some query) None None b None)
  unfolding how_of host_of name_of query_of asked_of revision_of report_of blocks_of feed_of to_come unread Knows ClientAgrees
  opened_alone = record {
    seen = (refl, ap (λ k. known k how h n (Some query) None None b None) dropped);
    knows = λ f k. tt;
    come = λ f k. end_nil (needs f query);
    held = λ f. refl;
    kept = λ f q. refl;
    agrees = λ book k. tt;
  }

  opened_sound : (s : RevisionReader) (x : ReaderState) → reader.file_length_of x ≡ reader.file_length_of s.reader → reader.query_of x ≡ Some query → reader.tiles_of x ≡ reader.tiles_of s.reader → IsClient (known e how h n q a (Some s) b r)
      → IsClient (known e' how h n (Some query) None (Some (record s { reader = x })) b None)
  opened_sound s x complete asks tiles c = record {
    hosted = c.hosted;
    named = c.named;
    alone = tt;
    reading = (c.reading.0 ∙ sym complete, asks);
    tiles = ap (λ (t : KeptTiles). t.most) tiles ∙ c.tiles;
    buffer = c.buffer;
    standing = tt;
    few = tt;
  }

  pub opened : (s : RevisionReader) (x : ReaderState) → EndsAreWanted → reader.file_length_of x ≡ reader.file_length_of s.reader → reader.query_of x ≡ Some query → reader.tiles_of x ≡ reader.tiles_of s.reader
      → ((f : List ℕ) → reader.ReaderAgrees s.reader f → reader.ReaderAgrees x f) → ((f : List ℕ) → reader.to_come x f ≡ reader.unread s.reader f query)
      → ((f : List ℕ) (k : Query) → reader.unread x f k ≡ reader.unread s.reader f k) → IsClient (known e how h n q a (Some s) b r)
      → OpensKeeping query (known e how h n q a (Some s) b r) (known e' how h n (Some query) None (Some (record s { reader = x })) b None)
  unfolding how_of host_of name_of query_of asked_of revision_of report_of blocks_of feed_of to_come unread Knows
  opened s x law complete asks tiles agrees held kept c =
      let knows : (f : List ℕ) → Knows f (known e how h n q a (Some s) b r) → Knows f (known e' how h n (Some query) None (Some (record s { reader = x })) b None) =
      λ f k. record { reader = agrees f k.reader; blocks = k.blocks; report = tt; sound = opened_sound s x complete asks tiles c } in
      record {
        seen = (refl, ap (λ k. known k how h n (Some query) None (Some (record s { reader = x })) b None) dropped);
        knows = knows;
        come = λ f k. subst (λ o. IfSome o (λ q. IsEndOf (reader.to_come x f) (needs f q))) asks (law x f (agrees f k.reader));
        held = held;
        kept = kept;
        agrees = agrees_by (known e how h n q a (Some s) b r) (known e' how h n (Some query) None (Some (record s { reader = x })) b None) refl refl knows;
      }

-- ---- a revision is adopted

module _ (e : Feed) (how : RequestOptions) (h n : List ℕ) (q : Option Query) (a asked : Option Span) (before : Option RevisionReader) (s : RevisionReader) (b new : Blocks) where
  pub adopted : (p : Revision) → s.tag ≡ p.tag → s.complete ≡ p.complete → new ≡ emptied b → ((f : List ℕ) → Holds f new)
      → ((f : List ℕ) → length f ≡ p.complete → reader.ReaderAgrees s.reader f) → reader.file_length_of s.reader ≡ p.complete → reader.query_of s.reader ≡ q → MayKeep new s → KeepsOneRange s
      → IfSome asked IsFew → IsClient (known e how h n q a before b None) → Adopts p asked (known e how h n q a before b None) (known e how h n q asked (Some s) new None)
  unfolding how_of host_of name_of query_of asked_of revision_of report_of blocks_of Knows
  adopted p tag complete empty holds agrees size query tiles buffer few c = record {
    same = record { host = refl; name = refl; query = refl; how = refl };
    asks = refl;
    revision = ap Some (ap (λ t. record { tag = t; complete = s.complete }) tag ∙ ap (λ l. record { tag = p.tag; complete = l }) complete);
    blocks = empty;
    report = refl;
    knows = λ f long. record {
      reader = agrees f long;
      blocks = holds f;
      report = tt;
      sound = record { hosted = c.hosted; named = c.named; alone = tt; reading = (complete ∙ sym size, query); tiles = tiles; buffer = buffer; standing = tt; few = few };
    };
  }

-- ---- what is still to come

comes_by : (f : List ℕ) (c : ClientState) (s : RevisionReader) → EndsAreWanted → ((r : ReaderState) (g : List ℕ) → reader.query_of r ≡ None → reader.to_come r g ≡ [])
    → (q : Query) → c.query ≡ Some q → (r : Option Report) → c.report ≡ r → reader.ReaderAgrees s.reader f → IsReadingOf c.query c.report s → IsEndOf (reader.to_come s.reader f) (needs f q)
comes_by f c s ends none q asks None silent agrees reading =
    let is : reader.query_of s.reader ≡ Some q = reading.1 ∙ ap (λ o. if is_some o then None else c.query) silent ∙ asks in
    subst (λ o. IfSome o (λ q. IsEndOf (reader.to_come s.reader f) (needs f q))) is (ends s.reader f agrees)
comes_by f c s ends none q asks (Some r) stands agrees reading =
    let is : reader.query_of s.reader ≡ None = reading.1 ∙ ap (λ o. if is_some o then None else c.query) stands in
    subst (λ rs. IsEndOf rs (needs f q)) (sym (none s.reader f is)) (end_nil (needs f q))

pub comes : EndsAreWanted → ((r : ReaderState) (g : List ℕ) → reader.query_of r ≡ None → reader.to_come r g ≡ [])
    → (c : ClientState) (f : List ℕ) → Knows f c → IfSome (query_of c) (λ q. IsEndOf (to_come c f) (needs f q))
unfolding query_of to_come Knows
comes ends none c f knows = asked c.query refl
  where
    read : (q : Query) → c.query ≡ Some q → (o : Option RevisionReader) → c.source ≡ o → IfSome o (KnowsBy f c) → IsEndOf (option_map_or (λ (s : RevisionReader). reader.to_come s.reader f) o []) (needs f q)
    read q asks None e k = end_nil (needs f q)
    read q asks (Some s) e k = comes_by f c s ends none q asks c.report refl k.reader (subst (λ o. IfSome o (IsReadingOf c.query c.report)) e k.sound.reading)

    asked : (o : Option Query) → c.query ≡ o → IfSome o (λ q. IsEndOf (to_come c f) (needs f q))
    asked None e = tt
    asked (Some q) e = read q e c.source refl knows

-- ---- what is kept of an answer is no part of what is known

pub refed : (c : ClientState) (e : Feed) (f : List ℕ) → Knows f c → Knows f (record c { feed = e })
unfolding Knows
refed c e f knows = at c.source refl knows
  where
    at : (o : Option RevisionReader) → c.source ≡ o → IfSome o (KnowsBy f c) → IfSome o (KnowsBy f (record c { feed = e }))
    at None is k = tt
    at (Some s) is k = record {
      reader = k.reader;
      blocks = k.blocks;
      report = k.report;
      sound = record {
        hosted = k.sound.hosted;
        named = k.sound.named;
        alone = subst (λ o. IsAlone o c.cache c.report e) (sym is) tt;
        reading = k.sound.reading;
        tiles = k.sound.tiles;
        buffer = k.sound.buffer;
        standing = k.sound.standing;
        few = k.sound.few;
      };
    }

-- nor is how the client asks

pub rehow_sound : (c : ClientState) (how : RequestOptions) → IsClient c → IsClient (record c { how = how })
rehow_sound c how s = record { hosted = s.hosted; named = s.named; alone = s.alone; reading = s.reading; tiles = s.tiles; buffer = s.buffer; standing = s.standing; few = s.few }

pub rehowed : (c : ClientState) (how : RequestOptions) (f : List ℕ) → Knows f c → Knows f (record c { how = how })
unfolding Knows
rehowed c how f knows = at c.source refl knows
  where
    at : (o : Option RevisionReader) → c.source ≡ o → IfSome o (KnowsBy f c) → IfSome o (KnowsBy f (record c { how = how }))
    at None is k = tt
    at (Some s) is k = record {
      reader = k.reader;
      blocks = k.blocks;
      report = k.report;
      sound = rehow_sound c how k.sound;
    }

pub stays_refed : (s new : ClientState) (e : Feed) (f : List ℕ) → StaysOf f (record s { feed = e }) new → StaysOf f s new
unfolding query_of to_come unread
stays_refed s new e f st = record { knows = st.knows; come = st.come; held = st.held }

-- What a client asks for early.
use Rattle.std.proofs.Common.{◌≡◌, ◌⊎◌, ℕ, ◌+◌, ◌-◌, ◌*◌, ◌<◌, ◌≤◌, List, [], ◌∷◌, ◌++◌, false, true, Option, Some, None, IfSome, Vec, Global, get_or, length, take, map, inl, inr, sym, ap, ◌∙◌, subst, arith}
use Rattle.std.specs.List.{All, AllZip}
use Rattle.std.proofs.lemmas.Bool.{false≢true}
use Rattle.std.proofs.lemmas.List.{map-append, take_all, take_more}
use Rattle.std.proofs.lemmas.Slice.Zip.{all_zipped_more}
use Rattle.tiff_dir.specs.declared.query.Query.{Query}
use Rattle.extents.specs.declared.span.Span.{Span}
use Rattle.extents.specs.declared.limits.TheConstants.{BLOCK_SIZE}
use Rattle.extents.specs.Block.{end_of}
use Rattle.range_cache.specs.Cache.{Blocks}
use Rattle.cog_reader.specs.Reader.{file_length_of}
use Rattle.cog_reader.specs.Going.{CachedReader, work}
use Rattle.cog_reader.specs.Early as reading
use Rattle.cog_client.specs.declared.request_options.RequestOptions.{RequestOptions}
use Rattle.cog_client.specs.declared.report.Report.{Report}
use Rattle.cog_client.specs.declared.revision_reader.RevisionReader.{RevisionReader}
use Rattle.cog_client.specs.AnswerPhase.{Feed}
use Rattle.cog_client.specs.Client.{ClientState, Knows, asked_of, blocks_of, how_of, reader_of, revision_of, to_come}
use Rattle.cog_client.specs.Early.{AreAllInReach, AreEarly, AsksNothingEarly, IsEarly, IsNeededEarly, IsRequestFor, LeaveNothing, LeaveNothingInReach}
use Rattle.cog_client.proofs.ClientLemmas.{known}

module _ (e : Feed) (how : RequestOptions) (h n : List ℕ) (q : Option Query) (asked : Span) (s : RevisionReader) (b : Blocks) (r : Option Report) (long : file_length_of s.reader ≡ s.complete) where
  early_span : (span : Span) → reading.IsEarly (work s.reader b) how.ahead asked span → IsNeededEarly (known e how h n q (Some asked) (Some s) b r) s.complete asked span
  unfolding blocks_of how_of to_come Knows
  early_span span i =
      let l = i.blocks in
      record {
        from = i.from;
        to = i.to;
        some = l.some;
        few = l.few;
        inside = subst (λ (n : ℕ). i.to * BLOCK_SIZE < n + BLOCK_SIZE) long l.inside;
        first = i.first;
        last = i.last ∙ ap (λ (n : ℕ). end_of n (i.to - 1)) long;
        behind = i.behind;
        gone = l.gone;
        needed = λ f knows. l.needed f knows.reader;
        range = l.range;
        place = l.index;
        comes = λ f knows. l.comes f knows.reader;
        run = l.run;
      }

  pub early_spans : (spans : List Span) → All (reading.IsEarly (work s.reader b) how.ahead asked) spans → All (IsEarly (known e how h n q (Some asked) (Some s) b r)) spans
  unfolding asked_of revision_of
  early_spans spans all k d lt = early_span _ (all k d lt)

  pub nothing_left : (spans : List Span) → All (reading.LeavesNothing (work s.reader b) asked spans) spans → LeaveNothing (known e how h n q (Some asked) (Some s) b r) spans
  unfolding asked_of reader_of
  nothing_left spans all = all

  pub nothing_in_reach_left : (spans : List Span) → reading.LeavesNothingInReach (work s.reader b) asked spans → LeaveNothingInReach (known e how h n q (Some asked) (Some s) b r) spans
  unfolding asked_of reader_of
  nothing_in_reach_left spans all = all

-- before no spans nothing is left out
pub none_left : (c : ClientState) → LeaveNothing c []
none_left c = at (reader_of c) (asked_of c)
  where
    at : (w : Option CachedReader) (a : Option Span) → IfSome w (λ w. IfSome a (λ asked. All (reading.LeavesNothing w asked []) []))
    at None a = tt
    at (Some w) None = tt
    at (Some w) (Some asked) = λ k d less. absurd (omega (arith, less))

-- It keeps its connections, and looks ahead.
pub asks_early : (e : Feed) (how : RequestOptions) (h n : List ℕ) (q : Option Query) (asked : Option Span) (s : Option RevisionReader) (b : Blocks) (r : Option Report)
    → how.closes ≡ false → (how.ahead ≡ 0 → ⊥) → AsksNothingEarly (known e how h n q asked s b r) → ⊥
unfolding how_of
asks_early e how h n q asked s b r keeps ahead nothing = elim nothing [ inl closes ↦ false≢true (sym keeps ∙ closes) | inr near ↦ ahead near ]

-- It closes its connections, or looks no block ahead.
pub asks_none : (e : Feed) (how : RequestOptions) (h n : List ℕ) (q : Option Query) (asked : Option Span) (s : Option RevisionReader) (b : Blocks) (r : Option Report)
    → (how.closes ≡ true) ⊎ (how.ahead ≡ 0) → AsksNothingEarly (known e how h n q asked s b r)
unfolding how_of
asks_none e how h n q asked s b r nothing = nothing

-- the texts of these
abbrev pub texts_of : List (Vec ℕ Global) → List (List ℕ)
texts_of texts = map (λ (text : Vec ℕ Global). text.items) texts

-- a request for the next span
pub one_more : (c : ClientState) (spans : List Span) (old new : List (Vec ℕ Global)) (at : ℕ) (span : Span) (text : Vec ℕ Global)
    → new ≡ old ++ text ∷ [] → at < length spans → span ≡ get_or spans at span → AllZip (IsRequestFor c) (take at spans) (texts_of old)
    → IsRequestFor c span text.items → AllZip (IsRequestFor c) (take (at + 1) spans) (texts_of new)
one_more c spans old new at span text pushed below is before asks =
    let R = IsRequestFor c in
    let more : take (at + 1) spans ≡ take at spans ++ span ∷ [] = take_more spans at span below ∙ ap (λ (s : Span). take at spans ++ s ∷ []) (sym is) in
    let last : texts_of new ≡ texts_of old ++ text.items ∷ [] = ap texts_of pushed ∙ map-append (λ (t : Vec ℕ Global). t.items) old (text ∷ []) in
    subst (λ (xs : List Span). AllZip R xs (texts_of new)) (sym more)
    (subst (λ (ys : List (List ℕ)). AllZip R (take at spans ++ span ∷ []) ys) (sym last) (all_zipped_more R (take at spans) (texts_of old) span text.items before asks))

-- requests for all of these
pub all_asked : (c : ClientState) (spans : List Span) (texts : List (Vec ℕ Global)) (at : ℕ) → length spans ≤ at → AreEarly c spans
    → AllZip (IsRequestFor c) (take at spans) (texts_of texts) → (¬ AsksNothingEarly c → LeaveNothingInReach c spans) → AreAllInReach c (texts_of texts)
all_asked c spans texts at all early asks end = record {
  requests = record {
    spans = spans;
    early = early;
    asks = subst (λ (xs : List Span). AllZip (IsRequestFor c) xs (texts_of texts)) (take_all at spans all) asks;
  };
  end = end;
}

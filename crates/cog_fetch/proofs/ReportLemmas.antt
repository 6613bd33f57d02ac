-- Fetching leads to a report where nothing is lost.
use Rattle.std.proofs.Common.{◌≡◌, ℕ, zero, suc, ◌+◌, ◌≤◌, ◌⊎◌, Bool, false, List, Option, Some, None, Result, Ok, Err, refl, sym, ap, ◌∙◌, subst, inl, inr, arith}
use Rattle.std.specs.Prelude.{IfOk, IfSome, IsOkAnd, IsSome}
use Rattle.std.specs.Option.{option_map}
use Rattle.std.proofs.lemmas.Bool.{false≢true}
use Rattle.std.proofs.lemmas.Option.{none-some, same_Some}
use Rattle.tiff_dir.specs.declared.query.Query.{Query}
use Rattle.extents.specs.declared.span.Span.{Span}
use Rattle.tiff_dir.specs.Query.{cost}
use Rattle.http_range.specs.Ask.{CanAsk}
use Rattle.http_range.specs.Book.{Book, HasDistinctTags, In, Publication}
use Rattle.http_range.specs.Honest.{IsPieceOfBook, IsReadAs}
use Rattle.http_range.specs.Laws.{TagsTellOne}
use Rattle.cog_client.specs.Calls.{IsIdle, request_for}
use Rattle.cog_client.specs.Case.{Revision}
use Rattle.cog_client.specs.declared.request_options.RequestOptions.{RequestOptions}
use Rattle.cog_client.specs.Client.{ClientAgrees, ClientState, Knows, KnowsOne, ahead_of, asked_of, fields_of, host_of, how_of, name_of, query_of, report_of, revision_of, tag_of}
use Rattle.cog_client.specs.Keeps.{AsksFor, AsksLike, OpensKeeping}
use Rattle.cog_client.specs.Progress.{AnswersReport, AreExchanges, Exchanges, IsGiven, IsServed}
use Rattle.cog_client.specs.Serves.{AsksBy, Serves}
use Rattle.cog_client.specs.Transport.{Coming, Fetches, FetchesAll, FetchesOnce, RestsOrHasNone, UnlessTold}
use Rattle.cog_fetch.specs.Takes.{AllOf, TakenOf}

-- a client is told to ask as it does
likewise : (c : ClientState) → AsksLike (how_of c) c c
unfolding how_of
likewise c = record { seen = refl; knows = λ f k. k; come = λ f. refl; agrees = λ book k. k; asks = λ v ahead span asks. asks }

-- one more behind so many
one_more : (Answers : ClientState → Publication → Span → List ℕ → Type 0) (p : Publication) (n : ℕ) (old mid new : ClientState)
    → AreExchanges Answers p n old mid → Exchanges Answers p mid new → AreExchanges Answers p (suc n) old new
one_more Answers p zero old mid new are x = (new, subst (λ (c : ClientState). Exchanges Answers p c new) are x, refl)
one_more Answers p (suc n) old mid new (next, first, rest) x = (next, first, one_more Answers p n next mid new rest x)

same_text : (old new : ClientState) (span : Span) → how_of new ≡ how_of old → host_of new ≡ host_of old → name_of new ≡ name_of old → revision_of new ≡ revision_of old
    → request_for old (Some span) ≡ request_for new (Some span)
same_text old new span how host name revision = cc

abbrev tag_by : Option Revision → Option (List ℕ)
tag_by o = option_map (λ (v : Revision). v.tag) o

same_asking : (old new : ClientState) (span : Span) → how_of new ≡ how_of old → host_of new ≡ host_of old → name_of new ≡ name_of old → revision_of new ≡ revision_of old
    → CanAsk (host_of old) (name_of old) (fields_of old) span.first span.last (tag_of old)
    → CanAsk (host_of new) (name_of new) (fields_of new) span.first span.last (tag_of new)
same_asking old new span how host name revision can =
    subst (λ (w : RequestOptions). CanAsk (host_of new) (name_of new) w.fields span.first span.last (tag_of new)) (sym how)
    (subst (λ h. CanAsk h (name_of new) (fields_of old) span.first span.last (tag_of new)) (sym host)
    (subst (λ n. CanAsk (host_of old) n (fields_of old) span.first span.last (tag_of new)) (sym name)
    (subst (λ t. CanAsk (host_of old) (name_of old) (fields_of old) span.first span.last t) (ap tag_by (sym revision)) can)))

some_of : {A : Type 0} (o : Option A) (x : A) (P : A → Type 0) → o ≡ Some x → IfSome o P → P x
some_of o x P is h = subst (λ z. IfSome z P) is h

if_ok : {A E : Type 0} (r : Result A E) (P Q : A → Type 0) → ((x : A) → P x → Q x) → IsOkAnd r P → IfOk r Q
if_ok (Ok x) P Q to h = to x h
if_ok (Err e) P Q to h = absurd h

-- nothing is lost, and whatever text comes serves
pub record AllServe (came : Coming) (p : Publication) : Type 0 where
  pub comes : (request : List ℕ) → ¬ (came request None)
  pub serves : Serves came p

pub serves_untold : (answers : Coming) (lost : Bool) (p : Publication) → Serves answers p → lost ≡ false → AllServe (UnlessTold lost answers) p
serves_untold answers lost p serves kept = record {
  comes = λ request none. false≢true (sym kept ∙ none.1 refl);
  serves = λ c span request text asks came. serves c span request text asks came.0;
}

pub serves_taken : (speaks : Book → Type 0) (answers : List ℕ → List ℕ → Type 0) (lost : Bool) (book : Book) → speaks book → (p : Publication)
    → Serves (AllOf answers) p → lost ≡ false → AllServe (TakenOf speaks answers lost) p
serves_taken speaks answers lost book spoken p serves kept = record {
  comes = λ request none. false≢true (sym kept ∙ none);
  serves = λ c span request text asks came. serves c span request text asks (came.0, came.1, came.2.all kept book spoken);
}

module _ (one : TagsTellOne) (came : Coming) (p : Publication) (all : AllServe came p) (q : Query) (opened : ClientState) (book : Book) (distinct : HasDistinctTags book) (among : In p book) where
  -- a client that agrees with the book knows p's file, where it has the tag
  knows_file : (c : ClientState) → ClientAgrees c book → tag_of c ≡ Some p.tag → Knows p.file c
  unfolding ClientAgrees
  knows_file c agrees tag = at (revision_of c) refl agrees
    where
      at : (o : Option Revision) → revision_of c ≡ o → IfSome o (KnowsOne c book) → Knows p.file c
      at None is k = absurd (none-some p.tag (sym (ap tag_by is) ∙ tag))
      at (Some v) is k =
          let same_tag : v.tag ≡ p.tag = same_Some _ _ (sym (ap tag_by is) ∙ tag) in
          let same : k.source ≡ p = one book distinct k.source p k.published among (k.of_tag ∙ same_tag) in
          subst (λ (s : Publication). Knows s.file c) same k.knows

  -- so many answers were taken
  record Came (n : ℕ) (c : ClientState) : Type 0 where
    query : query_of c ≡ Some q
    named : p.name ≡ name_of c
    agrees : ClientAgrees c book
    are : AreExchanges IsServed p n opened c

  module _ (n : ℕ) (mid new : ClientState) (once : FetchesOnce came mid new) (before : Came n mid) where
    abbrev asking : ClientState
    asking = once.asking

    query_is : query_of asking ≡ Some q
    query_is = once.asks.seen.goes.same.query ∙ before.query

    name_is : p.name ≡ name_of asking
    name_is = before.named ∙ sym once.asks.seen.goes.same.name

    agrees_still : ClientAgrees asking book
    agrees_still = once.asks.goes.agrees book before.agrees

    by : (span : Span) → asked_of asking ≡ Some span → Some once.request ≡ request_for mid (Some span) → AsksBy p asking span once.request
    by span is text =
        let goes = once.asks.seen.goes in
        record {
          named = name_is;
          asked = is;
          asks = some_of (asked_of asking) span (AsksFor asking (revision_of asking) (ahead_of asking)) is once.asks.asks;
          can = same_asking mid asking span goes.same.how goes.same.host goes.same.name goes.revision
              (some_of (asked_of asking) span (λ s. CanAsk (host_of mid) (name_of mid) (fields_of mid) s.first s.last (tag_of mid)) is once.asks.lawful);
          text = text ∙ same_text mid asking span goes.same.how goes.same.host goes.same.name goes.revision;
          knows = knows_file asking agrees_still;
        }

    takes : (a : Option Span) → asked_of asking ≡ a → Some once.request ≡ request_for mid a → Came (suc n) new
    takes None is text = absurd (none-some once.request (sym text))
    takes (Some span) is own =
        elim once.takes [
          | inl none ↦ absurd (all.comes once.request none.0)
          | inr (text, what, answered, delivers) ↦
              let served : IsServed asking p span text = all.serves asking span once.request text (by span is own) answered in
              let read : IsReadAs (IsPieceOfBook (name_of asking) book) text = λ r reads.
              if_ok r (IsGiven p span (tag_of asking)) (IsPieceOfBook (name_of asking) book) (λ piece given. (p, among, name_is, given.of)) (served.read r reads) in
              let x : Exchanges IsServed p mid new = record {
                how = how_of mid;
                told = mid;
                tells = likewise mid;
                request = Some once.request;
                asking = asking;
                requests = once.asks;
                ahead = ahead_of asking;
                waiting = asking;
                looks = likewise asking;
                span = span;
                text = text;
                answered = served;
                what = what;
                delivers = delivers;
              } in
              record {
                query = delivers.seen.same.query ∙ query_is;
                named = name_is ∙ sym delivers.seen.same.name;
                agrees = delivers.agrees book distinct agrees_still read;
                are = one_more IsServed p n opened mid new before.are x;
              }
        ]

  reach : Came zero opened → (n : ℕ) (new : ClientState) → Fetches came n opened new → Came n new
  reach first zero new same = subst (Came zero) (sym same) first
  reach first (suc n) new (mid, are, once) = takes n mid new once (reach first n mid are) (asked_of once.asking) refl once.asks.seen.text

-- what it rests with, or has where it has no request
query_still : (old new : ClientState) → RestsOrHasNone old new → query_of new ≡ query_of old
query_still old new (inl same) = ap query_of same
query_still old new (inr asks) = asks.seen.goes.same.query

stands_still : (old new : ClientState) → RestsOrHasNone old new → IsSome (report_of old) → IsSome (report_of new)
stands_still old new (inl same) stands = subst (λ (c : ClientState). IsSome (report_of c)) (sym same) stands
stands_still old new (inr asks) stands = subst (λ o. IsSome o) (sym (asks.seen.report stands)) stands

pub fetching_reports : AnswersReport IsServed → TagsTellOne → (came : Coming) (p : Publication) → AllServe came p
    → (q : Query) (book : Book) (old opened new : ClientState) (before after tries : ℕ)
    → HasDistinctTags book → In p book → p.name ≡ name_of old → ClientAgrees old book → OpensKeeping q old opened → FetchesAll came before after opened new
    → (after ≡ before + tries) ⊎ IsIdle new → cost p.file q + 1 ≤ tries → IsSome (report_of new)
unfolding query_of name_of
fetching_reports law one came p serve q book old opened new before after tries distinct among named agrees opens all ends enough =
    let first : Came one came p serve q opened book distinct among zero opened = record {
      query = ap query_of opens.seen.1;
      named = named ∙ sym (ap name_of opens.seen.1);
      agrees = opens.agrees book agrees;
      are = refl;
    } in
    let reached = reach one came p serve q opened book distinct among first all.times all.last all.fetches in
    elim ends [
      | inr idle ↦ elim idle [ inl none ↦ absurd (none-some q (sym none ∙ query_still all.last new all.ends ∙ reached.query)) | inr stands ↦ stands ]
      | inl used ↦ elim (law book p q old opened all.last all.times distinct among agrees opens reached.are).1 [
        | inl stands ↦ stands_still all.last new all.ends stands
        | inr few ↦ absurd (omega (arith, all.counted, few, used, enough))
      ]
    ]

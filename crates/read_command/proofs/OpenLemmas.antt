-- What a client is that has been asked a query and has exchanged since.
use Rattle.std.proofs.Common.{◌≡◌, ◌≢◌, ◌≤◌, ◌⊎◌, ◌+◌, ℕ, add-one, suc, List, Option, Some, None, inl, inr, refl, sym, ap, ◌∙◌, subst}
use Rattle.std.specs.Prelude.{IfSome, IsSome, IsSomeAnd, OnErr, Result, Ok, Err}
use Rattle.std.proofs.lemmas.Bool.{false≢true}
use Rattle.std.proofs.lemmas.Option.{none-some, same_Some}
use Rattle.tiff_dir.specs.declared.query.Query.{Query}
use Rattle.tiff_dir.specs.declared.query.Query.TheVariants.{Info}
use Rattle.text_description.specs.declared.description.Form.{Form}
use Rattle.http_range.specs.Book.{Publication, Book, In}
use Rattle.cog_client.specs.declared.report.Report.{Report}
use Rattle.cog_client.specs.Calls.{IsIdle}
use Rattle.cog_client.specs.Client.{ClientState, name_of, query_of, report_of}
use Rattle.cog_client.specs.Keeps.{OpensKeeping}
use Rattle.cog_client.specs.Transport.{Anything, FetchesSome, KeepsReading, ReadsBook, StopsFetching}
use Rattle.read_command.specs.declared.reading.Asked.{Asked}
use Rattle.read_command.specs.declared.reading.Asked.TheVariants as asked
use Rattle.text_description.specs.declared.world.WorldFile.{WorldFile}
use Rattle.read_command.specs.declared.part.Part.{Part}
use Rattle.read_command.specs.Exchanges.{AsksOf, Ends, FindsReplaced, IsAskedFor, IsAtOnce, IsReplaced, ReadsSome, StopsReading}
use Rattle.read_command.specs.Text.{IsFor, IsOfPartBy, GivesWindow}

opened_name : (q : Query) (old opened : ClientState) → OpensKeeping q old opened → name_of opened ≡ name_of old
unfolding name_of
opened_name q old opened opens = ap name_of opens.seen.1

pub opened_query : (q : Query) (old opened : ClientState) → OpensKeeping q old opened → query_of opened ≡ Some q
unfolding query_of
opened_query q old opened opens = ap query_of opens.seen.1

pub opened_reads : (speaks : Book → Type 0) (q : Query) (old opened : ClientState) (book : Book) → OpensKeeping q old opened → ReadsBook speaks old book → ReadsBook speaks opened book
opened_reads speaks q old opened book opens reads = record {
  named = λ p among. reads.named p among ∙ sym (opened_name q old opened opens);
  distinct = reads.distinct;
  spoken = reads.spoken;
  agrees = opens.agrees book reads.agrees;
}

pub asks_query : (before after : Book → Type 0) (q : Query) (old opened new : ClientState) → OpensKeeping q old opened → KeepsReading before after opened new → query_of new ≡ Some q
asks_query before after q old opened new opens keeps = keeps.same.query ∙ opened_query q old opened opens

-- the report of the query that was asked, if it stands, is for what is asked
pub asks_of : (book : Book) (a : Asked) (q : Query) (world : Option WorldFile) (c : ClientState) → query_of c ≡ Some q → IfSome (report_of c) (λ r. (p : Publication) → In p book → p.tag ≡ r.tag → IsFor p.file a q world) → AsksOf book a c world
asks_of book a q world c is for = by (report_of c) for
  where
    by : (o : Option Report) → IfSome o (λ r. (p : Publication) → In p book → p.tag ≡ r.tag → IsFor p.file a q world) → IfSome o (λ r. (p : Publication) → In p book → p.tag ≡ r.tag → IfSome (query_of c) (λ asked. IsFor p.file a asked world))
    by None h = tt
    by (Some r) h = λ p among tag. subst (λ o. IfSome o (λ asked. IsFor p.file a asked world)) (sym is) (h p among tag)

-- where nothing is to do, the report stands
pub ends_of : (q : Query) (c : ClientState) (most count : ℕ) → query_of c ≡ Some q → (most ≤ count) ⊎ IsIdle c → (most ≤ count) ⊎ IsSome (report_of c)
ends_of q c most count is (inl all) = inl all
ends_of q c most count is (inr (inl none)) = absurd (none-some q (sym none ∙ is))
ends_of q c most count is (inr (inr stands)) = inr stands

-- a query, and a description, aren't a part of a level
pub query_part : (query : Query) (part : Part) → asked.Query query ≢ asked.Part part
query_part query part = λ same. cc

pub description_part : (form : Form) (part : Part) → asked.Description form ≢ asked.Part part
description_part form part = λ same. cc

-- for what is asked, but a part of a level, it is the end
pub ends_for : (a : Asked) (old c : ClientState) (most count : ℕ) → IsAtOnce a → (most ≤ count) ⊎ IsSome (report_of c) → Ends a most count old c
ends_for (asked.Query query) old c most count not h = h
ends_for (asked.Part part) old c most count not h = absurd (not part refl)
ends_for (asked.Description form) old c most count not h = h

some_and : (o : Option Report) (P : Report → Type 0) → IsSome o → IfSome o P → IsSomeAnd o P
some_and None P none h = absurd (false≢true none)
some_and (Some r) P some h = h

-- for a part of a level where Info gave no window
pub ended_early : (part : Part) (q : Query) (old c : ClientState) (most count : ℕ) → query_of c ≡ Some q → IfSome (report_of c) (λ r. GivesWindow (asked.Part part) r.outcome → ⊥)
    → (most ≤ count) ⊎ IsIdle c → Ends (asked.Part part) most count old c
ended_early part q old c most count is none h = elim (ends_of q c most count is h) [
  | inl all ↦ inl all
  | inr stands ↦ inr (inl (some_and (report_of c) (λ r. query_of c ≡ Some Info → GivesWindow (asked.Part part) r.outcome → ⊥) stands (untold (report_of c) none)))
]
  where
    untold : (o : Option Report) → IfSome o (λ r. GivesWindow (asked.Part part) r.outcome → ⊥)
        → IfSome o (λ r. query_of c ≡ Some Info → GivesWindow (asked.Part part) r.outcome → ⊥)
    untold None none = tt
    untold (Some r) none = λ info. none

-- and where it was asked for
pub ended_part : (part : Part) (q : Query) (old c : ClientState) (most count : ℕ) → query_of c ≡ Some q → q ≢ Info → (most ≤ count) ⊎ IsIdle c → Ends (asked.Part part) most count old c
ended_part part q old c most count is other h = elim (ends_of q c most count is h) [
  | inl all ↦ inl all
  | inr stands ↦ inr (inl (some_and (report_of c) (λ r. query_of c ≡ Some Info → GivesWindow (asked.Part part) r.outcome → ⊥) stands (never (report_of c))))
]
  where
    never : (o : Option Report) → IfSome o (λ r. query_of c ≡ Some Info → GivesWindow (asked.Part part) r.outcome → ⊥)
    never None = tt
    never (Some r) = λ info sides. other (same_Some _ _ (sym is ∙ info))

-- each report of the query is for what is asked
pub asks_same : (book : Book) (a : Asked) (q : Query) (world : Option WorldFile) (c : ClientState) → query_of c ≡ Some q → ((p : Publication) → IsFor p.file a q world) → AsksOf book a c world
asks_same book a q world c is for = asks_of book a q world c is (by (report_of c))
  where
    by : (o : Option Report) → IfSome o (λ r. (p : Publication) → In p book → p.tag ≡ r.tag → IsFor p.file a q world)
    by None = tt
    by (Some r) = λ p among tag. for p

-- the window of a part of a level, where the report still has the tag under which Info gave it
pub asks_part : (book : Book) (part : Part) (tag : List ℕ) (q : Query) (world : Option WorldFile) (c : ClientState) → query_of c ≡ Some q → IfSome (report_of c) (λ r. r.tag ≡ tag) → IsOfPartBy book tag part q world → AsksOf book (asked.Part part) c world
asks_part book part tag q world c is same given = asks_of book (asked.Part part) q world c is (by (report_of c) same)
  where
    by : (o : Option Report) → IfSome o (λ r. r.tag ≡ tag) → IfSome o (λ r. (p : Publication) → In p book → p.tag ≡ r.tag → IsFor p.file (asked.Part part) q world)
    by None h = tt
    by (Some r) h = λ p among told. inr (given p among (told ∙ h))

-- one query more
pub reads_more : (a : Asked) (q : Query) (old mid opened new : ClientState) → IsAskedFor a q → ReadsSome a old mid → OpensKeeping q mid opened
    → FetchesSome Anything opened new → ReadsSome a old new
reads_more a q old mid opened new for (n, are) opens fetches = (suc n, (mid, opened, q, for, are, opens, fetches))

-- memory was wanting in the exchanges for one query more
pub stops_more : {T E : Type 0} (r : Result T E) (a : Asked) (q : Query) (old mid opened new : ClientState) → IsAskedFor a q → ReadsSome a old mid
    → OpensKeeping q mid opened → StopsFetching Anything opened new → OnErr r (StopsReading a old new)
stops_more (Ok x) a q old mid opened new for are opens stops = tt
stops_more (Err e) a q old mid opened new for are opens stops = (mid, opened, q, for, are, opens, stops)

-- a report that told a tag, and one that tells another
pub replaced : (told new : ClientState) (tag : List ℕ) → IsSomeAnd (report_of told) (λ r. r.tag ≡ tag) → IsSomeAnd (report_of new) (λ s. s.tag ≢ tag) → IsReplaced told new
replaced told new tag first then = by (report_of told) (report_of new) first then
  where
    by : (o p : Option Report) → IsSomeAnd o (λ r. r.tag ≡ tag) → IsSomeAnd p (λ s. s.tag ≢ tag) → IsSomeAnd o (λ r. IsSomeAnd p (λ s. s.tag ≢ r.tag))
    by None p first then = absurd first
    by (Some r) None first then = absurd then
    by (Some r) (Some s) first then = λ same. then (same ∙ first)

-- the file was replaced once more
pub replaced_more : (a : Asked) (n : ℕ) (old mid told new : ClientState) → FindsReplaced a n old mid → ReadsSome a mid told → ReadsSome a told new → IsReplaced told new
    → FindsReplaced a (n + 1) old new
replaced_more a n old mid told new are first then is = subst (λ k. FindsReplaced a k old new) (sym (add-one n)) (mid, told, are, first, then, is)

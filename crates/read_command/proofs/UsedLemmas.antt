-- A report of another tag takes an exchange, so that exchanges are used up where the file is replaced again and again.
use Rattle.std.proofs.Common.{◌≡◌, ◌≢◌, ◌≤◌, ◌⊎◌, ◌+◌, ℕ, zero, suc, List, Option, Some, None, inl, inr, refl, sym, ap, ◌∙◌, subst, arith}
use Rattle.std.specs.Prelude.{IfSome, IsSome, IsSomeAnd}
use Rattle.std.specs.Option.{option_map}
use Rattle.std.proofs.lemmas.Option.{same_Some}
use Rattle.tiff_dir.specs.declared.query.Query.{Query}
use Rattle.tiff_dir.specs.declared.query.Query.TheVariants.{Info}
use Rattle.http_range.specs.Book.{Book}
use Rattle.cog_reader.specs.declared.outcome.Outcome.{Outcome}
use Rattle.cog_reader.specs.declared.outcome.Outcome.TheVariants as outcome
use Rattle.cog_reader.specs.Outcome.{IsTrueOf}
use Rattle.cog_client.specs.Calls.{IsIdle}
use Rattle.cog_client.specs.Case.{Revision}
use Rattle.cog_client.specs.declared.report.Report.{Report}
use Rattle.cog_client.specs.Report.{IsTrueReport}
use Rattle.cog_client.specs.Client.{ClientState, ClientAgrees, name_of, query_of, report_of, revision_of, tag_of}
use Rattle.cog_client.specs.Keeps.{OpensKeeping, Stands}
use Rattle.cog_client.specs.Transport.{Coming, Fetches, FetchesAll, RestsOrHasNone}
use Rattle.read_command.specs.declared.part.Part.{Part}
use Rattle.read_command.specs.declared.reading.Asked.{Asked}
use Rattle.read_command.specs.declared.reading.Asked.TheVariants as asked
use Rattle.read_command.specs.Exchanges.{IsAnswered, IsAtOnce}
use Rattle.read_command.specs.Text.{GivesWindow, HasNothing}
use Rattle.read_command.proofs.OpenLemmas.{ends_of}

-- the report's tag is the revision's
pub tag_told : (c : ClientState) (r : Report) (book : Book) → Stands c (Some r) → ClientAgrees c book → tag_of c ≡ Some r.tag
tag_told c r book stands agrees = stands.tagged book agrees

-- ---- without an exchange

rests : (old last new : ClientState) → last ≡ old → RestsOrHasNone last new → revision_of new ≡ revision_of old
rests old last new is (inl same) = ap revision_of (same ∙ is)
rests old last new is (inr asks) = asks.goes.seen.revision ∙ ap revision_of is

-- the client reads the same revision
pub still : (came : Coming) (before after : ℕ) (old new : ClientState) → FetchesAll came before after old new → after ≡ before → revision_of new ≡ revision_of old
still came before after old new all same = by all.times all.last (omega (arith, all.counted, same)) all.fetches all.ends
  where
    by : (n : ℕ) (last : ClientState) → n ≡ zero → Fetches came n old last → RestsOrHasNone last new → revision_of new ≡ revision_of old
    by zero last is are ends = rests old last new are ends
    by (suc n) last is are ends = cc

pub same_tag : (old new : ClientState) → revision_of new ≡ revision_of old → tag_of new ≡ tag_of old
same_tag old new same = ap (option_map (λ (v : Revision). v.tag)) same

pub opened_tag : (q : Query) (old opened : ClientState) → OpensKeeping q old opened → tag_of opened ≡ tag_of old
opened_tag q old opened opens = same_tag old opened opens.seen.0

-- ---- another tag

-- a report of another tag than this
pub other_tag : (c : ClientState) (tag : List ℕ) (o : Option Report) (book : Book) → Stands c o → ClientAgrees c book → IsSomeAnd o (λ r. r.tag ≢ tag) → tag_of c ≢ Some tag
other_tag c tag None book stands agrees other = absurd other
other_tag c tag (Some r) book stands agrees other = λ same. other (same_Some _ _ (sym (tag_told c r book stands agrees) ∙ same))

-- an exchange was made between
pub used_one : (before after : ℕ) (tag : List ℕ) (told opened new : ClientState) → before ≤ after → (after ≡ before → revision_of new ≡ revision_of opened)
    → tag_of opened ≡ tag_of told → tag_of told ≡ Some tag → tag_of new ≢ Some tag → before + 1 ≤ after
used_one before after tag told opened new more still opens is other = by (nat_cases before after more)
  where
    nat_cases : (b a : ℕ) → b ≤ a → (a ≡ b) ⊎ (b + 1 ≤ a)
    nat_cases b a le = search arith

    by : (after ≡ before) ⊎ (before + 1 ≤ after) → before + 1 ≤ after
    by (inl same) = absurd (other (same_tag opened new (still same) ∙ opens ∙ is))
    by (inr more) = more

-- ---- the end

some_and : (o : Option Report) (P : Report → Type 0) → IsSome o → IfSome o P → IsSomeAnd o P
some_and None P none h = cc
some_and (Some r) P some h = h

pub answered_early : (part : Part) (q : Query) (c : ClientState) (most count : ℕ) → query_of c ≡ Some q → IfSome (report_of c) (λ r. GivesWindow (asked.Part part) r.outcome → ⊥)
    → (most ≤ count) ⊎ IsIdle c → IsAnswered (asked.Part part) most count c
answered_early part q c most count is none h = elim (ends_of q c most count is h) [
  | inl all ↦ inl all
  | inr stands ↦ inr (some_and (report_of c) (λ r. query_of c ≡ Some Info → GivesWindow (asked.Part part) r.outcome → ⊥) stands (untold (report_of c) none))
]
  where
    untold : (o : Option Report) → IfSome o (λ r. GivesWindow (asked.Part part) r.outcome → ⊥)
        → IfSome o (λ r. query_of c ≡ Some Info → GivesWindow (asked.Part part) r.outcome → ⊥)
    untold None none = tt
    untold (Some r) none = λ info. none

pub answered_part : (part : Part) (q : Query) (c : ClientState) (most count : ℕ) → query_of c ≡ Some q → q ≢ Info → (most ≤ count) ⊎ IsIdle c → IsAnswered (asked.Part part) most count c
answered_part part q c most count is other h = elim (ends_of q c most count is h) [
  | inl all ↦ inl all
  | inr stands ↦ inr (some_and (report_of c) (λ r. query_of c ≡ Some Info → GivesWindow (asked.Part part) r.outcome → ⊥) stands (never (report_of c)))
]
  where
    never : (o : Option Report) → IfSome o (λ r. query_of c ≡ Some Info → GivesWindow (asked.Part part) r.outcome → ⊥)
    never None = tt
    never (Some r) = λ info sides. other (same_Some _ _ (sym is ∙ info))

pub answered_for : (a : Asked) (c : ClientState) (most count : ℕ) → IsAtOnce a → (most ≤ count) ⊎ IsSome (report_of c) → IsAnswered a most count c
answered_for (asked.Query query) c most count not h = h
answered_for (asked.Part part) c most count not h = absurd (not part refl)
answered_for (asked.Description form) c most count not h = h

info_of : (a : Asked) (f : List ℕ) (q : Query) (o : Outcome) → IsTrueOf f q o → GivesWindow a o → q ≡ Info
info_of (asked.Query query) f q o true_of gives = absurd gives
info_of (asked.Description form) f q o true_of gives = absurd gives
info_of (asked.Part part) f q (outcome.Window v) true_of gives = absurd gives
info_of (asked.Part part) f q (outcome.Info i) true_of gives = true_of.0
info_of (asked.Part part) f q (outcome.Fault fault) true_of gives = absurd gives

-- a report that gives a window is one of Info
pub info_asked : (a : Asked) (c : ClientState) (o : Option Report) (book : Book) → Stands c o → ClientAgrees c book → IfSome (report_of c) (λ r. GivesWindow a r.outcome → query_of c ≡ Some Info)
info_asked a c o book stands agrees = subst (λ p. IfSome p (λ r. GivesWindow a r.outcome → query_of c ≡ Some Info)) stands.standing (by o (stands.holds book agrees))
  where
    by : (o : Option Report) → IfSome o (λ r. IsTrueReport r (name_of c) (query_of c) book) → IfSome o (λ r. GivesWindow a r.outcome → query_of c ≡ Some Info)
    by None true_of = tt
    by (Some r) true_of = λ gives. true_of.asked ∙ ap Some (info_of a true_of.source.file r.query r.outcome true_of.holds gives)

-- Where nothing stands that could be written, they are used up.
pub used_up : (a : Asked) (c : ClientState) (most count : ℕ) → IfSome (report_of c) (λ r. GivesWindow a r.outcome → query_of c ≡ Some Info) → IsAnswered a most count c
    → HasNothing a (report_of c) → most ≤ count
used_up a c most count info answered nothing = by a (report_of c) info (told a answered) nothing
  where
    never : (o : Option Report) → IfSome o (λ r. query_of c ≡ Some Info → ⊥ → ⊥)
    never None = tt
    never (Some r) = λ info none. none

    told : (a : Asked) → IsAnswered a most count c → (most ≤ count) ⊎ IsSomeAnd (report_of c) (λ r. query_of c ≡ Some Info → GivesWindow a r.outcome → ⊥)
    told (asked.Part part) (inl all) = inl all
    told (asked.Part part) (inr answers) = inr answers
    told (asked.Query query) (inl all) = inl all
    told (asked.Query query) (inr stands) = inr (some_and (report_of c) (λ r. query_of c ≡ Some Info → ⊥ → ⊥) stands (never (report_of c)))
    told (asked.Description form) (inl all) = inl all
    told (asked.Description form) (inr stands) = inr (some_and (report_of c) (λ r. query_of c ≡ Some Info → ⊥ → ⊥) stands (never (report_of c)))

    by : (a : Asked) (o : Option Report) → IfSome o (λ r. GivesWindow a r.outcome → query_of c ≡ Some Info)
        → (most ≤ count) ⊎ IsSomeAnd o (λ r. query_of c ≡ Some Info → GivesWindow a r.outcome → ⊥) → HasNothing a o → most ≤ count
    by a o info (inl all) nothing = all
    by a None info (inr answers) nothing = absurd answers
    by a (Some r) info (inr answers) nothing = absurd (answers (info nothing) nothing)

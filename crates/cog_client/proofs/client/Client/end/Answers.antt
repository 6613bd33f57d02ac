use Rattle.std.proofs.Common.{rules, ◌≡◌, ℕ, List, Option, true, sym, ap, ◌∙◌, subst}
use Rattle.std.specs.Prelude.{is_some, not}
use Rattle.std.proofs.lemmas.Bool.{false≢true}
use Rattle.tiff_dir.specs.declared.query.Query.{Query}
use Rattle.extents.specs.declared.span.Span.{Span}
use Rattle.range_cache.specs.Cache.{Blocks}
use Rattle.cog_client.specs.declared.request_options.RequestOptions.{RequestOptions}
use Rattle.cog_client.specs.declared.report.Report.{Report}
use Rattle.cog_client.specs.declared.revision_reader.RevisionReader.{RevisionReader}
use Rattle.cog_client.specs.declared.delivered.Delivered.{Delivered}
use Rattle.cog_client.specs.PartialAnswer.{IsTold}
use Rattle.cog_client.specs.Client.{ClientState, IsClient, asked_of, feed_of, report_of}
use Rattle.cog_client.specs.FedClient.{Fed}
use Rattle.cog_client.specs.AnswerPhase.{Feed, nothing_fed}
use Rattle.cog_client.specs.Keeps.{DeliversKeeping, StopsDelivery}
use Rattle.cog_client.specs.Take.{IsIgnored}
use Rattle.cog_client.proofs.ClientLemmas.{known}
use Rattle.cog_client.proofs.EndLemmas.{ended_ignored, ends, not_ignored, silent, stops}
use Rattle.cog_client.proofs.GoingLemmas.{refused}
use Rattle.cog_client.proofs.RequestLemmas.{cleared}
use Rattle.cog_client.proofs.client.Client.end.Goals as goal

-- a client after what was kept of an answer is let go, and what is told of that answer
record LetGo (old mid : ClientState) (what : Delivered) : Type 0 where
  dropped : mid ≡ record old { feed = nothing_fed }
  sound : IsClient mid
  told : IsTold (feed_of old) what

let_go : (e e' : Feed) (how : RequestOptions) (h n : List ℕ) (q : Option Query) (a : Option Span) (s : Option RevisionReader) (b : Blocks) (r : Option Report) (old : ClientState) (what : Delivered)
    → known e how h n q a s b r ≡ old → e' ≡ nothing_fed → IsClient (known e how h n q a s b r) → IsTold e what → LetGo old (known e' how h n q a s b r) what
unfolding feed_of
let_go e e' how h n q a s b r old what view empty sound told = record {
  dropped = subst (λ (m : ClientState). known e' how h n q a s b r ≡ record m { feed = nothing_fed }) view (ap (λ (x : Feed). known x how h n q a s b r) empty);
  sound = cleared e e' how h n q a s b r empty sound;
  told = subst (λ (m : ClientState). IsTold (feed_of m) what) view told;
}

pub returns-in-Ignored-clause-ok : goal.returns-in-Ignored-clause-ok
unfolding feed_of
returns-in-Ignored-clause-ok c s p fed =
    let i = c.self.inside in
    let mid = known c.clear.new.self i.how i.host.items i.name.items i.query i.asked i.source i.cache i.report in
    let gone = let_go i.partial_answer c.clear.new.self i.how i.host.items i.name.items i.query i.asked i.source i.cache i.report c.args.self.now c.told-told.result c.self.view_is c.clear.ensures c.self.invariant c.told-told.ensures in
    let w = c.in-Ignored.field-0 in
    subst (λ (d : Delivered). DeliversKeeping s p d mid) (sym c.in-Ignored.is)
    (ended_ignored c.law_fronts_are_read.ensures.answers c.law_lengths_are_known.ensures c.law_stored_are_held.ensures.front c.law_parts_bring_blocks.ensures.beside s p c.args.self.now mid gone.dropped gone.sound w (subst (IsTold (feed_of c.args.self.now)) c.in-Ignored.is gone.told) fed)

pub returns-in-Ignored-clause-kept : goal.returns-in-Ignored-clause-kept
returns-in-Ignored-clause-kept c = λ _.
    let i = c.self.inside in
    (let_go i.partial_answer c.clear.new.self i.how i.host.items i.name.items i.query i.asked i.source i.cache i.report c.args.self.now c.told-told.result c.self.view_is c.clear.ensures c.self.invariant c.told-told.ensures).dropped

pub returns-in_err-missing : goal.returns-in_err-missing
unfolding feed_of asked_of
returns-in_err-missing c =
    let i = c.self.inside in
    let mid = known c.clear.new.self i.how i.host.items i.name.items i.query i.asked i.source i.cache i.report in
    let gone = let_go i.partial_answer c.clear.new.self i.how i.host.items i.name.items i.query i.asked i.source i.cache i.report c.args.self.now c.told-told.result c.self.view_is c.clear.ensures c.self.invariant c.told-told.ensures in
    let e = c.in_err-missing.ensures in
    let used : IsIgnored c.told-told.result → ⊥ = not_ignored c.told-told.result c.in_default.not-Ignored in
    record {
      ok = search rules;
      err = refused c.from_residual.result ((s : ClientState) → (p : List ℕ) → Fed s p c.args.self.now → StopsDelivery s p c.missing.new.self) (λ (s : ClientState) (p : List ℕ) (fed : Fed s p c.args.self.now).
          stops c.law_fronts_are_read.ensures.answers c.law_lengths_are_known.ensures c.law_stored_are_held.ensures.front c.law_parts_bring_blocks.ensures.beside s p c.args.self.now mid gone.dropped gone.sound c.told-told.result gone.told used fed c.missing.new.self e.goes e.asked e.err (e.feed ∙ c.clear.ensures));
      dropped = λ is. absurd (used (subst IsIgnored (sym (subst (λ (e : Feed). IsTold e c.told-told.result) is gone.told)) tt));
      kept = λ is. absurd (used (subst IsIgnored (sym (subst (λ (e : Feed). IsTold e c.told-told.result) is gone.told)) tt));
      ended = e.feed ∙ c.clear.ensures;
    }

pub returns-in_ok-missing : goal.returns-in_ok-missing
unfolding feed_of asked_of
returns-in_ok-missing c =
    let i = c.self.inside in
    let mid = known c.clear.new.self i.how i.host.items i.name.items i.query i.asked i.source i.cache i.report in
    let gone = let_go i.partial_answer c.clear.new.self i.how i.host.items i.name.items i.query i.asked i.source i.cache i.report c.args.self.now c.told-told.result c.self.view_is c.clear.ensures c.self.invariant c.told-told.ensures in
    let e = c.in_ok-missing.ensures in
    let used : IsIgnored c.told-told.result → ⊥ = not_ignored c.told-told.result c.in_default.not-Ignored in
    record {
      ok = λ (s : ClientState) (p : List ℕ) (fed : Fed s p c.args.self.now).
          ends c.law_fronts_are_read.ensures.answers c.law_lengths_are_known.ensures c.law_stored_are_held.ensures.front c.law_parts_bring_blocks.ensures.beside s p c.args.self.now mid gone.dropped gone.sound c.told-told.result gone.told used fed c.missing.new.self c.in_ok-missing.field-0 e.goes e.asked e.ok (e.feed ∙ c.clear.ensures);
      err = tt;
      dropped = λ is. absurd (used (subst IsIgnored (sym (subst (λ (e : Feed). IsTold e c.told-told.result) is gone.told)) tt));
      kept = λ is. absurd (used (subst IsIgnored (sym (subst (λ (e : Feed). IsTold e c.told-told.result) is gone.told)) tt));
      ended = e.feed ∙ c.clear.ensures;
    }

pub returns-else-is_none : goal.returns-else-is_none
unfolding feed_of report_of
returns-else-is_none c =
    let i = c.self.inside in
    let mid = known c.clear.new.self i.how i.host.items i.name.items i.query i.asked i.source i.cache i.report in
    let gone = let_go i.partial_answer c.clear.new.self i.how i.host.items i.name.items i.query i.asked i.source i.cache i.report c.args.self.now c.told-told.result c.self.view_is c.clear.ensures c.self.invariant c.told-told.ensures in
    let used : IsIgnored c.told-told.result → ⊥ = not_ignored c.told-told.result c.in_default.not-Ignored in
    let stands : is_some i.report ≡ true = c.is_none.ensures ∙ ap not c.if-is_none.false in
    record {
      ok = λ (s : ClientState) (p : List ℕ) (fed : Fed s p c.args.self.now).
          absurd (false≢true (sym (ap is_some (silent c.law_fronts_are_read.ensures.answers c.law_lengths_are_known.ensures c.law_stored_are_held.ensures.front c.law_parts_bring_blocks.ensures.beside s p c.args.self.now mid gone.dropped gone.sound c.told-told.result gone.told used fed)) ∙ stands));
      err = tt;
      dropped = λ is. absurd (used (subst IsIgnored (sym (subst (λ (e : Feed). IsTold e c.told-told.result) is gone.told)) tt));
      kept = λ is. absurd (used (subst IsIgnored (sym (subst (λ (e : Feed). IsTold e c.told-told.result) is gone.told)) tt));
      ended = c.clear.ensures;
    }

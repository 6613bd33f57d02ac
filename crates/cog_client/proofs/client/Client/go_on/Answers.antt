use Rattle.std.proofs.Common.{◌≡◌, ◌≤◌, ℕ, List, length, Some, None, arith, refl, sym, ap, subst, ◌∙◌}
use Rattle.std.specs.Prelude.{IfSome, max}
use Rattle.extents.specs.declared.limits.TheConstants.{MAX_RANGE_BYTES}
use Rattle.cog_reader.specs.Reader.{file_length_of}
use Rattle.cog_reader.specs.Going.{CachedReader, IsFilled, IsMissingWithRoom, IsStopped, work}
use Rattle.cog_client.specs.Client.{IsClient, IsReadingOf, KeepsOneRange, ClientState, Knows, asked_of, blocks_of, how_of, query_of, report_of, revision_of, to_come}
use Rattle.cog_client.specs.Keeps.{GoesOnKeeping, Misses}
use Rattle.cog_client.proofs.ClientLemmas.{gone, goes_trans, known}
use Rattle.cog_client.specs.declared.revision_reader.RevisionReader.{RevisionReader}
use Rattle.cog_client.proofs.client.Client.go_on.Goals as goal

one_range : (s : RevisionReader) (new : List ℕ) → length new ≤ max (length s.buffer.items) MAX_RANGE_BYTES → KeepsOneRange s → length new ≤ MAX_RANGE_BYTES
one_range s new room few = omega arith

pub returns-in_err-missing-in-Some-clause-goes : goal.returns-in_err-missing-in-Some-clause-goes
unfolding report_of
returns-in_err-missing-in-Some-clause-goes c =
    let i = c.self.inside in
    let s = c.in-Some.source in
    let is : known i.partial_answer i.how i.host.items i.name.items i.query i.asked i.source i.cache i.report ≡ known i.partial_answer i.how i.host.items i.name.items i.query i.asked (Some s) i.cache i.report =
    ap (λ o. known i.partial_answer i.how i.host.items i.name.items i.query i.asked o i.cache i.report) c.in-Some.is in
    let mid : ClientState = known i.partial_answer i.how i.host.items i.name.items i.query i.asked (Some (record s { reader = c.fill.new.reader; buffer = c.fill.new.buffer })) c.fill.new.cache i.report in
    subst (λ k. GoesOnKeeping k mid) (sym is ∙ c.self.view_is)
    (gone i.partial_answer i.how i.host.items i.name.items i.query i.asked s i.cache i.report (record s { reader = c.fill.new.reader; buffer = c.fill.new.buffer }) c.fill.new.cache
    (subst (λ (k : ClientState). report_of k ≡ None) (sym c.self.view_is) c.requires.report) refl refl (one_range s c.fill.new.buffer.items c.in_err-missing-in-Some.ensures.room (subst (λ o. IfSome o KeepsOneRange) c.in-Some.is c.self.invariant.buffer)) (subst IsClient is c.self.invariant) c.in_err-missing-in-Some.ensures.goes)

pub returns-in-Some-missing-clause-goes : goal.returns-in-Some-missing-clause-goes
unfolding report_of
returns-in-Some-missing-clause-goes c =
    let i = c.self.inside in
    let s = c.in-Some.source in
    let is : known i.partial_answer i.how i.host.items i.name.items i.query i.asked i.source i.cache i.report ≡ known i.partial_answer i.how i.host.items i.name.items i.query i.asked (Some s) i.cache i.report =
    ap (λ o. known i.partial_answer i.how i.host.items i.name.items i.query i.asked o i.cache i.report) c.in-Some.is in
    let mid : ClientState = known i.partial_answer i.how i.host.items i.name.items i.query i.asked (Some (record s { reader = c.fill.new.reader; buffer = c.fill.new.buffer })) c.fill.new.cache i.report in
    subst (λ k. GoesOnKeeping k mid) (sym is ∙ c.self.view_is)
    (gone i.partial_answer i.how i.host.items i.name.items i.query i.asked s i.cache i.report (record s { reader = c.fill.new.reader; buffer = c.fill.new.buffer }) c.fill.new.cache
    (subst (λ (k : ClientState). report_of k ≡ None) (sym c.self.view_is) c.requires.report) refl refl (one_range s c.fill.new.buffer.items c.in_ok-missing-in-Some.ensures.room (subst (λ o. IfSome o KeepsOneRange) c.in-Some.is c.self.invariant.buffer)) (subst IsClient is c.self.invariant) c.in_ok-missing-in-Some.ensures.goes)

pub returns-in-None-missing-clause-goes : goal.returns-in-None-missing-clause-goes
unfolding report_of
returns-in-None-missing-clause-goes c =
    let i = c.self.inside in
    let s = c.in-Some.source in
    let is : known i.partial_answer i.how i.host.items i.name.items i.query i.asked i.source i.cache i.report ≡ known i.partial_answer i.how i.host.items i.name.items i.query i.asked (Some s) i.cache i.report =
    ap (λ o. known i.partial_answer i.how i.host.items i.name.items i.query i.asked o i.cache i.report) c.in-Some.is in
    let mid : ClientState = known i.partial_answer i.how i.host.items i.name.items i.query i.asked (Some (record s { reader = c.fill.new.reader; buffer = c.fill.new.buffer })) c.fill.new.cache i.report in
    goes_trans c.args.self.now mid c.stand.new.self
    (subst (λ k. GoesOnKeeping k mid) (sym is ∙ c.self.view_is)
    (gone i.partial_answer i.how i.host.items i.name.items i.query i.asked s i.cache i.report (record s { reader = c.fill.new.reader; buffer = c.fill.new.buffer }) c.fill.new.cache (subst (λ (k : ClientState). report_of k ≡ None) (sym c.self.view_is) c.requires.report) refl refl (one_range s c.fill.new.buffer.items c.in_ok-missing-in-Some.ensures.room (subst (λ o. IfSome o KeepsOneRange) c.in-Some.is c.self.invariant.buffer)) (subst IsClient is c.self.invariant) c.in_ok-missing-in-Some.ensures.goes))
    c.stand.ensures.goes

pub returns-in-Some-missing-clause-ok : goal.returns-in-Some-missing-clause-ok
unfolding report_of asked_of query_of revision_of blocks_of how_of Knows to_come
returns-in-Some-missing-clause-ok c =
    let i = c.self.inside in
    let s = c.in-Some.source in
    let w : CachedReader = work c.fill.new.reader c.fill.new.cache in
    let new : ClientState = known i.partial_answer i.how i.host.items i.name.items i.query i.asked (Some (record s { reader = w.reader; buffer = c.fill.new.buffer })) w.cache i.report in
    let reading : IsReadingOf i.query i.report s = subst (λ o. IfSome o (IsReadingOf i.query i.report)) c.in-Some.is c.self.invariant.reading in
    let complete : file_length_of w.reader ≡ s.complete = c.in_ok-missing-in-Some.ensures.goes.file_length ∙ sym reading.0 in
    let l : IsStopped w i.how.ahead c.in-Some-missing.field-0 = subst (IsFilled w i.how.ahead) c.in-Some-missing.is c.in_ok-missing-in-Some.ensures.filled in
    let missing : IsMissingWithRoom w.cache s.complete l.range i.how.ahead c.in-Some-missing.field-0 =
    subst (λ n. IsMissingWithRoom w.cache n l.range i.how.ahead c.in-Some-missing.field-0) complete (l.missing, l.room) in
    subst (Misses new) (sym c.in-Some-missing.is)
    (record { range = l.range; next = λ f k. l.first f k.reader; missing = missing.0; room = missing.1; needed = λ f k. l.needed f k.reader })

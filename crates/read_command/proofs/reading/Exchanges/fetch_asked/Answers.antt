use Rattle.std.proofs.Common.{◌≢◌, ◌∙◌, None, refl, subst, sym, zero}
use Rattle.read_command.specs.declared.part.Part.{Part as APart}
use Rattle.read_command.specs.declared.reading.Asked.TheVariants.{Part}
use Rattle.read_command.specs.declared.reading.Asked.{Asked}
use Rattle.read_command.specs.Text.{IsFor}
use Rattle.read_command.specs.Exchanges.{IsAskedFor}
use Rattle.read_command.proofs.OpenLemmas.{asks_query, asks_same, description_part, ends_for, ends_of, query_part, opened_reads, reads_more, stops_more}
use Rattle.read_command.proofs.UsedLemmas.{answered_for}
use Rattle.http_range.specs.Book.{Publication}
use Rattle.read_command.proofs.reading.Exchanges.fetch_asked.Goals.{in-Query, in-Description}
use Rattle.read_command.proofs.reading.Exchanges.fetch_asked.Goals as goal

pub returns-in_err-fetch-clause-reads : goal.returns-in_err-fetch-clause-reads
returns-in_err-fetch-clause-reads g c = λ book reads.
    c.fetch.ensures.keeps.reads book (opened_reads _ c.match-asked.query c.args.client.now c.open.new.self book c.open.ensures reads)

pub returns-in_err-fetch-clause-stops : goal.returns-in_err-fetch-clause-stops
returns-in_err-fetch-clause-stops g c =
    let for : IsAskedFor c.args.asked c.match-asked.query = elim c.match-asked.branch [
      | in-Query w ↦ subst (λ (a : Asked). IsAskedFor a c.match-asked.query) (sym w.in-Query.is) w.query-is
      | in-Description w ↦ subst (λ (a : Asked). IsAskedFor a c.match-asked.query) (sym w.in-Description.is) w.query-is
    ] in
    stops_more c.from_residual.result c.args.asked c.match-asked.query c.args.client.now c.args.client.now c.open.new.self c.fetch.new.client for (zero, refl) c.open.ensures c.in_err-fetch.ensures.stops

pub returns-clause-reads : goal.returns-clause-reads
returns-clause-reads g c = λ book reads.
    c.fetch.ensures.keeps.reads book (opened_reads _ c.match-asked.query c.args.client.now c.open.new.self book c.open.ensures reads)

pub returns-clause-asks : goal.returns-clause-asks
returns-clause-asks g c = λ book reads.
    let is = asks_query _ _ c.match-asked.query c.args.client.now c.open.new.self c.fetch.new.client c.open.ensures c.fetch.ensures.keeps in
    let for : (p : Publication) → IsFor p.file c.args.asked c.match-asked.query None = elim c.match-asked.branch [
      | in-Query w ↦ λ p. subst (λ (a : Asked). IsFor p.file a c.match-asked.query None) (sym w.in-Query.is) (w.query-is, refl)
      | in-Description w ↦ λ p. subst (λ (a : Asked). IsFor p.file a c.match-asked.query None) (sym w.in-Description.is) (w.query-is, refl)
    ] in
    asks_same book c.args.asked c.match-asked.query None c.fetch.new.client is for

pub returns-clause-ends : goal.returns-clause-ends
returns-clause-ends g c =
    let is = asks_query _ _ c.match-asked.query c.args.client.now c.open.new.self c.fetch.new.client c.open.ensures c.fetch.ensures.keeps in
    let other : (part : APart) → c.args.asked ≢ Part part = elim c.match-asked.branch [
      | in-Query w ↦ λ part same. query_part _ part (sym w.in-Query.is ∙ same)
      | in-Description w ↦ λ part same. description_part _ part (sym w.in-Description.is ∙ same)
    ] in
    ends_for c.args.asked c.args.client.now c.fetch.new.client _ _ other (ends_of c.match-asked.query c.fetch.new.client _ _ is c.in_ok-fetch.ensures.ends)

pub returns-clause-queries : goal.returns-clause-queries
returns-clause-queries g c =
    let for : IsAskedFor c.args.asked c.match-asked.query = elim c.match-asked.branch [
      | in-Query w ↦ subst (λ (a : Asked). IsAskedFor a c.match-asked.query) (sym w.in-Query.is) w.query-is
      | in-Description w ↦ subst (λ (a : Asked). IsAskedFor a c.match-asked.query) (sym w.in-Description.is) w.query-is
    ] in
    reads_more c.args.asked c.match-asked.query c.args.client.now c.args.client.now c.open.new.self c.fetch.new.client for (zero, refl) c.open.ensures c.in_ok-fetch.ensures.fetches

pub returns-clause-answered : goal.returns-clause-answered
returns-clause-answered g c = λ book reads.
    let is = asks_query _ _ c.match-asked.query c.args.client.now c.open.new.self c.fetch.new.client c.open.ensures c.fetch.ensures.keeps in
    let other : (part : APart) → c.args.asked ≢ Part part = elim c.match-asked.branch [
      | in-Query w ↦ λ part same. query_part _ part (sym w.in-Query.is ∙ same)
      | in-Description w ↦ λ part same. description_part _ part (sym w.in-Description.is ∙ same)
    ] in
    answered_for c.args.asked c.fetch.new.client _ _ other (ends_of c.match-asked.query c.fetch.new.client _ _ is c.in_ok-fetch.ensures.ends)

pub returns-clause-reports : goal.returns-clause-reports
returns-clause-reports g c = λ once p serves lost within.
    let for : IsAskedFor c.args.asked c.match-asked.query = elim c.match-asked.branch [
      | in-Query w ↦ subst (λ (a : Asked). IsAskedFor a c.match-asked.query) (sym w.in-Query.is) w.query-is
      | in-Description w ↦ subst (λ (a : Asked). IsAskedFor a c.match-asked.query) (sym w.in-Description.is) w.query-is
    ] in
    c.in_ok-fetch.ensures.reports p c.match-asked.query c.args.client.now serves c.open.ensures lost (within c.match-asked.query for)

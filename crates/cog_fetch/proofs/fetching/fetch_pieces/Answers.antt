use Rattle.std.proofs.Common.{rules, refl, subst, sym}
use Rattle.std.specs.Prelude.{IsSome}
use Rattle.cog_fetch.specs.Takes.{TakenOf}
use Rattle.cog_fetch.proofs.ReportLemmas.{fetching_reports, serves_taken}
use Rattle.cog_fetch.proofs.fetching.fetch_pieces.Goals as goal

pub returns : goal.returns
returns g c =
    let e = c.in_ok-exchange_up_to.ensures in
    let speaks = g.P.Pieces.speaks_for c.args.pieces.now in
    let answers = g.P.Pieces.answers c.args.pieces.now in
    let lost = g.P.Pieces.has_lost c.exchange_up_to.new.source in (
      (refl, (λ _. tt), (e.keeps, (c.report.ensures, e.fetches), tt)),
      record {
        client = tt;
        report = search rules;
        none = search rules;
        few = e.few;
        idle = search rules;
        stands = search rules;
        told = e.told;
        goes_on = e.goes_on;
        reports = λ book p q before distinct among named agrees spoken opens serves kept enough.
            subst (λ o. IsSome o) (sym c.report.ensures.standing)
            (fetching_reports c.law_whole_answers_report.ensures.served c.law_fronts_are_read.ensures.answers.one (TakenOf speaks answers lost) p
            (serves_taken speaks answers lost book spoken p serves kept) q book before c.args.client.now c.exchange_up_to.new.client
            (g.P.Pieces.count c.args.pieces.now) (g.P.Pieces.count c.exchange_up_to.new.source) c.args.tries distinct among named agrees opens e.fetches e.ends enough);
      },
    )

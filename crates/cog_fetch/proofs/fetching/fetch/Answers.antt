use Rattle.std.proofs.Common.{true, rules, refl, subst, sym}
use Rattle.std.specs.Prelude.{IsSome}
use Rattle.cog_client.specs.Transport.{StopsFetching, UnlessTold}
use Rattle.cog_fetch.proofs.FetchLemmas.{stops_untold}
use Rattle.cog_fetch.proofs.ReportLemmas.{fetching_reports, serves_untold}
use Rattle.cog_fetch.proofs.TakeLemmas.{refused}
use Rattle.cog_fetch.proofs.fetching.fetch.Goals as goal

pub returns : goal.returns
returns g c =
    let e = c.in_ok-exchange_up_to.ensures in
    let answers = g.T.Transport.answers c.args.transport.now in
    let lost = g.T.Transport.has_lost c.exchange_up_to.new.source in (
      (refl, (λ _. tt), (e.keeps, (c.report.ensures, e.fetches), tt)),
      record {
        client = tt;
        report = search rules;
        none = search rules;
        few = e.few;
        idle = search rules;
        stands = search rules;
        told = e.told;
        goes_on = λ request came is. (e.goes_on true request came (is, λ _. refl)).0;
        reports = λ book p q before distinct among named agrees opens serves kept enough.
            subst (λ o. IsSome o) (sym c.report.ensures.standing)
            (fetching_reports c.law_whole_answers_report.ensures.served c.law_fronts_are_read.ensures.answers.one (UnlessTold lost answers) p
            (serves_untold answers lost p serves kept) q book before c.args.client.now c.exchange_up_to.new.client
            (g.T.Transport.count c.args.transport.now) (g.T.Transport.count c.exchange_up_to.new.source) c.args.tries distinct among named agrees opens e.fetches e.ends enough);
      },
    )

pub returns-in_err-exchange_up_to : goal.returns-in_err-exchange_up_to
returns-in_err-exchange_up_to g c =
    let e = c.in_err-exchange_up_to.ensures in
    let answers = g.T.Transport.answers c.args.transport.now in (
      (
        refl,
        (λ _. tt),
        (
          e.keeps,
          search rules,
          refused c.from_residual.result
              (StopsFetching answers c.args.client.now c.exchange_up_to.new.client)
              (stops_untold answers c.args.client.now c.exchange_up_to.new.client e.stops),
        ),
      ),
      record {
        client = tt;
        report = search rules;
        none = search rules;
        few = e.few;
        idle = search rules;
        stands = search rules;
        told = e.told;
        goes_on = λ request came is. (e.goes_on true request came (is, λ _. refl)).0;
        reports = search rules;
      },
    )

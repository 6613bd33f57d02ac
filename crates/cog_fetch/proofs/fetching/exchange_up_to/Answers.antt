use Rattle.std.proofs.Common.{Bool, true, inl, inr, refl, rules}
use Rattle.cog_client.specs.Transport.{Coming, StopsFetching}
use Rattle.cog_fetch.proofs.FetchLemmas.{fetches_more, fetches_still, stops_more}
use Rattle.cog_fetch.proofs.TakeLemmas.{refused}
use Rattle.cog_fetch.proofs.fetching.exchange_up_to.Goals as goal

pub returns-in_err-exchange_once-clause-stops : goal.returns-in_err-exchange_once-clause-stops
returns-in_err-exchange_once-clause-stops g c =
    let i = c.loop-done.invariant in
    let before : Bool → Coming = λ lost. g.E.Exchange.came c.args.source.now lost in
    let mid : Bool → Coming = λ lost. g.E.Exchange.came c.loop-done.source lost in
    refused c.from_residual.result (StopsFetching (before true) c.args.client.now c.exchange_once.new.client)
    (stops_more before mid i.goes_on (c.more.ensures c.args.source.now) (g.E.Exchange.has_lost c.loop-done.source) (g.E.Exchange.has_lost c.exchange_once.new.source)
    c.loop-done.done c.args.client.now c.loop-done.client c.exchange_once.new.client i.fetches c.in_err-exchange_once.ensures.stops)

pub returns-then-not-branch-clause-fetches : goal.returns-then-not-branch-clause-fetches
returns-then-not-branch-clause-fetches g c =
    let i = c.loop-done.invariant in
    let on = c.in_ok-exchange_once.ensures in
    let before : Bool → Coming = λ lost. g.E.Exchange.came c.args.source.now lost in
    let mid : Bool → Coming = λ lost. g.E.Exchange.came c.loop-done.source lost in
    record {
      times = c.loop-done.done;
      counted = search rules;
      last = c.loop-done.client;
      fetches = fetches_still before mid i.goes_on (c.more.ensures c.args.source.now) (g.E.Exchange.has_lost c.loop-done.source)
          (g.E.Exchange.has_lost c.exchange_once.new.source) on.told c.loop-done.done c.args.client.now c.loop-done.client i.fetches;
      ends = inr (search rules);
    }

pub returns-clause-fetches : goal.returns-clause-fetches
returns-clause-fetches g c = record {
  times = c.args.tries;
  counted = search rules;
  last = c.loop-done.client;
  fetches = search rules;
  ends = inl refl;
}

pub loop-done-preserved : goal.loop-done-preserved
loop-done-preserved g c =
    let i = c.loop-done.invariant in
    let on = c.in_ok-exchange_once.ensures in
    let before : Bool → Coming = λ lost. g.E.Exchange.came c.args.source.now lost in
    let mid : Bool → Coming = λ lost. g.E.Exchange.came c.loop-done.source lost in
    record {
      counted = search rules;
      idle = search rules;
      stands = search rules;
      keeps = search rules;
      fetches = fetches_more before mid i.goes_on (c.more.ensures c.args.source.now) (g.E.Exchange.has_lost c.loop-done.source)
          (g.E.Exchange.has_lost c.exchange_once.new.source) on.told c.loop-done.done
          c.args.client.now c.loop-done.client c.exchange_once.new.client i.fetches (search rules);
      told = λ is. on.told (i.told is);
      goes_on = λ lost request came is. i.goes_on lost request came (on.goes_on lost request came is);
    }

use Rattle.std.proofs.Common.{◌≡◌, ◌+◌, Bool, IsSome}
use Rattle.std.specs.Prelude.{IsTrue}
use Rattle.cog_client.specs.Calls.{IsIdle}
use Rattle.cog_client.specs.Client.{report_of}
use Rattle.cog_client.specs.Transport.{AnswersOn, Fetches, KeepsReading}
use Rattle.cog_fetch.proofs.fetching.exchange_up_to.Given as goal

abbrev pub invariant-loop-done : goal.invariant-loop-done
invariant-loop-done g l = record {
  counted : g.E.Exchange.count l.source ≡ g.E.Exchange.count l.fn.source + l.done;
  idle : IsIdle l.fn.client → (g.E.Exchange.count l.source ≡ g.E.Exchange.count l.fn.source) × IsIdle l.client;
  stands : IsSome (report_of l.fn.client) → report_of l.client ≡ report_of l.fn.client;
  keeps : KeepsReading (g.E.Exchange.speaks_for l.fn.source) (g.E.Exchange.speaks_for l.source) l.fn.client l.client;
  fetches : Fetches (g.E.Exchange.came l.fn.source (g.E.Exchange.has_lost l.source)) l.done l.fn.client l.client;
  told : IsTrue (g.E.Exchange.has_lost l.fn.source) → IsTrue (g.E.Exchange.has_lost l.source);
  goes_on : (lost : Bool) → AnswersOn (g.E.Exchange.came l.fn.source lost) (g.E.Exchange.came l.source lost);
}

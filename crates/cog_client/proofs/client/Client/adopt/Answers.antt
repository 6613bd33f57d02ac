use Rattle.std.proofs.Common.{◌≡◌, ℕ, ◌*◌, Some, None, sym, ap, subst, arith, ◌∙◌}
use Rattle.extents.specs.declared.limits.TheConstants.{BLOCK_SIZE}
use Rattle.http_range.specs.Announced.{announced}
use Rattle.cog_client.specs.FedClient.{revision_of_head}
use Rattle.cog_client.specs.Client.{IsClient, ClientState, report_of}
use Rattle.cog_client.specs.Steps.{Adopts}
use Rattle.cog_client.proofs.ClientLemmas.{adopted, known}
use Rattle.cog_client.proofs.client.Client.adopt.Goals as goal

pub returns-clause-adopts : goal.returns-clause-adopts
unfolding report_of
returns-clause-adopts c =
    let i = c.self.inside in
    let e = c.new.ensures in
    let p = revision_of_head (announced c.args.head.now) in
    let silent : i.report ≡ None = subst (λ (k : ClientState). report_of k ≡ None) (sym c.self.view_is) c.requires.report in
    let is : known i.partial_answer i.how i.host.items i.name.items i.query i.asked i.source i.cache i.report ≡ known i.partial_answer i.how i.host.items i.name.items i.query i.asked i.source i.cache None =
    ap (known i.partial_answer i.how i.host.items i.name.items i.query i.asked i.source i.cache) silent in
    subst (λ r. Adopts p c.args.asked c.args.self.now (known i.partial_answer i.how i.host.items i.name.items i.query c.args.asked (Some c.new.result) c.clear.new.self r)) (sym silent)
    (subst (λ k. Adopts p c.args.asked k (known i.partial_answer i.how i.host.items i.name.items i.query c.args.asked (Some c.new.result) c.clear.new.self None)) (sym is ∙ c.self.view_is)
    (adopted i.partial_answer i.how i.host.items i.name.items i.query i.asked c.args.asked i.source c.new.result i.cache c.clear.new.self p e.tag e.complete c.clear.ensures.empty c.clear.ensures.holds e.agrees e.length e.query (e.tiles ∙ ap (λ (n : ℕ). n * BLOCK_SIZE) c.capacity.ensures.exact) (omega (arith, e.buffer)) c.requires.few (subst IsClient is c.self.invariant)))

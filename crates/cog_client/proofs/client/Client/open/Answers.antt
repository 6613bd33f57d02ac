use Rattle.std.proofs.Common.{◌≡◌, Option, Some, None, sym, ap, subst, ◌∙◌}
use Rattle.cog_client.specs.contracts.client.Client.{the_view}
use Rattle.cog_client.specs.declared.revision_reader.RevisionReader.{RevisionReader}
use Rattle.cog_client.specs.Client.{IsClient, ClientState}
use Rattle.cog_client.specs.Keeps.{OpensKeeping}
use Rattle.cog_client.proofs.ClientLemmas.{known, opened, opened_alone}
use Rattle.cog_client.proofs.client.Client.open.Goals.{in-None, in-Some}
use Rattle.cog_client.proofs.client.Client.open.Goals as goal

pub returns : goal.returns
returns c =
    let i = c.self.inside in
    let q = c.args.query in
    let old : Option RevisionReader → ClientState = λ o. known i.partial_answer i.how i.host.items i.name.items i.query i.asked o i.cache i.report in
    elim c.match-self-3.branch [
      | in-None w ↦
          subst (λ x. OpensKeeping q c.args.self.now (the_view x)) (sym w.self-inside-is)
          (subst (λ k. OpensKeeping q k (known c.clear.new.self i.how i.host.items i.name.items (Some q) None i.source i.cache None)) c.self.view_is
          (subst (λ o. OpensKeeping q (old o) (known c.clear.new.self i.how i.host.items i.name.items (Some q) None o i.cache None)) (sym w.in-None.is)
          (opened_alone i.partial_answer c.clear.new.self c.clear.ensures i.how i.host.items i.name.items i.query i.asked i.cache i.report q)))
      | in-Some w ↦
          let s = w.in-Some.source in
          let is : old i.source ≡ old (Some s) = ap old w.in-Some.is in
          let x = w.open.new.self in
          subst (λ x. OpensKeeping q c.args.self.now (the_view x)) (sym w.self-inside-is)
          (subst (λ k. OpensKeeping q k (known c.clear.new.self i.how i.host.items i.name.items (Some q) None (Some (record s { reader = x })) i.cache None)) (sym is ∙ c.self.view_is)
          (opened i.partial_answer c.clear.new.self c.clear.ensures i.how i.host.items i.name.items i.query i.asked i.cache i.report q s x c.law_end_is_wanted.ensures w.open.ensures.file_length w.open.ensures.query w.open.ensures.tiles w.open.ensures.agrees w.open.ensures.come w.open.ensures.held (subst IsClient is c.self.invariant)))
    ]

use Rattle.std.proofs.Common.{List, map}
use Rattle.cog_server.specs.Catalogue.{publication}
use Rattle.cog_server.specs.Service.{service_of}
use Rattle.cog_server.proofs.AdditionsLemmas.{answer_sent, preflight_sent}
use Rattle.cog_server.proofs.outgoing.Outgoing.answer.Goals as goal
use Rattle.cog_server.proofs.outgoing.Outgoing.answer.Goals.{then-answers_preflight, else-answers_preflight}

pub returns-else-is_err-clause-ok : goal.returns-else-is_err-clause-ok
returns-else-is_err-clause-ok c =
    let p = c.prepare-prepared.result in
    let service = service_of c.args.service.now in
    elim c.if-answers_preflight.branch [
      | then-answers_preflight w ↦ rw (w.status-is, w.self-is)
          (preflight_sent service c.args.count c.args.message.now (map publication c.files.result.now) p w.put_preflight-status.new.self
          c.closes_by-close.result c.answers_preflight.result c.prepare-prepared.ensures c.files.ensures c.closes_by-close.ensures c.answers_preflight.ensures
          w.put_preflight-status.result w.if-answers_preflight.true w.put_preflight-status.ensures.status w.put_preflight-status.ensures.text
          w.put_preflight-status.ensures.close w.put_preflight-status.ensures.tag)
      | else-answers_preflight w ↦ rw (w.status-is, w.self-is)
          (answer_sent service c.args.count c.args.message.now (map publication c.files.result.now) p w.put-status.new.self
          c.closes_by-close.result c.answers_preflight.result c.prepare-prepared.ensures c.files.ensures c.closes_by-close.ensures c.answers_preflight.ensures
          w.put-status.result w.if-answers_preflight.false w.put-status.ensures.status w.put-status.ensures.text
          w.put-status.ensures.close w.put-status.ensures.tag)
    ]

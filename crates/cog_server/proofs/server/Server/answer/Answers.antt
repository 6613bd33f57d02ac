use Rattle.std.proofs.Common.{◌≡◌, Some, ap, ◌∙◌, map, refl, rules}
use Rattle.http_range.specs.Book.{Catalogue}
use Rattle.http_range.specs.Response.{answer_by}
use Rattle.cog_server.specs.Catalogue.{publication}
use Rattle.cog_server.specs.Prepared.{response_of}
use Rattle.cog_server.specs.Server.{ServerState}
use Rattle.cog_server.proofs.server.Server.answer.Goals as goal
use Rattle.cog_server.proofs.server.Server.answer.Goals.{in-Some+in_ok-from_slice-in-Some, in-None}

pub returns : goal.returns
returns c =
    let prepared = c.prepare-prepared.result in
    let catalogue : map publication c.deref.result.now ≡ c.args.self.now.catalogue =
    ap (map publication) c.deref.ensures.value ∙ ap (λ (s : ServerState). s.catalogue) c.self.view_is in
    record {
      response = response_of prepared;
      answers = (
        c.prepare-prepared.ensures.seen,
        c.prepare-prepared.ensures.reads,
        c.prepare-prepared.ensures.is ∙ ap (λ (cs : Catalogue). answer_by cs c.prepare-prepared.ensures.seen) catalogue,
      );
      shows = record {
        text = search rules;
        close = refl;
        name = elim c.match-prepared.branch [
          | in-Some+in_ok-from_slice-in-Some w ↦ rw (w.name-is, w.in-Some.is) (ap Some w.in_ok-from_slice-in-Some.ensures.items)
          | in-None w ↦ rw (w.name-is, w.in-None.is) refl
        ];
        status = c.status.ensures;
        body = refl;
      };
    }

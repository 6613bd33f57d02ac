use Rattle.std.proofs.Common.{List, [], take, refl, sym, subst, ◌∙◌, arith}
use Rattle.std.proofs.lemmas.Bool.{false≢true}
use Rattle.std.proofs.lemmas.List.{append-nil, length-take-le}
use Rattle.cog_client.specs.FedClient.{Fed}
use Rattle.cog_fetch.specs.Takes.{Stops}
use Rattle.cog_fetch.proofs.TakeLemmas.{refused}
use Rattle.cog_fetch.proofs.taking.take_piece.Goals as goal

pub returns-in_err-feed-in-Ok-clause-err : goal.returns-in_err-feed-in-Ok-clause-err
returns-in_err-feed-in-Ok-clause-err g c =
    let speaks = g.P.Pieces.speaks_for c.args.pieces.now in
    let rest = g.P.Pieces.rest c.args.pieces.now in
    refused c.from_residual.result (Stops speaks rest c.args.client.now c.feed.new.self) (record {
      bytes = take c.in-Ok.count c.next.new.out;
      next = λ p spoken. (g.P.Pieces.rest c.next.new.self, sym (c.in-Ok.ensures.brings p spoken).parts);
      stops = c.in_err-feed-in-Ok.ensures.err;
    })

pub returns-in-Err-clause-ok : goal.returns-in-Err-clause-ok
returns-in-Err-clause-ok g c = record {
  takes = record {
    bytes = [];
    next = λ p spoken. (g.P.Pieces.rest c.args.pieces.now, refl);
    fed = λ s p fed. subst (λ (t : List _). Fed s t c.args.client.now) (sym (append-nil p)) fed;
  };
  size = refl;
  goes = λ some. absurd (omega arith);
  ends = λ none kept. absurd (false≢true (sym kept ∙ c.in-Err.ensures.told));
}

pub returns-in_ok-feed-in-Ok-clause-ok : goal.returns-in_ok-feed-in-Ok-clause-ok
returns-in_ok-feed-in-Ok-clause-ok g c = record {
  takes = record {
    bytes = take c.in-Ok.count c.next.new.out;
    next = λ p spoken. (g.P.Pieces.rest c.next.new.self, sym (c.in-Ok.ensures.brings p spoken).parts);
    fed = c.in_ok-feed-in-Ok.ensures.ok;
  };
  size = length-take-le c.in-Ok.count c.next.new.out c.in-Ok.ensures.fits;
  goes = λ some p spoken. (c.in-Ok.ensures.brings p spoken).parts;
  ends = λ none kept p spoken. (c.in-Ok.ensures.brings p spoken).ends none;
}

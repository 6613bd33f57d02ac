use Rattle.std.proofs.Common.{ℕ, List, ◌++◌, sym, ap, ◌∙◌, arith}
use Rattle.std.proofs.lemmas.List.{append_assoc}
use Rattle.http_range.specs.Honest.{IsFront}
use Rattle.cog_client.specs.Client.{ClientState}
use Rattle.cog_client.specs.FedClient.{Fed}
use Rattle.cog_client.specs.Keeps.{StopsDelivery}
use Rattle.world.proofs.Whole.{on_err_of, then_err_of}
use Rattle.world.proofs.handing.deliver_pieces.Goals as goal

pub loop-piece-preserved : goal.loop-piece-preserved
loop-piece-preserved c =
    let v = c.loop-piece.invariant in
    let s = c.in-Some.ensures.steps in
    let piece = c.in-Some.piece.now in
    record {
      came = v.came ++ piece;
      fed = c.in_ok-feed.ensures.ok c.args.client.now v.came v.fed;
      joins = append_assoc v.came piece c.next.new.self.rest.now ∙ ap (λ (t : List ℕ). v.came ++ t) (sym s.1.0) ∙ v.joins;
      some = omega (arith, s.0, v.some);
    }

pub returns-in_err-feed-clause-err : goal.returns-in_err-feed-clause-err
returns-in_err-feed-clause-err c =
    let v = c.loop-piece.invariant in
    let s = c.in-Some.ensures.steps in
    let piece = c.in-Some.piece.now in
    let later = c.next.new.self.rest.now in
    let goes = append_assoc v.came piece later ∙ ap (λ (t : List ℕ). v.came ++ t) (sym s.1.0) ∙ v.joins in
    on_err_of c.from_residual.result ((front : List ℕ) × IsFront front c.args.text.now × StopsDelivery c.args.client.now front c.feed.new.self)
    (v.came ++ piece, (later, goes), c.in_err-feed.ensures.err c.args.client.now v.came v.fed)

pub returns-clause-err : goal.returns-clause-err
returns-clause-err c =
    let v = c.loop-piece.invariant in
    then_err_of c.end.result (λ (stops : (s : ClientState) (p : List ℕ) → Fed s p c.loop-piece.client → StopsDelivery s p c.end.new.self).
    (v.came, (c.loop-piece.piece-iterator.rest.now, v.joins), stops c.args.client.now v.came v.fed)) c.end.ensures.err

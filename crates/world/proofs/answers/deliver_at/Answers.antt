use Rattle.std.proofs.Common.{◌≡◌, ℕ, List, Option, Some, sym, ap, ◌∙◌, subst}
use Rattle.std.specs.Prelude.{OnErr, option_copied, slice_get}
use Rattle.cog_server.specs.declared.server.Answer.{Answer}
use Rattle.http_range.specs.Honest.{IsFront}
use Rattle.cog_client.specs.Client.{ClientState}
use Rattle.world.specs.Run.{cut_at}
use Rattle.world.specs.State.{StopsAt, StopsDelivering}
use Rattle.world.proofs.Lists.{get_there}
use Rattle.world.proofs.Stopping.{stops_received}
use Rattle.world.proofs.Whole.{then_err_of}
use Rattle.world.proofs.answers.deliver_at.Goals as goal

pub returns-clause-err : goal.returns-clause-err
returns-clause-err c =
    let a = c.args in
    let answer = c.in-Some.answer.now in
    let cs = a.clients.now.items in
    let new = c.call_at.new.clients.items in
    let text : c.front-text.result.now ≡ cut_at a.cut answer.text.items = c.front-text.ensures ∙ ap (cut_at a.cut) c.deref-2.ensures.value in
    let seen = c.in-Some-get.client.now in
    let found = c.in-Some-get.ensures.lookup in
    let there : slice_get cs a.i ≡ Some seen =
    subst (λ (xs : List ClientState). slice_get xs a.i ≡ Some seen) c.deref.ensures.value (get_there c.deref.result.now a.i seen found.3.0 found.1) in
    let P : List ℕ → Type 0 = λ t. StopsAt (slice_get cs a.i) (λ c x. IsFront x t) a.i cs new in
    subst (λ (o : Option Answer). OnErr c.call_at.result (StopsDelivering o (slice_get cs a.i) a.cut a.i cs new)) (sym (ap option_copied c.in-Some.is))
    (then_err_of c.call_at.result (λ (h : P c.front-text.result.now). stops_received answer (slice_get cs a.i) a.cut a.i cs new seen there c.if-is_for.ensures (subst P text h)) c.call_at.ensures.err)

use Rattle.std.proofs.Common.{◌+◌, Some, ap, sym, ◌∙◌}
use Rattle.tiff_dir.specs.File.{directory, number, order_of, value}
use Rattle.known_fields.specs.Entry.{place_from, value_at}
use Rattle.known_fields.proofs.ReadsLemmas.{instead, none_then, settled}
use Rattle.known_fields.proofs.ValueLemmas.{by_place, value_by_place, value_gone, value_uncounted, value_unordered}
use Rattle.known_fields.proofs.value.known_value.Goals as goal

pub returns-in_err-order-clause-whole : goal.returns-in_err-order-clause-whole
returns-in_err-order-clause-whole g c =
    rw c.from_residual.ensures (none_then order_of (λ f. value f c.args.directory c.args.tag c.args.index)
    (λ f of none. value_unordered f c.args.directory c.args.tag c.args.index none) c.in_err-order.ensures).whole

pub returns-in_err-at-clause-whole : goal.returns-in_err-at-clause-whole
returns-in_err-at-clause-whole g c =
    rw c.from_residual-in_err-at.ensures (none_then (λ f. directory f c.args.directory) (λ f. value f c.args.directory c.args.tag c.args.index)
    (λ f of none. value_gone f c.args.directory c.args.tag c.args.index none) c.in_err-at.ensures.directory).whole

pub returns-in_err-entries-clause-whole : goal.returns-in_err-entries-clause-whole
returns-in_err-entries-clause-whole g c =
    rw c.from_residual-in_err-entries.ensures (none_then (λ f. number f c.from.result 2) (λ f. value f c.args.directory c.args.tag c.args.index)
    (λ f of none. value_uncounted f c.args.directory c.args.tag c.args.index c.in_ok-at.at c.from.result (c.in_ok-at.ensures.directory.known f of) c.from.ensures none) c.in_err-entries.ensures.number).whole

pub returns-in_err-place-clause-whole : goal.returns-in_err-place-clause-whole
returns-in_err-place-clause-whole g c =
    rw c.from_residual-in_err-place.ensures (none_then (λ f. place_from f (c.from-2.result + 2) c.in_ok-entries.entries c.args.tag) (λ f. value f c.args.directory c.args.tag c.args.index)
    (λ f of none. value_by_place f c.args.directory c.args.tag c.args.index c.in_ok-at.at c.from.result c.from-2.result c.in_ok-entries.entries
    (c.in_ok-at.ensures.directory.known f of) c.from.ensures c.from-2.ensures (c.in_ok-entries.ensures.number.known f of) ∙ ap (by_place f c.args.tag c.args.index) none) c.in_err-place.ensures.place).whole

pub returns-in-Some-clause-known : goal.returns-in-Some-clause-known
returns-in-Some-clause-known g c =
    (instead (λ f. value_at f c.in-Some.place c.args.index) (λ f. value f c.args.directory c.args.tag c.args.index) c.value_at.result
    (λ f of. value_by_place f c.args.directory c.args.tag c.args.index c.in_ok-at.at c.from.result c.from-2.result c.in_ok-entries.entries
    (c.in_ok-at.ensures.directory.known f of) c.from.ensures c.from-2.ensures (c.in_ok-entries.ensures.number.known f of)
    ∙ ap (by_place f c.args.tag c.args.index) (c.in_ok-place.ensures.place.known f of ∙ ap Some c.in-Some.is)) c.value_at.ensures).known

pub returns-in-Some-clause-whole : goal.returns-in-Some-clause-whole
returns-in-Some-clause-whole g c =
    (instead (λ f. value_at f c.in-Some.place c.args.index) (λ f. value f c.args.directory c.args.tag c.args.index) c.value_at.result
    (λ f of. value_by_place f c.args.directory c.args.tag c.args.index c.in_ok-at.at c.from.result c.from-2.result c.in_ok-entries.entries
    (c.in_ok-at.ensures.directory.known f of) c.from.ensures c.from-2.ensures (c.in_ok-entries.ensures.number.known f of)
    ∙ ap (by_place f c.args.tag c.args.index) (c.in_ok-place.ensures.place.known f of ∙ ap Some c.in-Some.is)) c.value_at.ensures).whole

pub returns-in-None-clause-known : goal.returns-in-None-clause-known
returns-in-None-clause-known g c =
    (settled {is_known = g.B.KnownBytes.is_known c.args.bytes.now} (λ f. value f c.args.directory c.args.tag c.args.index) c.default_of.result
    (λ f of. value_by_place f c.args.directory c.args.tag c.args.index c.in_ok-at.at c.from.result c.from-2.result c.in_ok-entries.entries
    (c.in_ok-at.ensures.directory.known f of) c.from.ensures c.from-2.ensures (c.in_ok-entries.ensures.number.known f of)
    ∙ ap (by_place f c.args.tag c.args.index) (c.in_ok-place.ensures.place.known f of ∙ ap Some c.in-None.is) ∙ sym c.default_of.ensures)).known

pub returns-in-None-clause-whole : goal.returns-in-None-clause-whole
returns-in-None-clause-whole g c =
    (settled (λ f. value f c.args.directory c.args.tag c.args.index) c.default_of.result
    (λ f of. value_by_place f c.args.directory c.args.tag c.args.index c.in_ok-at.at c.from.result c.from-2.result c.in_ok-entries.entries
    (c.in_ok-at.ensures.directory.known f of) c.from.ensures c.from-2.ensures (c.in_ok-entries.ensures.number.known f of)
    ∙ ap (by_place f c.args.tag c.args.index) (c.in_ok-place.ensures.place.known f of ∙ ap Some c.in-None.is) ∙ sym c.default_of.ensures)).whole

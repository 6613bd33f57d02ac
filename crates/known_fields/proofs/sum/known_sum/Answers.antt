use Rattle.std.proofs.Common.{◌≡◌, ℕ, ◌+◌, ◌*◌, ◌∙◌, ap, refl, Some, sym}
use Rattle.tiff_dir.specs.File.{size_of}
use Rattle.known_fields.proofs.SumLemmas.{sum_first, sum_next}
use Rattle.known_fields.proofs.sum.known_sum.Goals as goal

pub loop-index-init : goal.loop-index-init
loop-index-init g c = λ f of. sum_first f c.args.place.first (size_of c.args.place.kind)

pub loop-index-preserved : goal.loop-index-preserved
loop-index-preserved g c = λ f of.
    let index = c.loop-index.index in
    let place : c.args.place.first + c.from.result * c.size-size.result ≡ c.args.place.first + index * c.size-size.result =
    ap (λ i. c.args.place.first + i * c.size-size.result) c.from.ensures in
    sum_next f c.args.place.first (size_of c.args.place.kind) index (c.args.place.first + c.from.result * c.size-size.result) c.size-size.result (index + 1)
    c.loop-index.sum c.in_ok-value.value refl c.size-size.ensures.size place (c.loop-index.invariant f of) (c.in_ok-value.ensures.number.known f of)
    ∙ ap Some (sym c.in_ok-sum.ensures.1)

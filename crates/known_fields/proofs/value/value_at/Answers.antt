use Rattle.std.proofs.Common.{◌+◌, ◌*◌, None, Some, arith, sym, ◌∙◌}
use Rattle.std.specs.Prelude.{nat_le, if◌then◌else◌}
use Rattle.tiff_dir.specs.File.{number}
use Rattle.known_fields.specs.Entry.{value_at}
use Rattle.known_fields.proofs.ReadsLemmas.{instead, none_then, settled}
use Rattle.known_fields.proofs.EntryLemmas.{counted_number, counted_past, counted_unplaced, sized_counted, sized_uncounted, value_sized, value_unkind, value_untyped}
use Rattle.known_fields.proofs.value.value_at.Goals as goal

pub returns-in_err-kind : goal.returns-in_err-kind
returns-in_err-kind g c =
    rw c.from_residual.ensures (none_then (λ f. number f (c.args.place + 2) 2) (λ f. value_at f c.args.place c.args.index)
    (λ f of none. value_unkind f c.args.place c.args.index none) c.in_err-kind.ensures.number)

pub returns-in_err-kind_of : goal.returns-in_err-kind_of
returns-in_err-kind_of g c =
    rw c.from_residual-in_err-kind_of.ensures (settled (λ f. value_at f c.args.place c.args.index) None
    (λ f of. value_untyped f c.args.place c.args.index c.in_ok-kind.kind (c.in_ok-kind.ensures.number.known f of) (sym c.in_err-kind_of.ensures)))

pub returns-in_err-count : goal.returns-in_err-count
returns-in_err-count g c =
    rw c.from_residual-in_err-count.ensures (none_then (λ f. number f (c.args.place + 4) 4) (λ f. value_at f c.args.place c.args.index)
    (λ f of none. value_sized f c.args.place c.args.index c.in_ok-kind.kind c.in_ok-kind_of.field-0 c.size-size.result (c.in_ok-kind.ensures.number.known f of) (sym c.in_ok-kind_of.ensures) c.size-size.ensures.size
    ∙ sized_uncounted f c.args.place c.args.index c.size-size.result none) c.in_err-count.ensures.number)

pub returns-in_err-at : goal.returns-in_err-at
returns-in_err-at g c =
    rw c.from_residual-in_err-at.ensures (none_then (λ f. if nat_le (c.from.result * c.size-size.result) 4 then Some (c.args.place + 8) else number f (c.args.place + 8) 4) (λ f. value_at f c.args.place c.args.index)
    (λ f of none. value_sized f c.args.place c.args.index c.in_ok-kind.kind c.in_ok-kind_of.field-0 c.size-size.result (c.in_ok-kind.ensures.number.known f of) (sym c.in_ok-kind_of.ensures) c.size-size.ensures.size
    ∙ sized_counted f c.args.place c.args.index c.size-size.result c.in_ok-count.count c.from.result (c.in_ok-count.ensures.number.known f of) c.from.ensures
    ∙ counted_unplaced f c.args.place c.args.index c.size-size.result c.from.result none) c.in_err-at.ensures.at)

pub returns-then-index-count : goal.returns-then-index-count
returns-then-index-count g c =
    settled (λ f. value_at f c.args.place c.args.index) None
    (λ f of. value_sized f c.args.place c.args.index c.in_ok-kind.kind c.in_ok-kind_of.field-0 c.size-size.result (c.in_ok-kind.ensures.number.known f of) (sym c.in_ok-kind_of.ensures) c.size-size.ensures.size
    ∙ sized_counted f c.args.place c.args.index c.size-size.result c.in_ok-count.count c.from.result (c.in_ok-count.ensures.number.known f of) c.from.ensures
    ∙ counted_past f c.args.place c.args.index c.size-size.result c.from.result c.in_ok-at.at (c.in_ok-at.ensures.at.known f of) (omega (arith, c.if-index-count.true, c.from.ensures)))

pub returns : goal.returns
returns g c =
    instead (λ f. number f (c.in_ok-at.at + c.from-2.result * c.size-size.result) c.size-size.result) (λ f. value_at f c.args.place c.args.index) c.number.result
    (λ f of. value_sized f c.args.place c.args.index c.in_ok-kind.kind c.in_ok-kind_of.field-0 c.size-size.result (c.in_ok-kind.ensures.number.known f of) (sym c.in_ok-kind_of.ensures) c.size-size.ensures.size
    ∙ sized_counted f c.args.place c.args.index c.size-size.result c.in_ok-count.count c.from.result (c.in_ok-count.ensures.number.known f of) c.from.ensures
    ∙ counted_number f c.args.place c.args.index c.from-2.result c.size-size.result c.from.result c.in_ok-at.at (c.in_ok-at.ensures.at.known f of) (omega (arith, c.if-index-count.false, c.from.ensures)) c.from-2.ensures)
    c.number.ensures.number

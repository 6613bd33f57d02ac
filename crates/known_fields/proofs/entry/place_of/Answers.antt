use Rattle.std.proofs.Common.{◌+◌, ◌*◌, ◌-◌, None, Some, arith, sym, ◌∙◌}
use Rattle.std.proofs.lemmas.Bool.{eq-eqb, ne_eqb}
use Rattle.tiff_dir.specs.File.{number}
use Rattle.known_fields.specs.Entry.{place_from}
use Rattle.known_fields.proofs.ReadsLemmas.{none_then, settled}
use Rattle.known_fields.proofs.EntryLemmas.{place_end, place_here, place_none, place_on}
use Rattle.known_fields.proofs.entry.place_of.Goals as goal

pub returns-in_err-short-clause-place : goal.returns-in_err-short-clause-place
returns-in_err-short-clause-place g c =
    rw c.from_residual.ensures (none_then (λ f. number f (c.args.first + 12 * c.loop-i.i) 2) (λ f. place_from f c.args.first c.args.entries c.args.tag)
    (λ f of none. sym (c.loop-i.invariant f of) ∙ place_none f _ (c.args.entries - c.loop-i.i) (c.args.entries - (c.loop-i.i + 1)) c.args.tag (omega (arith, c.loop-i-test.true, c.from-i-end.ensures)) none)
    c.in_err-short.ensures.number)

pub returns-then-branch-tag-clause-place : goal.returns-then-branch-tag-clause-place
returns-then-branch-tag-clause-place g c =
    settled (λ f. place_from f c.args.first c.args.entries c.args.tag) (Some (Some (c.args.first + 12 * c.loop-i.i)))
    (λ f of. sym (c.loop-i.invariant f of) ∙ place_here f _ (c.args.entries - c.loop-i.i) (c.args.entries - (c.loop-i.i + 1)) c.args.tag c.in_ok-short.field-0 (omega (arith, c.loop-i-test.true, c.from-i-end.ensures))
    (c.in_ok-short.ensures.number.known f of) (eq-eqb _ _ c.if-branch-tag.true))

pub loop-i-preserved : goal.loop-i-preserved
loop-i-preserved g c = λ f of.
    sym (place_on f (c.args.first + 12 * c.loop-i.i) (c.args.first + 12 * (c.loop-i.i + 1)) (c.args.entries - c.loop-i.i) (c.args.entries - (c.loop-i.i + 1)) c.args.tag c.in_ok-short.field-0 (omega arith) (omega (arith, c.loop-i-test.true, c.from-i-end.ensures))
    (c.in_ok-short.ensures.number.known f of) (ne_eqb _ _ c.if-branch-tag.false)) ∙ c.loop-i.invariant f of

pub returns-clause-place : goal.returns-clause-place
returns-clause-place g c =
    settled (λ f. place_from f c.args.first c.args.entries c.args.tag) (Some None)
    (λ f of. sym (c.loop-i.invariant f of) ∙ place_end f _ _ c.args.tag (omega (arith, c.loop-i-test.false, c.from-i-end.ensures)))

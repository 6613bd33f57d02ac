use Rattle.std.proofs.Common.{◌+◌, ◌*◌, arith, refl, ◌∙◌}
use Rattle.tiff_dir.specs.File.{directory, number}
use Rattle.known_fields.proofs.ReadsLemmas.{none_then}
use Rattle.known_fields.proofs.EntryLemmas.{directory_ends, directory_first, directory_next, directory_uncounted}
use Rattle.known_fields.proofs.entry.directory_at.Goals as goal

pub returns-in_err-at-clause-directory : goal.returns-in_err-at-clause-directory
returns-in_err-at-clause-directory g c =
    rw c.from_residual.ensures (none_then (λ f. number f 4 4) (λ f. directory f c.args.index)
    (λ f of none. directory_ends f 0 c.args.index (omega arith) (directory_first f ∙ none)) c.in_err-at.ensures.number)

pub loop-i-init : goal.loop-i-init
loop-i-init g c = record { fits = c.in_ok-at.ensures.fits; here = λ f of. directory_first f ∙ c.in_ok-at.ensures.number.known f of }

pub returns-in_err-entries-clause-directory : goal.returns-in_err-entries-clause-directory
returns-in_err-entries-clause-directory g c =
    rw c.from_residual-in_err-entries.ensures (none_then (λ f. number f c.from.result 2) (λ f. directory f c.args.index)
    (λ f of none. let past = c.loop-i-test.true in directory_ends f (c.loop-i.i + 1) c.args.index (omega arith)
    (directory_uncounted f c.loop-i.i (c.loop-i.i + 1) c.loop-i.at c.from.result refl (c.loop-i.invariant.here f of) c.from.ensures none)) c.in_err-entries.ensures.number)

pub returns-in_err-at-2-clause-directory : goal.returns-in_err-at-2-clause-directory
returns-in_err-at-2-clause-directory g c =
    rw c.from_residual-in_err-at-2.ensures (none_then (λ f. number f (c.from-in-loop-i.result + 2 + 12 * c.from-in-loop-i-2.result) 4) (λ f. directory f c.args.index)
    (λ f of none. let past = c.loop-i-test.true in directory_ends f (c.loop-i.i + 1) c.args.index (omega arith)
    (directory_next f c.loop-i.i (c.loop-i.i + 1) c.loop-i.at c.in_ok-entries.entries c.from.result c.from-in-loop-i.result c.from-in-loop-i-2.result refl
    (c.loop-i.invariant.here f of) c.from.ensures c.from-in-loop-i.ensures c.from-in-loop-i-2.ensures (c.in_ok-entries.ensures.number.known f of) ∙ none)) c.in_err-at-2.ensures.number)

pub loop-i-preserved : goal.loop-i-preserved
loop-i-preserved g c = record {
  fits = c.in_ok-at-2.ensures.fits;
  here = λ f of.
      directory_next f c.loop-i.i (c.loop-i.i + 1) c.loop-i.at c.in_ok-entries.entries c.from.result c.from-in-loop-i.result c.from-in-loop-i-2.result refl
      (c.loop-i.invariant.here f of) c.from.ensures c.from-in-loop-i.ensures c.from-in-loop-i-2.ensures (c.in_ok-entries.ensures.number.known f of)
      ∙ c.in_ok-at-2.ensures.number.known f of;
}

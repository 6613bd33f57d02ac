use Rattle.std.proofs.Common.{◌≡◌, ℕ, ◌+◌, ◌-◌, length, arith, refl, sym, ap, subst, ◌∙◌}
use Rattle.std.specs.Prelude.{slice_range}
use Rattle.extents.specs.Extent.{extent_of_span}
use Rattle.range_cache.specs.Cache.{Blocks, bytes_at}
use Rattle.cog_reader.specs.Going.{IsMissingWithRoom}
use Rattle.cog_reader.proofs.GoingLemmas.{given, lacking, read}
use Rattle.cog_reader.proofs.going.give_next.Goals as goal

pub returns-in_ok-give_held-in-Ok-clause-goes : goal.returns-in_ok-give_held-in-Ok-clause-goes
returns-in_ok-give_held-in-Ok-clause-goes c =
    let a = c.args in
    let e = c.in-Ok.ensures in
    let t = c.in_ok-give_held-in-Ok.ensures.takes in
    let old = a.reader.now in
    let len : ℕ = a.span.last - a.span.first + 1 in
    let some = a.span.ascending in
    let size : len ≡ a.span.last + 1 - a.span.first = omega arith in
    given old c.give_held.new.reader a.cache.now c.touch.new.self (extent_of_span a.span) (bytes_at c.touch.new.self a.span.first len) c.requires.wanted
    (λ f agrees holds.
    let known : length f ≡ c.file_length.result = c.law_lengths_are_known.ensures old f agrees ∙ sym c.file_length.ensures in
    let inside = c.requires.inside in
    e.bytes f (omega arith) holds ∙ ap (λ n. slice_range f a.span.first (a.span.first + n)) size)
    t (read old a.cache.now c.touch.new.self (ap (λ (b : Blocks). b.capacity) e.entries) e.kept e.holds)

pub returns-in-Err-clause-given : goal.returns-in-Err-clause-given
returns-in-Err-clause-given c =
    let a = c.args in
    let e = c.in-Err.ensures in
    let some = a.span.ascending in
    let inside = c.requires.inside in
    let small = c.requires.small in
    let file_length = c.file_length.ensures in
    let len : ℕ = a.span.last - a.span.first + 1 in (
      refl,
      subst (λ n. IsMissingWithRoom c.touch.new.self n (extent_of_span a.span) 0 c.span_of.result) file_length
          (lacking c.law_missing_is_exact.ensures.run c.law_missing_is_exact.ensures.few a.cache.now c.touch.new.self c.file_length.result len (extent_of_span a.span) c.in-Err.missing c.span_of.result
          (omega arith) (omega arith) (omega arith) (omega arith) (omega (arith, e.sound.least, ap (λ (b : Blocks). b.capacity) e.entries)) e.same e.exact e.led c.span_of.ensures.first c.span_of.ensures.last),
    )

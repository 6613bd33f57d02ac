use Rattle.std.proofs.Common.{◌≡◌, true, sym, ◌∙◌}
use Rattle.std.specs.Prelude.{codes, nat_eq}
use Rattle.std.specs.List.{starts_with}
use Rattle.http_range.specs.ContentRange.{range_of}
use Rattle.http_range.proofs.reading.range_of.Goals as goal

pub returns-clause-value : goal.returns-clause-value
unfolding range_of
returns-clause-value c =
    let begins : starts_with nat_eq c.args.text.now (codes "bytes ") ≡ true = sym c.starts_with.ensures.value ∙ c.if-not-starts_with.false in
    rw (
      begins,
      c.range_of_numbers.ensures.value,
      c.number_64.ensures,
      c.number_64-2.ensures,
      c.number_64-3.ensures,
      c.split_first-2.ensures.front,
      c.split_first-2.ensures.back,
      c.split_first.ensures.front,
      c.split_first.ensures.back,
      c.after.ensures,
    )

use Rattle.std.proofs.Common.{◌+◌, Some, arith, sym, ap, ◌∙◌}
use Rattle.std.specs.Prelude.{◌≢◌}
use Rattle.std.proofs.lemmas.List.Elements.{All-push, All-same}
use Rattle.std.proofs.lemmas.Option.{none-some, same_Some}
use Rattle.tiff_dir.specs.File.{value}
use Rattle.text_description.proofs.NoDataLemmas.{bytes_more, ended, next_below, whole_text}
use Rattle.text_description.proofs.no_data.no_data_text.Goals as goal
use Rattle.text_description.proofs.no_data.no_data_text.Goals.{in_default-via-in-Some+else-byte-lt256, in_default-via-in_default}

pub returns-in-Some-eq0-clause-whole : goal.returns-in-Some-eq0-clause-whole
returns-in-Some-eq0-clause-whole g c = λ f of all text is short.
    let so_far = c.loop-index.invariant in
    whole_text f c.loop-index.text.items (so_far.bytes f of) so_far.first text is
    (ap (value f 0 42113) so_far.long ∙ c.in-Some-eq0.ensures.known f of ∙ ap Some c.in-Some-eq0.field-0-test)

pub returns-in_default-clause-whole : goal.returns-in_default-clause-whole
returns-in_default-clause-whole g c = λ f of all text is short.
    let so_far = c.loop-index.invariant in
    let next = next_below f c.loop-index.text.items (so_far.bytes f of) so_far.first text is short in
    let here = sym (ap (value f 0 42113) so_far.long) ∙ next.1 in
    elim c.in_default.branch [
      | in_default-via-in-Some+else-byte-lt256 w ↦ (
          let same = same_Some w.in-Some.byte next.0 (sym (w.in-Some.ensures.known f of) ∙ here) in
          absurd (omega (arith, same, next.2, w.if-byte-lt256.false)))
      | in_default-via-in_default w ↦ absurd (none-some next.0 (sym w.in_default.is ∙ c.known_value.ensures.whole f of all ∙ here))
    ]

pub loop-index-preserved : goal.loop-index-preserved
loop-index-preserved g c = record {
  long = omega (arith, c.loop-index.invariant.long, c.in_ok-push-in-Some.ensures.len);
  bytes = λ f of. bytes_more f c.loop-index.text.items c.push.new.self.items c.loop-index.index c.in-Some.byte c.in_ok-push-in-Some.ensures.items
      c.loop-index.invariant.long (c.loop-index.invariant.bytes f of) (c.in-Some.ensures.known f of);
  first = All-same (λ byte. byte ≢ 0) c.push.new.self.items _ c.in_ok-push-in-Some.ensures.items
      (All-push (λ byte. byte ≢ 0) c.loop-index.text.items c.in-Some.byte c.loop-index.invariant.first c.in-Some.byte-test.1);
}

pub returns-clause-whole : goal.returns-clause-whole
returns-clause-whole g c = λ f of all text is short.
    absurd (omega (
      arith,
      ended f c.loop-index.text.items (c.loop-index.invariant.bytes f of) c.loop-index.invariant.first _ is.ends,
      short.0,
      c.loop-index.invariant.long,
      c.loop-index-test.false,
    ))

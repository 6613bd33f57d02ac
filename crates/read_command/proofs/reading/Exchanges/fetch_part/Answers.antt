use Rattle.std.proofs.Common.{None, arith, inl, inr, refl, rules, zero}
use Rattle.tiff_dir.specs.declared.query.Query.TheVariants.{Info}
use Rattle.read_command.specs.declared.reading.Asked.TheVariants.{Part}
use Rattle.read_command.proofs.OpenLemmas.{asks_query, asks_same, asks_part, ended_early, ended_part, opened_query, opened_reads, reads_more, replaced, replaced_more, stops_more}
use Rattle.read_command.proofs.FetchLemmas.{none_fetched}
use Rattle.read_command.proofs.UsedLemmas.{answered_early, answered_part, opened_tag, used_one}
use Rattle.read_command.proofs.reading.Exchanges.fetch_part.Goals as goal

pub returns-in_err-fetch-clause-reads : goal.returns-in_err-fetch-clause-reads
returns-in_err-fetch-clause-reads g c = λ book reads.
    c.fetch.ensures.keeps.reads book (opened_reads _ Info c.loop.client c.open.new.self book c.open.ensures (c.loop.invariant.reads book reads))

pub returns-in_default-clause-reads : goal.returns-in_default-clause-reads
returns-in_default-clause-reads g c = λ book reads.
    c.fetch.ensures.keeps.reads book (opened_reads _ Info c.loop.client c.open.new.self book c.open.ensures (c.loop.invariant.reads book reads))

pub returns-in_default-clause-asks : goal.returns-in_default-clause-asks
returns-in_default-clause-asks g c = λ book reads.
    let is = asks_query _ _ Info c.loop.client c.open.new.self c.fetch.new.client c.open.ensures c.fetch.ensures.keeps in
    asks_same book (Part c.args.part) Info None c.fetch.new.client is (λ p. inl refl)

pub returns-in_err-fetch-2-clause-reads : goal.returns-in_err-fetch-2-clause-reads
returns-in_err-fetch-2-clause-reads g c = λ book reads.
    let first = c.fetch.ensures.keeps.reads book (opened_reads _ Info c.loop.client c.open.new.self book c.open.ensures (c.loop.invariant.reads book reads)) in
    c.fetch-in-loop.ensures.keeps.reads book (opened_reads _ c.in-Some.given.window c.fetch.new.client c.open-in-loop.new.self book c.open-in-loop.ensures first)

pub returns-then-not-has_another_tag-clause-reads : goal.returns-then-not-has_another_tag-clause-reads
returns-then-not-has_another_tag-clause-reads g c = λ book reads.
    let first = c.fetch.ensures.keeps.reads book (opened_reads _ Info c.loop.client c.open.new.self book c.open.ensures (c.loop.invariant.reads book reads)) in
    c.fetch-in-loop.ensures.keeps.reads book (opened_reads _ c.in-Some.given.window c.fetch.new.client c.open-in-loop.new.self book c.open-in-loop.ensures first)

pub returns-then-not-has_another_tag-clause-asks : goal.returns-then-not-has_another_tag-clause-asks
returns-then-not-has_another_tag-clause-asks g c = λ book reads.
    let first = c.fetch.ensures.keeps.reads book (opened_reads _ Info c.loop.client c.open.new.self book c.open.ensures (c.loop.invariant.reads book reads)) in
    let is = asks_query _ _ c.in-Some.given.window c.fetch.new.client c.open-in-loop.new.self c.fetch-in-loop.new.client c.open-in-loop.ensures c.fetch-in-loop.ensures.keeps in
    asks_part book c.args.part c.in-Some.tag c.in-Some.given.window c.in-Some.given.world c.fetch-in-loop.new.client is (c.has_another_tag.ensures.same c.if-not-has_another_tag.true) (c.in-Some.ensures.given book first.distinct first.agrees)

pub loop-preserved : goal.loop-preserved
loop-preserved g c = record {
  reads = λ book reads.
      let first = c.fetch.ensures.keeps.reads book (opened_reads _ Info c.loop.client c.open.new.self book c.open.ensures (c.loop.invariant.reads book reads)) in
      c.fetch-in-loop.ensures.keeps.reads book (opened_reads _ c.in-Some.given.window c.fetch.new.client c.open-in-loop.new.self book c.open-in-loop.ensures first);
  few = omega (arith, c.loop.invariant.few, c.fetch.ensures.few, c.fetch-in-loop.ensures.few);
  queries =
      let first = reads_more (Part c.args.part) Info c.args.client.now c.loop.client c.open.new.self c.fetch.new.client (inl refl) c.loop.invariant.queries c.open.ensures c.in_ok-fetch.ensures.fetches in
      reads_more (Part c.args.part) c.in-Some.given.window c.args.client.now c.fetch.new.client c.open-in-loop.new.self c.fetch-in-loop.new.client (inr c.in-Some.ensures.asked) first c.open-in-loop.ensures c.in_ok-fetch-2.ensures.fetches;
  used = λ book reads.
      let first = c.fetch.ensures.keeps.reads book (opened_reads _ Info c.loop.client c.open.new.self book c.open.ensures (c.loop.invariant.reads book reads)) in
      let second = c.fetch-in-loop.ensures.keeps.reads book (opened_reads _ c.in-Some.given.window c.fetch.new.client c.open-in-loop.new.self book c.open-in-loop.ensures first) in
      let one = used_one _ _ c.in-Some.tag c.fetch.new.client c.open-in-loop.new.self c.fetch-in-loop.new.client c.in_ok-fetch-2.ensures.more c.in_ok-fetch-2.ensures.still
      (opened_tag c.in-Some.given.window c.fetch.new.client c.open-in-loop.new.self c.open-in-loop.ensures) (c.in-Some.ensures.tagged book first.agrees)
      (c.has_another_tag.ensures.tagged book second.agrees c.if-not-has_another_tag.false) in
      omega (arith, c.loop.invariant.used book reads, c.in_ok-fetch.ensures.more, one);
  replaced =
      let a = Part c.args.part in
      let sides = reads_more a Info c.loop.client c.loop.client c.open.new.self c.fetch.new.client (inl refl) (zero, refl) c.open.ensures c.in_ok-fetch.ensures.fetches in
      let window = reads_more a c.in-Some.given.window c.fetch.new.client c.fetch.new.client c.open-in-loop.new.self c.fetch-in-loop.new.client (inr c.in-Some.ensures.asked) (zero, refl) c.open-in-loop.ensures c.in_ok-fetch-2.ensures.fetches in
      let other = replaced c.fetch.new.client c.fetch-in-loop.new.client c.in-Some.tag c.in-Some.ensures.told (c.has_another_tag.ensures.other c.if-not-has_another_tag.false) in
      replaced_more a c.loop.counter c.args.client.now c.loop.client c.fetch.new.client c.fetch-in-loop.new.client c.loop.invariant.replaced sides window other;
}

pub returns-clause-reads : goal.returns-clause-reads
returns-clause-reads g c = λ book reads. opened_reads _ Info c.loop.client c.open-2.new.self book c.open-2.ensures (c.loop.invariant.reads book reads)

pub returns-clause-asks : goal.returns-clause-asks
returns-clause-asks g c = λ book reads.
    asks_same book (Part c.args.part) Info None c.open-2.new.self (opened_query Info c.loop.client c.open-2.new.self c.open-2.ensures) (λ p. inl refl)

pub returns-clause-queries : goal.returns-clause-queries
returns-clause-queries g c =
    reads_more (Part c.args.part) Info c.args.client.now c.loop.client c.open-2.new.self c.open-2.new.self (inl refl) c.loop.invariant.queries c.open-2.ensures (none_fetched c.open-2.new.self)

pub returns-in_default-clause-queries : goal.returns-in_default-clause-queries
returns-in_default-clause-queries g c =
    reads_more (Part c.args.part) Info c.args.client.now c.loop.client c.open.new.self c.fetch.new.client (inl refl) c.loop.invariant.queries c.open.ensures c.in_ok-fetch.ensures.fetches

pub returns-then-not-has_another_tag-clause-queries : goal.returns-then-not-has_another_tag-clause-queries
returns-then-not-has_another_tag-clause-queries g c =
    let first = reads_more (Part c.args.part) Info c.args.client.now c.loop.client c.open.new.self c.fetch.new.client (inl refl) c.loop.invariant.queries c.open.ensures c.in_ok-fetch.ensures.fetches in
    reads_more (Part c.args.part) c.in-Some.given.window c.args.client.now c.fetch.new.client c.open-in-loop.new.self c.fetch-in-loop.new.client (inr c.in-Some.ensures.asked) first c.open-in-loop.ensures c.in_ok-fetch-2.ensures.fetches

pub returns-in_err-fetch-clause-stops : goal.returns-in_err-fetch-clause-stops
returns-in_err-fetch-clause-stops g c =
    stops_more c.from_residual.result (Part c.args.part) Info c.args.client.now c.loop.client c.open.new.self c.fetch.new.client (inl refl) c.loop.invariant.queries c.open.ensures c.in_err-fetch.ensures.stops

pub returns-in_err-fetch-2-clause-stops : goal.returns-in_err-fetch-2-clause-stops
returns-in_err-fetch-2-clause-stops g c =
    let first = reads_more (Part c.args.part) Info c.args.client.now c.loop.client c.open.new.self c.fetch.new.client (inl refl) c.loop.invariant.queries c.open.ensures c.in_ok-fetch.ensures.fetches in
    stops_more c.from_residual-in_err-fetch-2.result (Part c.args.part) c.in-Some.given.window c.args.client.now c.fetch.new.client c.open-in-loop.new.self c.fetch-in-loop.new.client (inr c.in-Some.ensures.asked) first c.open-in-loop.ensures c.in_err-fetch-2.ensures.stops

pub returns-in_default-clause-ends : goal.returns-in_default-clause-ends
returns-in_default-clause-ends g c =
    let is = asks_query _ _ Info c.loop.client c.open.new.self c.fetch.new.client c.open.ensures c.fetch.ensures.keeps in
    ended_early c.args.part Info c.args.client.now c.fetch.new.client _ _ is (search rules) c.in_ok-fetch.ensures.ends

pub returns-then-not-has_another_tag-clause-ends : goal.returns-then-not-has_another_tag-clause-ends
returns-then-not-has_another_tag-clause-ends g c =
    let is = asks_query _ _ c.in-Some.given.window c.fetch.new.client c.open-in-loop.new.self c.fetch-in-loop.new.client c.open-in-loop.ensures c.fetch-in-loop.ensures.keeps in
    ended_part c.args.part c.in-Some.given.window c.args.client.now c.fetch-in-loop.new.client _ _ is c.in-Some.ensures.window c.in_ok-fetch-2.ensures.ends

pub returns-clause-ends : goal.returns-clause-ends
returns-clause-ends g c =
    let again = reads_more (Part c.args.part) Info c.loop.client c.loop.client c.open-2.new.self c.open-2.new.self (inl refl) (zero, refl) c.open-2.ensures (none_fetched c.open-2.new.self) in
    inr (inr (c.loop.counter, c.loop.client, c.loop-test.false, c.loop.invariant.replaced, again))

pub returns-in_default-clause-answered : goal.returns-in_default-clause-answered
returns-in_default-clause-answered g c = λ book reads.
    let is = asks_query _ _ Info c.loop.client c.open.new.self c.fetch.new.client c.open.ensures c.fetch.ensures.keeps in
    answered_early c.args.part Info c.fetch.new.client _ _ is (search rules) c.in_ok-fetch.ensures.ends

pub returns-then-not-has_another_tag-clause-answered : goal.returns-then-not-has_another_tag-clause-answered
returns-then-not-has_another_tag-clause-answered g c = λ book reads.
    let is = asks_query _ _ c.in-Some.given.window c.fetch.new.client c.open-in-loop.new.self c.fetch-in-loop.new.client c.open-in-loop.ensures c.fetch-in-loop.ensures.keeps in
    answered_part c.args.part c.in-Some.given.window c.fetch-in-loop.new.client _ _ is c.in-Some.ensures.window c.in_ok-fetch-2.ensures.ends

pub returns-clause-answered : goal.returns-clause-answered
returns-clause-answered g c = λ book reads. inl (omega (arith, c.loop-test.false, c.loop.invariant.used book reads))

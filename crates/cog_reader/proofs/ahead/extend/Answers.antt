use Rattle.std.proofs.Common.{arith, sym}
use Rattle.cog_reader.specs.Reader.{file_length_of}
use Rattle.cog_reader.specs.Going.{work}
use Rattle.cog_reader.proofs.AheadLemmas.{lies, looks_ahead}
use Rattle.cog_reader.proofs.ahead.extend.Goals as goal

pub reach-end-requires-clause-low : goal.reach-end-requires-clause-low
reach-end-requires-clause-low c =
    let a = c.args in
    let l = lies c.law_missing_is_exact.ensures.run a.cache.now (file_length_of a.reader.now) a.range a.missing c.present-present.result c.requires.missing.0 c.present-present.ensures in
    let least = c.capacity.ensures.sound.least in
    let exact = c.capacity.ensures.exact in
    omega (arith, l.from_is, l.to_is, l.some, l.fits, l.small, least, exact)

pub returns : goal.returns
returns c =
    let a = c.args in
    let l = lies c.law_missing_is_exact.ensures.run a.cache.now (file_length_of a.reader.now) a.range a.missing c.present-present.result c.requires.missing.0 c.present-present.ensures in
    let least = c.capacity.ensures.sound.least in
    let exact = c.capacity.ensures.exact in
    let r = c.reach-end.ensures in
    looks_ahead (work a.reader.now a.cache.now) c.file_length.result a.range a.missing _ a.ahead c.present-present.result c.capacity.result c.min-limit.result c.reach-end.result
    (sym c.file_length.ensures) c.requires.missing.0 c.requires.missing.1 l c.requires.wanted c.requires.next exact (omega (arith, l.fits, l.small, least, exact)) (omega arith) r.low r.high r.inside r.gone r.wanted r.needed (omega (arith, c.span_of_blocks.ensures.first, c.requires.missing.0.first, c.requires.missing.0.lacks.first_is)) c.span_of_blocks.ensures.last

use Rattle.std.proofs.Common.{arith}
use Rattle.cog_reader.specs.Going.{work}
use Rattle.cog_reader.proofs.GoingLemmas.{goes_trans, needed}
use Rattle.cog_reader.proofs.going.fill.Goals as goal

pub returns-in_err-missing-clause-goes : goal.returns-in_err-missing-clause-goes
returns-in_err-missing-clause-goes c =
    let l = c.loop-span in
    let e = c.in_ok-span.ensures in
    goes_trans (work c.args.reader.now c.args.cache.now) (work c.need.new.self l.cache) (work c.give_next.new.reader c.give_next.new.cache)
    (goes_trans (work c.args.reader.now c.args.cache.now) (work l.reader l.cache) (work c.need.new.self l.cache) l.invariant.goes
    (needed l.reader c.need.new.self l.cache e.file_length e.query e.tiles e.agrees e.come (c.law_nothing_comes.ensures.answered c.need.new.self) e.held))
    c.in_err-missing.ensures.goes

pub loop-span-preserved : goal.loop-span-preserved
loop-span-preserved c =
    let l = c.loop-span in
    let e = c.in_ok-span.ensures in
    record {
      goes =
          goes_trans (work c.args.reader.now c.args.cache.now) (work c.need.new.self l.cache) (work c.give_next.new.reader c.give_next.new.cache)
          (goes_trans (work c.args.reader.now c.args.cache.now) (work l.reader l.cache) (work c.need.new.self l.cache) l.invariant.goes
          (needed l.reader c.need.new.self l.cache e.file_length e.query e.tiles e.agrees e.come (c.law_nothing_comes.ensures.answered c.need.new.self) e.held))
          c.in_ok-missing.ensures.goes;
      room = omega (arith, c.in_ok-missing.ensures.room, l.invariant.room);
    }

pub returns-clause-goes : goal.returns-clause-goes
returns-clause-goes c =
    let l = c.loop-span in
    let e = c.in_ok-span.ensures in
    goes_trans (work c.args.reader.now c.args.cache.now) (work l.reader l.cache) (work c.need.new.self l.cache) l.invariant.goes
    (needed l.reader c.need.new.self l.cache e.file_length e.query e.tiles e.agrees e.come (c.law_nothing_comes.ensures.answered c.need.new.self) e.held)

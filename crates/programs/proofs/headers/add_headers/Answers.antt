use Rattle.std.proofs.Common.{rules}
use Rattle.programs.proofs.HeaderLemmas.{none_added, one_added}
use Rattle.programs.proofs.headers.add_headers.Goals as goal

pub loop-word-init : goal.loop-word-init
loop-word-init g c = none_added c.args.client.now

pub loop-word-preserved : goal.loop-word-preserved
loop-word-preserved g c =
    let added = c.in_ok-add_header.ensures.ok in
    one_added c.args.words.now c.loop-word.word-index _ added.0 c.args.client.now c.loop-word.client c.add_header.new.client c.loop-word.invariant (search rules) added.1 added.2

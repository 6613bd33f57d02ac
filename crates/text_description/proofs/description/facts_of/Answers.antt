use Rattle.std.proofs.Common.{◌≡◌, ℕ, List, Some, Option, subst, sym}
use Rattle.std.specs.Prelude.{IfSome}
use Rattle.cog_client.specs.Client.{Knows}
use Rattle.tiff_dir.specs.File.{size_of}
use Rattle.known_fields.specs.Sum.{sum_at}
use Rattle.text_description.proofs.LevelLemmas.{next_one}
use Rattle.text_description.proofs.description.facts_of.Goals as goal

pub loop-level-preserved : goal.loop-level-preserved
loop-level-preserved c =
    let level = c.level-item.result in
    let IsSum : Option ℕ → Type 0 = λ o. IfSome o (λ n. (f : List ℕ) → Knows f c.args.client.now
    → sum_at f level.counts.first (size_of level.counts.kind) level.counts.count ≡ Some n) in
    next_one c.args.client.now c.args.levels.now c.loop-level.level-index level c.loop-level.facts.items c.push.new.self.items c.of.result
    c.loop-level.invariant c.loop-level-test.true c.level-item.is
    (record { seen = c.of.ensures.facts; bytes = subst IsSum (sym c.of.ensures.bytes) c.known_sum.ensures.known })
    c.in_ok-push.ensures.items

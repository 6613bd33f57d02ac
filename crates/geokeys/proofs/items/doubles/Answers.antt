use Rattle.std.proofs.Common.{◌≡◌, ℕ, ◌+◌, ◌*◌, ◌/◌, ◌<◌, ◌≤◌, List, [], ◌∷◌, ◌++◌, length, drop, map, subst, sym, ap, ◌∙◌, arith, length-append}
use Rattle.std.proofs.lemmas.List.FromFn.{map-range_with_len_more}
use Rattle.std.specs.List.{range_with_len, slice_range}
use Rattle.geokeys.specs.Doubles.{big_first, doubles_in}
use Rattle.geokeys.proofs.Chunks.{Goes, item_next, items_end}
use Rattle.geokeys.proofs.items.doubles.Goals as goal

pub loop-item-preserved : goal.loop-item-preserved
loop-item-preserved c =
    let bytes = c.args.bytes.now in
    let old = c.loop-item.items.items in
    let new = c.push.new.self.items in
    let n : ℕ = length old in
    let kept = c.loop-item.invariant in
    let steps = c.in-Some.ensures.steps in
    let pushed : new ≡ old ++ c.big_first.result ∷ [] = c.in_ok-push.ensures.items in
    let count : length new ≡ n + 1 = ap length pushed ∙ length-append old (c.big_first.result ∷ []) in
    let goes : Goes bytes c.in-Some.item.now c.next.new.self.rest.now n = item_next bytes c.in-Some.item.now c.loop-item.item-iterator.rest.now c.next.new.self.rest.now n kept.within kept.rest steps.1.0
    (steps.1.1 ∙ kept.size) in
    let item : ℕ → List ℕ = λ i. big_first c.args.order (slice_range bytes (8 * i) (8 * i + 8)) in
    let here : c.big_first.result ≡ item n = c.big_first.ensures ∙ ap (big_first c.args.order) goes.is in
    record {
      size = steps.0 ∙ kept.size;
      within = subst (λ k. 8 * k ≤ length bytes) (sym count) goes.within;
      rest = goes.rest_is ∙ ap (λ k. drop (8 * k) bytes) (sym count);
      items = pushed
          ∙ ap (λ items. items ++ c.big_first.result ∷ []) kept.items
          ∙ ap (λ bytes. map item (range_with_len 0 n) ++ bytes ∷ []) here
          ∙ sym (map-range_with_len_more item 0 n n (omega arith))
          ∙ ap (λ k. map item (range_with_len 0 k)) (sym count);
    }

pub returns : goal.returns
unfolding doubles_in
returns c =
    let bytes = c.args.bytes.now in
    let kept = c.loop-item.invariant in
    let steps = c.in-None.ensures.steps in
    let few : length c.loop-item.item-iterator.rest.now < 8 = subst (λ k. length c.loop-item.item-iterator.rest.now < k) kept.size steps.1.0 in
    let end : length c.loop-item.items.items ≡ length bytes / 8 = items_end bytes c.loop-item.item-iterator.rest.now (length c.loop-item.items.items) kept.within kept.rest few in
    kept.items ∙ ap (λ n. map (λ i. big_first c.args.order (slice_range bytes (8 * i) (8 * i + 8))) (range_with_len 0 n)) end

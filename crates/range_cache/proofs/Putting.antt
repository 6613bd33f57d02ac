-- What putting a piece does to a cache, whether it succeeds or not.
use Rattle.std.proofs.Common.{◌≡◌, ℕ, ◌+◌, ◌-◌, ◌<◌, ◌≤◌, List, [], length, map, take, Result, Ok, Err, IfOk, OnErr, MatchResult, sym, ap, ◌∙◌, subst, arith}
use Rattle.std.proofs.lemmas.List.FromFn.{take-map-range_with_len, length-map-range_with_len}
use Rattle.std.proofs.lemmas.List.Elements.{All-take}
use Rattle.std.specs.List.{All, range_with_len}
use Rattle.range_cache.specs.Numbers.{missing, AreGone, IsLed, Stays}
use Rattle.range_cache.specs.Cache.{Block, Blocks, numbers, stored, stores}
use Rattle.range_cache.proofs.Stored.{All-stored, stored_stays, front_stays}

module _ {E : Type 0} (old new : Blocks) (whole : List Block) where
  -- all of them are stored, or a beginning
  pub record Puts (r : Result ℕ E) : Type 0 where
    pub ok : IfOk r (λ count. (new ≡ record { entries = stored old.capacity whole old.entries; capacity = old.capacity }) × (count ≡ stores old.capacity whole old.entries))
    pub err : OnErr r ((k : ℕ) × (k < length whole) × (new ≡ record { entries = stored old.capacity (take k whole) old.entries; capacity = old.capacity }))

  pub puts_hold : (r : Result ℕ E) (P : Block → Type 0) → Puts r → All P whole → All P old.entries → All P new.entries
  puts_hold (Ok count) P puts all held =
      subst (λ (v : Blocks). All P v.entries) (sym puts.ok.0) (All-stored P old.capacity whole old.entries all held)
  puts_hold (Err e) P puts all held =
      subst (λ (v : Blocks). All P v.entries) (sym puts.err.2) (All-stored P old.capacity (take puts.err.0 whole) old.entries (All-take P puts.err.0 whole all) held)

  pub puts_stay : (r : Result ℕ E) (n count : ℕ) → Puts r → AreGone (numbers old.entries) (numbers whole) → count - missing (numbers old.entries) n count + length whole ≤ old.capacity → IsLed (numbers old.entries) n count →
      MatchResult r (λ _. Stays (numbers old.entries) (numbers new.entries) n count (numbers whole)) (λ _. Stays (numbers old.entries) (numbers new.entries) n count [])
  puts_stay (Ok came) n count puts gone room led =
      subst (λ (v : Blocks). Stays (numbers old.entries) (numbers v.entries) n count (numbers whole)) (sym puts.ok.0)
      (stored_stays old.capacity n count whole old.entries gone room led)
  puts_stay (Err e) n count puts gone room led =
      subst (λ (v : Blocks). Stays (numbers old.entries) (numbers v.entries) n count []) (sym puts.err.2)
      (front_stays old.capacity n count puts.err.0 whole old.entries room led)

-- from what the work on the blocks says of a run of them
pub puts_of : {E : Type 0} (old new : Blocks) (whole : List Block) (block : ℕ → Block) (from count : ℕ) (r : Result ℕ E) → whole ≡ map block (range_with_len from count) →
    new.capacity ≡ old.capacity →
    IfOk r (λ k. (new.entries ≡ stored old.capacity (map block (range_with_len from count)) old.entries) × (k ≡ stores old.capacity (map block (range_with_len from count)) old.entries)) →
    OnErr r ((k : ℕ) × (k < count) × (new.entries ≡ stored old.capacity (map block (range_with_len from k)) old.entries)) →
    Puts {E = E} old new whole r
puts_of old new whole block from count (Ok k) whole_is capacity ok err =
    let entries = ok.0 ∙ ap (λ l. stored old.capacity l old.entries) (sym whole_is) in
    record {
      ok = ((λ i. record { entries = entries i; capacity = capacity i }), ok.1 ∙ ap (λ l. stores old.capacity l old.entries) (sym whole_is));
      err = tt;
    }
puts_of old new whole block from count (Err e) whole_is capacity ok err =
    let k = err.0 in
    let below : k ≤ count = omega (arith, err.1) in
    let few : k < length whole = omega (arith, err.1, ap length whole_is, length-map-range_with_len block from count) in
    let entries = err.2 ∙ ap (λ l. stored old.capacity l old.entries) (sym (ap (take k) whole_is ∙ take-map-range_with_len block from count k below)) in
    record { ok = tt; err = (k, few, (λ i. record { entries = entries i; capacity = capacity i })) }

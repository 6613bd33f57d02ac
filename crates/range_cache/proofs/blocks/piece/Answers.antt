use Rattle.std.proofs.Common.{◌≡◌, ℕ, ◌+◌, ◌-◌, ◌/◌, ◌%◌, ◌<◌, ◌≤◌, Option, Some, None, List, [], drop, length, get_or, refl, sym, ap, ◌∙◌, arith, inl, inr, Bor, ◌⊎◌}
use Rattle.std.proofs.lemmas.List.{get_or-take, get_or-drop}
use Rattle.std.specs.List.{slice_range}
use Rattle.std.specs.Option.{MatchOption, unwrap_or}
use Rattle.range_cache.specs.Cache.{blocks_in, byte_at}
use Rattle.range_cache.proofs.Bytes.{byte_found, left_found, mapped}
use Rattle.range_cache.proofs.blocks.piece.Goals as goal

-- a byte of a part that may be none
taken : (block : List ℕ) (skip end : ℕ) (P : Type 0) (o : Option (Bor (List ℕ))) (none : Bor (List ℕ)) → none.now ≡ [] →
    MatchOption o P (λ x. (skip ≤ end) × (end ≤ length block) × (x.now ≡ slice_range block skip end) × (length x.now + skip ≡ end)) →
    (k : ℕ) → k < length (unwrap_or o none).now → (skip + k < end) × (get_or (unwrap_or o none).now k 0 ≡ get_or block (skip + k) 0)
taken block skip end P None none empty _ k less = absurd (omega (arith, less, ap length empty))
taken block skip end P (Some x) none empty found k less =
    let inside : k < end - skip = omega (arith, less, found.3) in
    (omega arith, ap (λ l. get_or l k 0) found.2 ∙ get_or-take (end - skip) (drop skip block) k 0 inside ∙ get_or-drop skip block k 0)

taken_length : (block : List ℕ) (skip end : ℕ) (o : Option (Bor (List ℕ))) (none : Bor (List ℕ)) → none.now ≡ [] → end ≤ length block →
    MatchOption o ((end < skip) ⊎ (length block < end)) (λ x. (skip ≤ end) × (end ≤ length block) × (x.now ≡ slice_range block skip end) × (length x.now + skip ≡ end)) →
    length (unwrap_or o none).now ≡ end - skip
taken_length block skip end None none empty inside lacks =
    ap length empty ∙ elim lacks [
      | inl less ↦ omega (arith, less)
      | inr past ↦ omega (arith, past, inside)
    ]
taken_length block skip end (Some x) none empty inside found = omega (arith, found.3)

pub returns-clause-piece : goal.returns-clause-piece
returns-clause-piece c =
    let es = c.args.blocks.now.entries in
    let first = c.args.first in
    let skip = first % 16384 in
    let is = ap (λ (b : Bor (List ℕ)). b.now) c.unwrap_or.ensures in
    mapped (byte_at (blocks_in es)) c.unwrap_or.result.now first (λ k less.
    let byte = taken c.deref.result.now skip c.min-end.result _ c.get.result _ refl c.get.ensures.lookup.0 k (omega (arith, less, ap length is)) in
    ap (λ l. get_or l k 0) is ∙ byte.1 ∙ ap (λ l. get_or l (skip + k) 0) c.deref.ensures.value
    ∙ sym (byte_found (first / 16384) (skip + k) (first + k) es (Some c.in-Some.block.now) c.in-Some.ensures
    (omega (arith, byte.0, c.min-end.ensures, c.min.ensures)) (omega arith)))

pub returns-in_default-clause-long : goal.returns-in_default-clause-long
returns-in_default-clause-long c =
    let n = c.args.first / 16384 in
    sym (left_found n (c.args.first % 16384) c.args.len c.args.blocks.now.entries None c.in_default.ensures)

pub returns-clause-long : goal.returns-clause-long
returns-clause-long c =
    let n = c.args.first / 16384 in
    let skip = c.args.first % 16384 in
    let is = ap (λ (b : Bor (List ℕ)). b.now) c.unwrap_or.ensures in
    let block = c.deref.result.now in
    ap length is
    ∙ taken_length block skip c.min-end.result c.get.result _ refl (omega (arith, c.deref.ensures.len, c.min-end.ensures, c.min.ensures)) c.get.ensures.lookup.0
    ∙ omega (arith, c.deref.ensures.len, c.min-end.ensures, c.min.ensures)
    ∙ sym (left_found n skip c.args.len c.args.blocks.now.entries (Some c.in-Some.block.now) c.in-Some.ensures)

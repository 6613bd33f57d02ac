-- A body in pieces, from its beginning on, and what is kept of it.
use Rattle.std.proofs.Common.{◌≡◌, ℕ, suc, ◌+◌, ◌-◌, ◌*◌, ◌/◌, ◌≤◌, ◌⊎◌, subst, Bool, true, false, cond, ◌&&◌, List, [], length, take, refl, sym, ap, ◌∙◌, arith, inl, inr}
use Rattle.std.proofs.Math.Dec.{leb, ltb}
use Rattle.std.proofs.lemmas.Bool.{cases_lt, le-leb, leb-true, lt-ltb}
use Rattle.std.proofs.lemmas.List.{drop_all}
use Rattle.extents.specs.Block.{end_of}
use Rattle.http_range.specs.Announced.{Announced}
use Rattle.range_cache.specs.Cache.{Block, Blocks, stored, stores}
use Rattle.range_cache.specs.Laws.{BesideBringNone, begun}
use Rattle.range_cache.specs.Piece.{is_wanted}
use Rattle.cog_client.specs.declared.body.Body.{Body}
use Rattle.cog_client.specs.Body.{kept_of, with_stored, IsBody, KeepsNone, KeepsPart}
use Rattle.cog_client.specs.Fed.{part_of}
use Rattle.cog_client.proofs.BodyLemmas.{brought}

-- nothing of a body is stored
pub body_begins : BesideBringNone → (head : Announced) (b : Body) (part : List ℕ) (start : Blocks) → b.next ≡ head.first → b.complete ≡ head.complete
    → b.left ≡ head.length → b.keeps ≡ false → b.count ≡ 0 → IsBody head start [] b part start
unfolding stored stores
body_begins beside head b part start next complete left drops count =
    let nothing : brought head b.span [] ≡ [] = beside head.complete head.first [] b.span (omega arith) in
    let n = b.next / 16384 in
    let none : KeepsNone head b start n = elim (cases_lt (n * 16384) head.first) [
      | inl before ↦ inr (inr (inl before))
      | inr at ↦ inl (omega (arith, at, next))
    ] in
    record {
      complete = complete;
      next = omega (arith, next);
      left = omega (arith, left);
      cut = record {
        block = n;
        begins = omega arith;
        ends = omega arith;
        kept = λ t. absurd (let wrong : true ≡ false = sym t ∙ drops in cc);
        none = λ _. none;
      };
      counted = count ∙ sym (ap (λ (bs : List Block). stores start.capacity bs start.entries) nothing);
      holds = sym (ap (λ (bs : List Block). with_stored bs start) nothing);
    }

-- ---- what is kept

passes : (a b c : Bool) (xs : List ℕ) → a ≡ true → b ≡ true → c ≡ true → cond (a && b && c) xs [] ≡ xs
passes true true true xs pa pb pc = refl
passes false b c xs pa pb pc = cc
passes true false c xs pa pb pc = cc
passes true true false xs pa pb pc = cc

fails : (a b c : Bool) (xs : List ℕ) → (a ≡ false) ⊎ ((b ≡ false) ⊎ ((c ≡ false) ⊎ (xs ≡ []))) → cond (a && b && c) xs [] ≡ []
fails false b c xs one = refl
fails true false c xs one = refl
fails true true false xs one = refl
fails true true true xs (inl a) = cc
fails true true true xs (inr (inl b)) = cc
fails true true true xs (inr (inr (inl c))) = cc
fails true true true xs (inr (inr (inr none))) = none

not_below : (a b : ℕ) → (a ≤ b → ⊥) → leb a b ≡ false
not_below a b above = never (leb a b) refl
  where
    never : (t : Bool) → leb a b ≡ t → t ≡ false
    never true is = absurd (above (leb-true a b is))
    never false is = refl

module _ (head : Announced) (start : Blocks) (body part : List ℕ) (b : Body) (now : Blocks) (is : IsBody head start body b part now) where
  abbrev at : ℕ
  at = head.first + length body

  abbrev n : ℕ
  n = at / 16384

  same : is.cut.block ≡ n
  same = omega (arith, is.next, is.cut.begins, is.cut.ends)

  tested : (keeps : Bool) → b.keeps ≡ keeps → cond keeps (take (b.next - b.next / 16384 * 16384) part) [] ≡ part_of head now b.span body
  tested true t =
      let k : KeepsPart head body b part now n = subst (KeepsPart head body b part now) same (is.cut.kept t) in
      let i : b.next - b.next / 16384 * 16384 ≡ b.next - n * 16384 = ap (λ (a : ℕ). b.next - a / 16384 * 16384) is.next in
      ap (λ (j : ℕ). take j part) i ∙ k.bytes
      ∙ sym (passes (leb head.first (n * 16384)) (ltb at (end_of head.complete n)) (is_wanted now head.complete b.span n) (begun head.first body n)
      (le-leb head.first (n * 16384) k.begins) (lt-ltb at (end_of head.complete n) (omega (arith, k.lacks, is.next))) k.wanted)
  tested false f =
      sym (fails (leb head.first (n * 16384)) (ltb at (end_of head.complete n)) (is_wanted now head.complete b.span n) (begun head.first body n)
      (reason (subst (KeepsNone head b now) same (is.cut.none f))))
    where
      reason : KeepsNone head b now n → (leb head.first (n * 16384) ≡ false) ⊎ ((ltb at (end_of head.complete n) ≡ false)
          ⊎ ((is_wanted now head.complete b.span n ≡ false) ⊎ (begun head.first body n ≡ [])))
      reason (inl edge) = inr (inr (inr (drop_all (n * 16384 - head.first) body (omega (arith, edge, is.next)))))
      reason (inr (inl past)) = inr (inl (not_below (suc at) (end_of head.complete n) (λ below. omega (arith, below, past, is.next))))
      reason (inr (inr (inl before))) = inl (not_below head.first (n * 16384) (λ below. omega (arith, below, before)))
      reason (inr (inr (inr unwants))) = inr (inr (inl unwants))

  -- the bytes that are kept are those of the wanted block that is cut
  pub kept_is_part : kept_of b part ≡ part_of head now b.span body
  kept_is_part = tested b.keeps refl

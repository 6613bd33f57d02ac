use Rattle.std.proofs.Common.{◌≡◌, ◌⊎◌, ◌*◌, ◌≤◌, ◌/◌, true, false, sym, ◌∙◌, arith, inl, inr}
use Rattle.std.proofs.lemmas.Bool.{ltb-false}
use Rattle.range_cache.specs.Piece.{is_wanted}
use Rattle.cog_client.proofs.body.Body.keep.Goals as goal
use Rattle.cog_client.proofs.body.Body.keep.Goals.{then-begun-gt0, else-begun-gt0, then-self, else-self}

pub returns-else-self-2-clause-tail : goal.returns-else-self-2-clause-tail
returns-else-self-2-clause-tail c =
    let b = c.args.self.now in
    let n = b.next / 16384 in
    let reason : (b.next ≡ n * 16384) ⊎ ((b.complete ≤ b.next) ⊎ (is_wanted c.args.cache.now b.complete b.span n ≡ false)) =
    elim c.if-self.branch [
      | then-self w ↦ inr (inr (sym w.wants-self.ensures ∙ sym w.self-is ∙ c.if-self-2.false))
      | else-self w ↦ elim c.if-begun-gt0.branch [
        | then-begun-gt0 v ↦ inr (inl (ltb-false b.next b.complete (sym v.value-is ∙ w.if-self.false)))
        | else-begun-gt0 v ↦ inl (omega (arith, v.if-begun-gt0.false))
      ]
    ] in
    record {
      block = n;
      begins = omega arith;
      ends = omega arith;
      kept = λ t. absurd (let wrong : true ≡ false = sym t ∙ c.if-self-2.false in cc);
      none = λ _. reason;
    }

use Rattle.std.proofs.Common.{◌≡◌, ◌∙◌, ◌∷◌, [], ℕ, List, ap, false, true, sym, eqb}
use Rattle.std.specs.Cmp.Lexicographic.{pointwise}
use Rattle.std.proofs.lemmas.List.{take-append-drop}
use Rattle.programs.proofs.world_file.stem_of.Goals as goal

pub returns-else-eq : goal.returns-else-eq
returns-else-eq c = record {
  ending = c.split_at.result.1.now;
  cut = let e = take-append-drop c.in-Some.dot c.args.path.now in rw (c.split_at.ensures.front, c.split_at.ensures.back) (sym e);
  other = λ same.
      let wrong : false ≡ true = c.if-eq.ensures ∙ ap (λ (s : List ℕ). pointwise eqb s (46 ∷ 119 ∷ 108 ∷ 100 ∷ [])) same in
      cc;
}

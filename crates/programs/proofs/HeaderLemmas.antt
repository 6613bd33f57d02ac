-- Field lines, one added after another.
use Rattle.std.proofs.Common.{◌∙◌, ◌+◌, ◌<◌, ◌++◌, ◌∷◌, ℕ, List, [], Bor, append_assoc, append-nil, ap, get_or, length, refl, sym, take}
use Rattle.http_fields.specs.Text.{FieldLine}
use Rattle.cog_client.specs.Client.{ClientState, how_of}
use Rattle.cog_client.specs.Keeps.{AddsField}
use Rattle.programs.specs.Headers.{AddsLines, IsFieldLine}
use Rattle.programs.proofs.NamedLemmas.{zip_next}

-- no line is added
pub none_added : (c : ClientState) → AddsLines [] c c
unfolding how_of
none_added c = record { lines = []; are = tt; seen = ap (λ (fields : List FieldLine). record c { how = record c.how { fields = fields } }) (sym (append-nil c.how.fields)) }

-- and one more
pub one_added : (words : List (Bor (List ℕ))) (k : ℕ) (d : Bor (List ℕ)) (line : FieldLine) (old mid new : ClientState) → AddsLines (take k words) old mid → k < length words
    → IsFieldLine (get_or words k d).now line → AddsField line mid new → AddsLines (take (k + 1) words) old new
unfolding how_of
one_added words k d line old mid new before within is adds = record {
  lines = before.lines ++ line ∷ [];
  are = zip_next (λ (word : Bor (List ℕ)) (l : FieldLine). IsFieldLine word.now l) words k d before.lines (before.lines ++ line ∷ []) line before.are within is refl;
  seen = adds.seen ∙ ap (λ (m : ClientState). record m { how = record m.how { fields = m.how.fields ++ line ∷ [] } }) before.seen
      ∙ ap (λ (fields : List FieldLine). record old { how = record old.how { fields = fields } }) (append_assoc old.how.fields before.lines (line ∷ []));
}

-- What is still to come is an end of what is needed.
use Rattle.std.proofs.Common.{◌≡◌, ℕ, ◌++◌, ◌⊎◌, inl, inr, [], List, take, drop, Option, Some, None, refl, sym, subst, ap, ◌∙◌, append_assoc, append-nil}
use Rattle.std.specs.Prelude.{IfSome, IsSome}
use Rattle.std.specs.Option.{option_map, option_map_or}
use Rattle.std.proofs.lemmas.Bool.{false≢true}
use Rattle.std.proofs.lemmas.List.{take-append-drop}
use Rattle.std.proofs.lemmas.Option.{none-some}
use Rattle.tiff_dir.specs.declared.query.Query.{Query}
use Rattle.tiff_dir.specs.File.{◌>>=◌}
use Rattle.tiff_dir.specs.WalkState.{WalkState}
use Rattle.extents.specs.Extent.{Extent}
use Rattle.tiff_dir.specs.Needs.{needs_of_directories, IsEndOf}
use Rattle.tiff_dir.specs.Query as queries
use Rattle.tiff_dir.specs.Query.{needs, needs_of_query, rectangle}
use Rattle.tiff_dir.specs.Walk as walk
use Rattle.cog_reader.specs.declared.kept_arrays.KeptArrays.{KeptArrays}
use Rattle.cog_reader.specs.declared.kept_arrays.KeptArrays.TheVariants as kept
use Rattle.cog_reader.specs.declared.state.PendingQuery.{PendingQuery}
use Rattle.cog_reader.specs.declared.state.State.{State}
use Rattle.cog_reader.specs.declared.state.State.TheVariants.{Directories, Arrays as Reads, Tiles, GeoFields as Geo, Answered}
use Rattle.cog_reader.specs.KeptArrays.{arrays_held, IsKeptOf}
use Rattle.cog_reader.specs.Reader.{come_by, outcome_in, outcome_of, own_given, query_of, to_come, ReaderAgrees, ReaderState}

end_of_own : (xs ys : List Extent) (n : ℕ) → IsEndOf (drop n ys) (xs ++ ys)
end_of_own xs ys n = record { front = xs ++ take n ys; joined = ap (λ l. xs ++ l) (sym (take-append-drop n ys)) ∙ sym (append_assoc xs (take n ys) (drop n ys)) }

end_of_both : (few xs ys : List Extent) (n : ℕ) → IsEndOf few xs → (n ≡ 0) ⊎ (few ≡ []) → IsEndOf (few ++ drop n ys) (xs ++ ys)
end_of_both few xs ys n end (inl none) = record { front = end.front; joined = ap (λ l. l ++ ys) end.joined ∙ append_assoc end.front few ys ∙ ap (λ k. end.front ++ (few ++ drop k ys)) (sym none) }
end_of_both few xs ys n end (inr none) = subst (λ l. IsEndOf (l ++ drop n ys) (xs ++ ys)) (sym none) (end_of_own xs ys n)

-- arrays are kept of a walk that has ended alone
none_or_over : (w : WalkState) (k : KeptArrays) (f : List ℕ) → IsKeptOf w k → (walk.HasEnded w → walk.to_come w f ≡ []) → (n : ℕ) → (arrays_held k n ≡ 0) ⊎ (walk.to_come w f ≡ [])
none_or_over w kept.Nothing f keeps over n = inl refl
none_or_over w (kept.Offsets m o) f keeps over n = inr (over keeps.0)
none_or_over w (kept.Both m a) f keeps over n = inr (over keeps.0)

own_none : (w : WalkState) (k : KeptArrays) (f : List ℕ) (q : Query) → IsKeptOf w k → (walk.HasEnded w → walk.to_come w f ≡ []) → (own_given f q k Directories ≡ 0) ⊎ (walk.to_come w f ≡ [])
own_none w k f q keeps over = at (rectangle f q) where
  at : (o : Option queries.Rectangle) → (option_map_or (λ (r : queries.Rectangle). arrays_held k r.level) o 0 ≡ 0) ⊎ (walk.to_come w f ≡ [])
  at None = inl refl
  at (Some r) = none_or_over w k f keeps over r.level

task_end : (w : WalkState) (k : KeptArrays) (f : List ℕ) (q : Query) (t : State) → IsKeptOf w k → (walk.HasEnded w → walk.to_come w f ≡ []) → IsEndOf (walk.to_come w f) (needs_of_directories f) → IsEndOf (come_by f w k q t) (needs f q)
unfolding needs
task_end w k f q Directories keeps over end = end_of_both (walk.to_come w f) (needs_of_directories f) (needs_of_query f q) (own_given f q k Directories) end (own_none w k f q keeps over)
task_end w k f q (Reads r) keeps over end = end_of_own (needs_of_directories f) (needs_of_query f q) (own_given f q k (Reads r))
task_end w k f q (Tiles m) keeps over end = end_of_own (needs_of_directories f) (needs_of_query f q) (own_given f q k (Tiles m))
task_end w k f q (Geo x) keeps over end = end_of_own (needs_of_directories f) (needs_of_query f q) (own_given f q k (Geo x))
task_end w k f q (Answered o) keeps over end = record { front = needs_of_directories f ++ needs_of_query f q; joined = sym (append-nil (needs_of_directories f ++ needs_of_query f q)) }

pub wanted_end : (r : ReaderState) (f : List ℕ) → ReaderAgrees r f → (walk.WalkAgrees r.walk f → walk.HasEnded r.walk → walk.to_come r.walk f ≡ []) → IsEndOf (walk.to_come r.walk f) (needs_of_directories f)
    → IfSome (query_of r) (λ q. IsEndOf (to_come r f) (needs f q))
unfolding ReaderAgrees query_of to_come
wanted_end r f agrees over end = at r.pending where
  at : (o : Option PendingQuery) → IfSome (option_map (λ (a : PendingQuery). a.query) o) (λ q. IsEndOf (option_map_or (λ (a : PendingQuery). come_by f r.walk r.kept a.query a.state) o []) (needs f q))
  at None = tt
  at (Some a) = task_end r.walk r.kept f a.query a.state agrees.sound.kept (over agrees.walked) end

-- ---- where nothing is to come

pub unasked_comes : (r : ReaderState) (f : List ℕ) → query_of r ≡ None → to_come r f ≡ []
unfolding query_of to_come
unasked_comes r f none = at r.pending none where
  at : (o : Option PendingQuery) → option_map (λ (a : PendingQuery). a.query) o ≡ None → option_map_or (λ (a : PendingQuery). come_by f r.walk r.kept a.query a.state) o [] ≡ []
  at None none = refl
  at (Some a) none = absurd (none-some a.query (sym none))

task_done : (f : List ℕ) (w : WalkState) (k : KeptArrays) (q : Query) (t : State) → IsSome (outcome_in t) → come_by f w k q t ≡ []
task_done f w k q Directories done = absurd (false≢true done)
task_done f w k q (Reads r) done = absurd (false≢true done)
task_done f w k q (Tiles m) done = absurd (false≢true done)
task_done f w k q (Geo x) done = absurd (false≢true done)
task_done f w k q (Answered o) done = refl

pub answered_comes : (r : ReaderState) (f : List ℕ) → IsSome (outcome_of r) → to_come r f ≡ []
unfolding outcome_of to_come
answered_comes r f done = at r.pending done where
  at : (o : Option PendingQuery) → IsSome (o >>= λ a. outcome_in a.state) → option_map_or (λ (a : PendingQuery). come_by f r.walk r.kept a.query a.state) o [] ≡ []
  at None done = refl
  at (Some a) done = task_done f r.walk r.kept a.query a.state done

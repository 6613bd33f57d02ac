-- What a reader holds after a range is given.
use Rattle.std.proofs.Common.{◌≡◌, ℕ, ◌<◌, ◌∷◌, inl, inr, List, Some, refl, sym, subst, ap, ◌∙◌}
use Rattle.std.specs.Prelude.{IsSomeAnd}
use Rattle.tiff_dir.specs.WalkState.{WalkState}
use Rattle.cog_reader.specs.declared.kept_arrays.KeptArrays.{KeptArrays}
use Rattle.cog_reader.specs.declared.state.PendingQuery.{PendingQuery}
use Rattle.cog_reader.specs.Reader.{come_by, file_length_of, outcome_of, query_of, steps_of, tiles_of, to_come, unread, wanted, wanted_by, ReaderAgrees, AcceptsFirstRange, KeepsHeld, ReaderState, IsReader, StateAgrees, IsWantedOf, Takes}
use Rattle.cog_reader.specs.Give.{Gives}
use Rattle.tile_plan.specs.TileCache.{KeptTiles}
use Rattle.cog_reader.proofs.GiveLemmas.{at_state}

abbrev pub holding : ℕ → WalkState → KeptArrays → KeptTiles → PendingQuery → ReaderState
holding file_length w k ts a = record { file_length = file_length; walk = w; kept = k; tiles = ts; pending = Some a }

pub given_sound : (file_length : ℕ) (bytes : List ℕ) (w v : WalkState) (k l : KeptArrays) (ts us : KeptTiles) (a b : PendingQuery) → Gives file_length bytes a.query (at_state w k ts a.state) (at_state v l us b.state) → IsReader file_length v l (Some b)
given_sound file_length bytes w v k l ts us a b gives = record { kept = gives.kept; state = gives.state }

given_agrees : (f : List ℕ) (file_length : ℕ) (bytes : List ℕ) (w v : WalkState) (k l : KeptArrays) (ts us : KeptTiles) (a b : PendingQuery) → ReaderAgrees (holding file_length w k ts a) f → IsWantedOf f (holding file_length w k ts a) bytes → b.query ≡ a.query
    → Gives file_length bytes a.query (at_state w k ts a.state) (at_state v l us b.state) → ReaderAgrees (holding file_length v l us b) f
unfolding ReaderAgrees wanted
given_agrees f file_length bytes w v k l ts us a b agrees next same gives =
    let (base, state, tiles) = gives.same f (record { size = agrees.size; walked = agrees.walked; kept = agrees.kept }) agrees.state next agrees.tiles in record {
      size = base.size;
      walked = base.walked;
      kept = base.kept;
      tiles = tiles;
      sound = given_sound file_length bytes w v k l ts us a b gives;
      state = subst (λ q. StateAgrees f q l b.state) (sym same) state;
    }

given_come : (f : List ℕ) (file_length : ℕ) (bytes : List ℕ) (w v : WalkState) (k l : KeptArrays) (ts us : KeptTiles) (a b : PendingQuery) → ReaderAgrees (holding file_length w k ts a) f → b.query ≡ a.query
    → Gives file_length bytes a.query (at_state w k ts a.state) (at_state v l us b.state) → AcceptsFirstRange f (holding file_length w k ts a) (holding file_length v l us b)
unfolding ReaderAgrees wanted to_come outcome_of
given_come f file_length bytes w v k l ts us a b agrees same gives = elim (gives.come f (record { size = agrees.size; walked = agrees.walked; kept = agrees.kept }) agrees.state) [
  | inl done ↦ inl (done.0, ap (λ q. come_by f v l q b.state) same ∙ done.1)
  | inr on ↦ inr (subst (λ q. IsSomeAnd (wanted_by w k a.state) (λ r. come_by f w k a.query a.state ≡ r ∷ come_by f v l q b.state)) (sym same) on)
]

given_held : (f : List ℕ) (file_length : ℕ) (bytes : List ℕ) (w v : WalkState) (k l : KeptArrays) (ts us : KeptTiles) (a b : PendingQuery) → ReaderAgrees (holding file_length w k ts a) f
    → Gives file_length bytes a.query (at_state w k ts a.state) (at_state v l us b.state) → KeepsHeld f (holding file_length w k ts a) (holding file_length v l us b)
unfolding ReaderAgrees query_of unread
given_held f file_length bytes w v k l ts us a b agrees gives = gives.held f (record { size = agrees.size; walked = agrees.walked; kept = agrees.kept }) agrees.state

given_steps : (file_length : ℕ) (bytes : List ℕ) (w v : WalkState) (k l : KeptArrays) (ts us : KeptTiles) (a b : PendingQuery) → Gives file_length bytes a.query (at_state w k ts a.state) (at_state v l us b.state) → steps_of (holding file_length v l us b) < steps_of (holding file_length w k ts a)
unfolding steps_of
given_steps file_length bytes w v k l ts us a b gives = gives.steps

given_most : (file_length : ℕ) (bytes : List ℕ) (w v : WalkState) (k l : KeptArrays) (ts us : KeptTiles) (a b : PendingQuery) → Gives file_length bytes a.query (at_state w k ts a.state) (at_state v l us b.state)
    → (tiles_of (holding file_length v l us b)).most ≡ (tiles_of (holding file_length w k ts a)).most
unfolding tiles_of
given_most file_length bytes w v k l ts us a b gives = gives.most

given_same : (file_length : ℕ) (w v : WalkState) (k l : KeptArrays) (ts us : KeptTiles) (a b : PendingQuery) → b.query ≡ a.query
    → (file_length_of (holding file_length v l us b) ≡ file_length_of (holding file_length w k ts a)) × (query_of (holding file_length v l us b) ≡ query_of (holding file_length w k ts a))
unfolding file_length_of query_of
given_same file_length w v k l ts us a b same = (refl, ap Some same)

pub given_takes : (file_length : ℕ) (bytes : List ℕ) (w v : WalkState) (k l : KeptArrays) (ts us : KeptTiles) (a b : PendingQuery) → b.query ≡ a.query
    → Gives file_length bytes a.query (at_state w k ts a.state) (at_state v l us b.state) → Takes bytes (holding file_length w k ts a) (holding file_length v l us b)
given_takes file_length bytes w v k l ts us a b same gives =
    let rest = given_same file_length w v k l ts us a b same in record {
      agrees = λ f agrees next. given_agrees f file_length bytes w v k l ts us a b agrees next same gives;
      come = λ f agrees next. given_come f file_length bytes w v k l ts us a b agrees same gives;
      held = λ f agrees. given_held f file_length bytes w v k l ts us a b agrees gives;
      most = given_most file_length bytes w v k l ts us a b gives;
      steps = given_steps file_length bytes w v k l ts us a b gives;
      file_length = rest.0;
      query = rest.1;
    }

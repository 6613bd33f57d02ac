-- Tiles that are kept stay the file's, and have no more bytes together than they may.
use Rattle.std.proofs.Common.{◌≡◌, ◌≢◌, ◌≤◌, ◌-◌, ◌&&◌, ◌⊎◌, ℕ, Bool, true, false, cond, List, [], ◌∷◌, ◌∙◌, take, Option, Some, None, Contains, inl, inr, refl, sym, ap, subst, get_or, length, slice_get, nat_eq, arith, length-take}
use Rattle.std.specs.List.{All}
use Rattle.std.specs.Map.{lookup, lookup_entry, remove_entry}
use Rattle.std.specs.Option.{option_copied, option_map_or}
use Rattle.std.specs.Prelude.{IfSome, OnErr, OnOk, Result, Ok, Err, is_some}
use Rattle.std.specs.Borrow.{Bor}
use Rattle.std.proofs.lemmas.Bool.{eqb-true}
use Rattle.std.proofs.lemmas.Bool.Decides.{eqb_tells}
use Rattle.std.proofs.lemmas.List.{take_all}
use Rattle.std.proofs.lemmas.List.Elements.{All-contains, All-head, All-tail, Contains-get_or}
use Rattle.std.proofs.Math.Nat.{mul-le-mul_right}
use Rattle.std.proofs.lemmas.List.Sums.{sum_by-le}
use Rattle.std.proofs.lemmas.Map.Views.{IfSome-lookup}
use Rattle.lru.specs.LruCache.{LruCache, lru_cache, promoted, put_entries}
use Rattle.lru.proofs.CallerLemmas.{Contains-lookup_entry, Contains-promoted, Contains-put_entries, IsPut}
use Rattle.extents.specs.Extent.{bytes_in}
use Rattle.tiff_dir.specs.declared.level.Codec.{Codec}
use Rattle.tiff_dir.specs.declared.level.Codec.TheVariants.{PackBits}
use Rattle.tiff_dir.specs.Window.{PacksBy}
use Rattle.tile_plan.specs.declared.tile_cache.Tile.{Tile}
use Rattle.tile_plan.specs.TileCache.{size_of_tile, size_of_tiles, same_codec, plain_of, tiles_in, tiles_of_size, KeptTile, IsStore, IsTileOf}

pub all_promoted : (P : KeptTile → Type 0) (first : ℕ) (es : List KeptTile) → All P es → All P (promoted (nat_eq first) es)
all_promoted P first es all = λ k d less.
    All-contains P es _ all (Contains-promoted (nat_eq first) es _ (Contains-get_or (promoted (nat_eq first) es) k d less))

-- a key that is there stays, and it is the same number
pub all_put : (P : KeptTile → Type 0) (c : LruCache ℕ Tile) (first : ℕ) (tile : Tile) → All P c.entries → P (first, tile) → All P (put_entries nat_eq c first tile)
all_put P c first tile all one = λ k d less. by (get_or (put_entries nat_eq c first tile) k d) (Contains-put_entries nat_eq c first tile _ (Contains-get_or (put_entries nat_eq c first tile) k d less))
  where
    by : (e : KeptTile) → Contains c.entries e ⊎ IsPut nat_eq c first tile e → P e
    by e (inl was) = All-contains P c.entries e all was
    by (n, v) (inr (same, inl here)) = subst (λ m. P (m, v)) (sym here) (subst (λ w. P (first, w)) (sym same) one)
    by (n, v) (inr (same, inr key)) = subst (λ m. P (m, v)) (eqb-true first n key.2) (subst (λ w. P (first, w)) (sym same) one)

-- what is looked up is the tile at that place
pub all_found : (P : KeptTile → Type 0) (first : ℕ) (es : List KeptTile) (tile : Tile) → lookup (nat_eq first) es ≡ Some tile → All P es → P (first, tile)
all_found P first es tile found all =
    All-contains P es (first, tile) all (subst (λ o. IfSome o (λ v. Contains es (first, v))) found (IfSome-lookup eqb-true first es))

same_codec-true : (a b : Codec) → same_codec a b ≡ true → a ≡ b
same_codec-true PackBits PackBits is = refl

-- what it stands for is told where the bytes are packed by its codec, as many as its own, in rows as long
is_of_form : (codec : Codec) (len row size : ℕ) (t : Tile) (plain : List ℕ) → Some plain ≡ plain_of codec len row size t
    → (codec ≡ t.codec) × (len ≡ t.len) × (row ≡ t.row) × (plain ≡ t.plain.items)
is_of_form codec len row size t plain told =
    let Claim : Type 0 = (codec ≡ t.codec) × (len ≡ t.len) × (row ≡ t.row) × (plain ≡ t.plain.items) in
    (elim (same_codec codec t.codec) as (λ a. same_codec codec t.codec ≡ a → Some plain ≡ cond (a && nat_eq len t.len && nat_eq row t.row && nat_eq size (length t.plain.items)) (Some t.plain.items) None → Claim) [
      | true ↦ λ codecs. (elim (nat_eq len t.len) as (λ a. nat_eq len t.len ≡ a → Some plain ≡ cond (a && nat_eq row t.row && nat_eq size (length t.plain.items)) (Some t.plain.items) None → Claim) [
        | true ↦ λ lens. (elim (nat_eq row t.row) as (λ a. nat_eq row t.row ≡ a → Some plain ≡ cond (a && nat_eq size (length t.plain.items)) (Some t.plain.items) None → Claim) [
          | true ↦ λ rows. elim (nat_eq size (length t.plain.items)) as (λ a. Some plain ≡ cond a (Some t.plain.items) None → Claim) [
            | true ↦ λ is. (same_codec-true codec t.codec codecs, eqb-true len t.len lens, eqb-true row t.row rows, cc)
            | false ↦ λ is. cc
          ]
          | false ↦ λ rows is. cc
        ]) refl
        | false ↦ λ lens is. cc
      ]) refl
      | false ↦ λ codecs is. cc
    ]) refl told

-- and then those bytes stand for it
pub stands_for : (f : List ℕ) (codec : Codec) (first len row size : ℕ) (t : Tile) (o : Option (Bor (List ℕ))) → option_copied o ≡ plain_of codec len row size t → IsTileOf f (first, t)
    → IfSome o (λ plain. PacksBy codec row (bytes_in f (record { first = first; len = len })) plain.now)
stands_for f codec first len row size t None told is = tt
stands_for f codec first len row size t (Some plain) told is =
    let form = is_of_form codec len row size t plain.now told in
    subst (λ k. PacksBy k row (bytes_in f (record { first = first; len = len })) plain.now) (sym form.0)
    (subst (λ n. PacksBy t.codec row (bytes_in f (record { first = first; len = n })) plain.now) (sym form.1)
    (subst (λ r. PacksBy t.codec r (bytes_in f (record { first = first; len = t.len })) plain.now) (sym form.2)
    (subst (PacksBy t.codec t.row (bytes_in f (record { first = first; len = t.len }))) (sym form.3) is)))

-- the tile that is put stands in front
pub front_put : (c : LruCache ℕ Tile) (first : ℕ) (tile : Tile) → slice_get (put_entries nat_eq c first tile) 0 ≡ Some (first, tile)
front_put c first tile =
    (elim (lookup_entry (nat_eq first) c.entries) as (λ o. lookup_entry (nat_eq first) c.entries ≡ o
    → slice_get (option_map_or (λ e. (e.0, tile) ∷ remove_entry (nat_eq first) c.entries) o ((first, tile) ∷ take (c.cap - 1) c.entries)) 0 ≡ Some (first, tile)) [
      | None ↦ λ none. refl
      | Some e ↦ λ found. ap (λ k. Some (k, tile)) (sym (eqb-true first e.0 (Contains-lookup_entry (nat_eq first) c.entries e found).1))
    ]) refl

-- what isn't there can't be removed
remove_absent : (test : ℕ → Bool) (es : List KeptTile) → lookup_entry test es ≡ None → remove_entry test es ≡ es
remove_absent test [] none = refl
remove_absent test (e ∷ es) none = (elim (test e.0) as (λ y. test e.0 ≡ y → remove_entry test (e ∷ es) ≡ e ∷ es) [
  | true ↦ λ t. let found = rw t at none in cc
  | false ↦ λ t. rw t (ap (λ l. e ∷ l) (remove_absent test es (rw t at none)))
]) refl

-- where there is room, the tile that is put stands in front of the others
pub put_before : (c : LruCache ℕ Tile) (first : ℕ) (tile : Tile) → length c.entries ≤ c.cap - 1 →
    put_entries nat_eq c first tile ≡ (first, tile) ∷ remove_entry (nat_eq first) c.entries
put_before c first tile room =
    (elim (lookup_entry (nat_eq first) c.entries) as (λ o. lookup_entry (nat_eq first) c.entries ≡ o
    → option_map_or (λ e. (e.0, tile) ∷ remove_entry (nat_eq first) c.entries) o ((first, tile) ∷ take (c.cap - 1) c.entries) ≡ (first, tile) ∷ remove_entry (nat_eq first) c.entries) [
      | None ↦ λ none. ap (λ l. (first, tile) ∷ l) (take_all (c.cap - 1) c.entries room ∙ sym (remove_absent (nat_eq first) c.entries none))
      | Some e ↦ λ found. ap (λ k. (k, tile) ∷ remove_entry (nat_eq first) c.entries) (sym (eqb-true first e.0 (Contains-lookup_entry (nat_eq first) c.entries e found).1))
    ]) refl

-- so it does where room was made for it
pub put_front : (old mid new : LruCache ℕ Tile) (first : ℕ) (tile : Tile) → mid.entries ≡ take (old.cap - 1) old.entries → mid.cap ≡ old.cap
    → new ≡ lru_cache (put_entries nat_eq mid first tile) mid.cap → new.entries ≡ (first, tile) ∷ remove_entry (nat_eq first) (take (old.cap - 1) old.entries)
put_front old mid new first tile are cap put =
    ap (λ (c : LruCache ℕ Tile). c.entries) put
    ∙ put_before mid first tile (omega (arith, ap length are, length-take (old.cap - 1) old.entries, cap))
    ∙ ap (λ es. (first, tile) ∷ remove_entry (nat_eq first) es) are

-- a tile of the file that is put among its tiles is one of them, if it is put
pub kept_put : {A E : Type 0} (f : List ℕ) (old new : LruCache ℕ Tile) (first : ℕ) (tile : Tile) (r : Result A E) → OnOk r (new ≡ lru_cache (put_entries nat_eq old first tile) old.cap) → OnErr r (new ≡ old)
    → All (IsTileOf f) old.entries → IsTileOf f (first, tile) → All (IsTileOf f) new.entries
kept_put f old new first tile (Ok x) put same all one = subst (λ (c : LruCache ℕ Tile). All (IsTileOf f) c.entries) (sym put) (all_put (IsTileOf f) old first tile all one)
kept_put f old new first tile (Err e) put same all one = subst (λ (c : LruCache ℕ Tile). All (IsTileOf f) c.entries) (sym same) all

-- ---- how many bytes they have

pub store_promoted : (most size first : ℕ) (old new : LruCache ℕ Tile) → new ≡ lru_cache (promoted (nat_eq first) old.entries) old.cap → IsStore most size old → IsStore most size new
store_promoted most size first old new is store =
    subst (IsStore most size) (sym is) (record { few = store.few; room = store.room; alike = all_promoted (λ t. size_of_tile t ≡ size) first old.entries store.alike })

pub store_put : {A E : Type 0} (most size : ℕ) (old new : LruCache ℕ Tile) (first : ℕ) (tile : Tile) (r : Result A E) → OnOk r (new ≡ lru_cache (put_entries nat_eq old first tile) old.cap) → OnErr r (new ≡ old)
    → IsStore most size old → length tile.plain.items ≡ size → IsStore most size new
store_put most size old new first tile (Ok x) put same store one =
    subst (IsStore most size) (sym put) (record { few = store.few; room = store.room; alike = all_put (λ t. size_of_tile t ≡ size) old first tile store.alike one })
store_put most size old new first tile (Err e) put same store one = subst (IsStore most size) (sym same) store

-- no more than its most
pub few_bytes : (most size : ℕ) (store : LruCache ℕ Tile) → IsStore most size store → length store.entries ≤ store.cap → size_of_tiles store.entries ≤ most
few_bytes most size store is few =
    let all = sum_by-le size_of_tile size store.entries (λ k d less. (let same = is.alike k d less in omega (arith, same))) in
    let fits = mul-le-mul_right size few in
    let room = is.few in
    omega (arith, all, fits, room)

-- ---- those of a size

pub all_of_size : (size : ℕ) (tiles : List KeptTile) → All (λ t. size_of_tile t ≡ size) tiles → tiles_of_size size tiles ≡ tiles
all_of_size size [] all = refl
all_of_size size (t ∷ tiles) all = elim (eqb_tells (size_of_tile t) size) [
  | inl is ↦ rw is.0 (ap (λ l. t ∷ l) (all_of_size size tiles (All-tail (λ t. size_of_tile t ≡ size) t tiles all)))
  | inr other ↦ absurd (other.1 (All-head (λ t. size_of_tile t ≡ size) t tiles all))
]

pub none_of_size : (size other : ℕ) (tiles : List KeptTile) → other ≢ size → All (λ t. size_of_tile t ≡ other) tiles → tiles_of_size size tiles ≡ []
none_of_size size other [] differs all = refl
none_of_size size other (t ∷ tiles) differs all = elim (eqb_tells (size_of_tile t) size) [
  | inl is ↦ absurd (differs (sym (All-head (λ t. size_of_tile t ≡ other) t tiles all) ∙ is.1))
  | inr isnt ↦ rw isnt.0 (none_of_size size other tiles differs (All-tail (λ t. size_of_tile t ≡ other) t tiles all))
]

-- a store has those of its own size
pub store_of_size : (most size : ℕ) (o : Option (LruCache ℕ Tile)) → IfSome o (IsStore most size) → tiles_of_size size (tiles_in o) ≡ tiles_in o
store_of_size most size None is = refl
store_of_size most size (Some store) is = all_of_size size store.entries is.alike

-- and none of another
pub store_of_other : (most size other : ℕ) (o : Option (LruCache ℕ Tile)) → IfSome o (IsStore most other) → other ≢ size → tiles_of_size size (tiles_in o) ≡ []
store_of_other most size other None is differs = refl
store_of_other most size other (Some store) is differs = none_of_size size other store.entries differs is.alike

-- there are none where there is no store
pub none_in_none : (size : ℕ) (o : Option (LruCache ℕ Tile)) → is_some o ≡ false → tiles_of_size size (tiles_in o) ≡ []
none_in_none size None none = refl
none_in_none size (Some store) none = cc

pub then_ok : {A E : Type 0} {P Q : Type 0} (r : Result A E) → (P → Q) → OnOk r P → OnOk r Q
then_ok (Ok x) f p = f p
then_ok (Err e) f p = tt

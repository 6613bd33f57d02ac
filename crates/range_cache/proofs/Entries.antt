-- What looking up, promoting and putting make of the pairs that are kept, seen as blocks.
use Rattle.std.proofs.Common.{◌≡◌, ◌||◌, ℕ, ◌-◌, Bool, true, false, cond, List, [], ◌∷◌, take, Option, Some, None, is_some, refl, sym, ap, ◌∙◌, nat_eq}
use Rattle.std.proofs.lemmas.List.{take-map}
use Rattle.std.specs.Global.{Vec}
use Rattle.std.specs.Map.{keys_of, lookup, lookup_entry, remove_entry}
use Rattle.std.specs.Option.{option_map_or, option_map}
use Rattle.lru.specs.LruCache.{LruCache, promoted, put_entries}
use Rattle.range_cache.specs.Numbers.{has}
use Rattle.range_cache.specs.Cache.{Block, blocks_in, numbers, put_one}

abbrev pub block : ℕ × Vec ℕ → Block
block e = (e.0, e.1.items)

pub numbers-blocks_in : (es : List (ℕ × Vec ℕ)) → numbers (blocks_in es) ≡ keys_of es
numbers-blocks_in [] = refl
numbers-blocks_in (e ∷ es) = ap (λ ns. e.0 ∷ ns) (numbers-blocks_in es)

-- whether a block is looked up with success
pub is_some-lookup : (n : ℕ) (es : List (ℕ × Vec ℕ)) → is_some (lookup (nat_eq n) es) ≡ has n (numbers (blocks_in es))
is_some-lookup n [] = refl
is_some-lookup n (e ∷ es) =
    elim (nat_eq n e.0) as (λ b. is_some (cond b (Some e.1) (lookup (nat_eq n) es)) ≡ (b || has n (numbers (blocks_in es)))) [
      | true ↦ refl
      | false ↦ is_some-lookup n es
    ]

-- what a test of the cache says of its blocks
pub told : (n : ℕ) (es : List (ℕ × Vec ℕ)) (b : Bool) → b ≡ is_some (lookup (nat_eq n) es) → has n (numbers (blocks_in es)) ≡ b
told n es b h = sym (is_some-lookup n es) ∙ sym h

lookup_entry-blocks_in : (n : ℕ) (es : List (ℕ × Vec ℕ)) → lookup_entry (nat_eq n) (blocks_in es) ≡ option_map block (lookup_entry (nat_eq n) es)
lookup_entry-blocks_in n [] = refl
lookup_entry-blocks_in n (e ∷ es) =
    elim (nat_eq n e.0) as (λ b. cond b (Some (block e)) (lookup_entry (nat_eq n) (blocks_in es)) ≡ option_map block (cond b (Some e) (lookup_entry (nat_eq n) es))) [
      | true ↦ refl
      | false ↦ lookup_entry-blocks_in n es
    ]

remove_entry-blocks_in : (n : ℕ) (es : List (ℕ × Vec ℕ)) → remove_entry (nat_eq n) (blocks_in es) ≡ blocks_in (remove_entry (nat_eq n) es)
remove_entry-blocks_in n [] = refl
remove_entry-blocks_in n (e ∷ es) =
    elim (nat_eq n e.0) as (λ b. cond b (blocks_in es) (block e ∷ remove_entry (nat_eq n) (blocks_in es)) ≡ blocks_in (cond b es (e ∷ remove_entry (nat_eq n) es))) [
      | true ↦ refl
      | false ↦ ap (λ bs. block e ∷ bs) (remove_entry-blocks_in n es)
    ]

pub blocks_in-promoted : (n : ℕ) (es : List (ℕ × Vec ℕ)) → blocks_in (promoted (nat_eq n) es) ≡ promoted (nat_eq n) (blocks_in es)
blocks_in-promoted n es =
    (elim (lookup_entry (nat_eq n) es) as (λ o. blocks_in (option_map_or (λ e. e ∷ remove_entry (nat_eq n) es) o es)
    ≡ option_map_or (λ b. b ∷ remove_entry (nat_eq n) (blocks_in es)) (option_map block o) (blocks_in es)) [
      | None ↦ refl
      | Some e ↦ ap (λ bs. block e ∷ bs) (sym (remove_entry-blocks_in n es))
    ])
    ∙ ap (λ o. option_map_or (λ b. b ∷ remove_entry (nat_eq n) (blocks_in es)) o (blocks_in es)) (sym (lookup_entry-blocks_in n es))

-- a block that is looked up, and one that isn't there

pub is_some-lookup_entry : (n : ℕ) (bs : List Block) → is_some (lookup_entry (nat_eq n) bs) ≡ has n (numbers bs)
is_some-lookup_entry n [] = refl
is_some-lookup_entry n (b ∷ bs) =
    elim (nat_eq n b.0) as (λ t. is_some (cond t (Some b) (lookup_entry (nat_eq n) bs)) ≡ (t || has n (numbers bs))) [
      | true ↦ refl
      | false ↦ is_some-lookup_entry n bs
    ]

pub number_of_entry : (n : ℕ) (bs : List Block) (b : Block) → lookup_entry (nat_eq n) bs ≡ Some b → nat_eq n b.0 ≡ true
number_of_entry n [] b h = cc
number_of_entry n (c ∷ bs) b h =
    (elim (nat_eq n c.0) as (λ t. nat_eq n c.0 ≡ t → cond t (Some c) (lookup_entry (nat_eq n) bs) ≡ Some b → nat_eq n b.0 ≡ true) [
      | true ↦ λ t is. let same : c ≡ b = cc in ap (λ (d : Block). nat_eq n d.0) (sym same) ∙ t
      | false ↦ λ _ is. number_of_entry n bs b is
    ]) refl h

none_of : (o : Option Block) → is_some o ≡ false → o ≡ None
none_of None h = refl
none_of (Some b) h = cc

pub lookup_entry-none : (n : ℕ) (bs : List Block) → has n (numbers bs) ≡ false → lookup_entry (nat_eq n) bs ≡ None
lookup_entry-none n bs h = none_of (lookup_entry (nat_eq n) bs) (is_some-lookup_entry n bs ∙ h)

-- a new block goes to the front
pub blocks_in-put : (c : LruCache ℕ (Vec ℕ)) (n : ℕ) (v : Vec ℕ) → has n (numbers (blocks_in c.entries)) ≡ false →
    blocks_in (put_entries nat_eq c n v) ≡ put_one c.cap (blocks_in c.entries) (n, v.items)
blocks_in-put c n v gone =
    let absent : lookup_entry (nat_eq n) (blocks_in c.entries) ≡ None = lookup_entry-none n (blocks_in c.entries) gone in
    (elim (lookup_entry (nat_eq n) c.entries) as (λ o. option_map block o ≡ None →
    blocks_in (option_map_or (λ e. (e.0, v) ∷ remove_entry (nat_eq n) c.entries) o ((n, v) ∷ take (c.cap - 1) c.entries)) ≡ put_one c.cap (blocks_in c.entries) (n, v.items)) [
      | None ↦ λ _. ap (λ bs. (n, v.items) ∷ bs) (sym (take-map block (c.cap - 1) c.entries))
          ∙ sym (ap (λ t. cond t (blocks_in c.entries) ((n, v.items) ∷ take (c.cap - 1) (blocks_in c.entries))) gone)
      | Some e ↦ λ no. absurd (cc)
    ]) (sym (lookup_entry-blocks_in n c.entries) ∙ absent)

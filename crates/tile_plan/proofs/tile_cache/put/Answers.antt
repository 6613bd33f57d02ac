use Rattle.std.proofs.Common.{◌≡◌, ◌-◌, ℕ, ◌∷◌, take, Some, nat_eq, slice_get, sym, subst, refl}
use Rattle.std.specs.Map.{remove_entry}
use Rattle.lru.specs.LruCache.{LruCache, put_entries}
use Rattle.tile_plan.specs.declared.tile_cache.Tile.{Tile}
use Rattle.tile_plan.specs.TileCache.{IsStore}
use Rattle.tile_plan.proofs.UnpackedLemmas.{front_put, kept_put, put_front, store_put}
use Rattle.tile_plan.proofs.tile_cache.put.Goals as goal

pub returns-clause-of : goal.returns-clause-of
returns-clause-of c f all packs =
    let tile : Tile = record { codec = c.args.codec; len = c.args.len; row = c.args.row; plain = c.replace.result } in
    kept_put f c.room_for.new.tiles c.put.new.self c.args.first tile c.put.result c.put.ensures.entries c.put.ensures.err (c.room_for.ensures.of f all)
    (rw c.replace.ensures.value packs)

pub returns-clause-front : goal.returns-clause-front
returns-clause-front c =
    subst (λ (store : LruCache ℕ Tile). slice_get store.entries 0 ≡ Some (c.args.first, record { codec = c.args.codec; len = c.args.len; row = c.args.row; plain = c.args.plain.now })) (sym c.in_ok-put.ensures.entries)
    (subst (λ p. slice_get (put_entries nat_eq c.room_for.new.tiles c.args.first (record { codec = c.args.codec; len = c.args.len; row = c.args.row; plain = c.replace.result })) 0
    ≡ Some (c.args.first, record { codec = c.args.codec; len = c.args.len; row = c.args.row; plain = p })) c.replace.ensures.value
    (front_put c.room_for.new.tiles c.args.first (record { codec = c.args.codec; len = c.args.len; row = c.args.row; plain = c.replace.result })))

pub returns-clause-others : goal.returns-clause-others
returns-clause-others c =
    let old = c.args.tiles.now in
    let tile : Tile = record { codec = c.args.codec; len = c.args.len; row = c.args.row; plain = c.replace.result } in
    subst (λ p. c.put.new.self.entries ≡ (c.args.first, record { codec = c.args.codec; len = c.args.len; row = c.args.row; plain = p }) ∷ remove_entry (nat_eq c.args.first) (take (old.cap - 1) old.entries)) c.replace.ensures.value
    (put_front old c.room_for.new.tiles c.put.new.self c.args.first tile c.room_for.ensures.tiles c.room_for.ensures.cap c.in_ok-put.ensures.entries)

pub returns-in_err-room-clause-store : goal.returns-in_err-room-clause-store
returns-in_err-room-clause-store c most store = c.room_for.ensures.store most _ store

pub returns-in_err-put-clause-store : goal.returns-in_err-put-clause-store
returns-in_err-put-clause-store c most store =
    subst (IsStore most _) (sym c.in_err-put.ensures.err) (c.room_for.ensures.store most _ store)

pub returns-clause-store : goal.returns-clause-store
returns-clause-store c most store =
    let tile : Tile = record { codec = c.args.codec; len = c.args.len; row = c.args.row; plain = c.replace.result } in
    store_put most _ c.room_for.new.tiles c.put.new.self c.args.first tile c.put.result c.put.ensures.entries c.put.ensures.err (c.room_for.ensures.store most _ store) (rw c.replace.ensures.value refl)

-- The body of an answer that comes in pieces, as it is kept between two pieces.
use Rattle.std.specs.Prelude.{if◌then◌else◌, ◌/◌, [], ◌≡◌, ◌⊎◌, ℕ, ◌+◌, ◌-◌, ◌*◌, ◌<◌, ◌≤◌, true, false, List, ◌++◌, length, take, drop}
use Rattle.extents.specs.declared.span.Span.{Span}
use Rattle.extents.specs.declared.limits.TheConstants.{BLOCK_SIZE}
use Rattle.extents.specs.Block.{end_of}
use Rattle.http_range.specs.Announced.{Announced}
use Rattle.range_cache.specs.Cache.{Block, Blocks, stored}
use Rattle.range_cache.specs.Laws.{begun}
use Rattle.range_cache.specs.Piece.{is_wanted}
use Rattle.cog_client.specs.declared.body.Body.{Body}
use Rattle.cog_client.specs.Take.{brought_by, stored_count, stored_front, stored_of}
use Rattle.cog_client.specs.Client.{IsFew}
use Rattle.cog_client.specs.Fed.{part_of, piece_with}

-- the blocks after the new ones are stored
abbrev pub with_stored : List Block → Blocks → Blocks
with_stored new b = record b { entries = stored b.capacity new b.entries }

-- The next position lies within the file, and so do all bytes that are still to come.
pub record IsSoundBody (b : Body) : Type 0 where
  pub inside : b.next + b.left ≤ b.complete
  pub few : IsFew b.span

-- The bytes of block `n` that came so far are kept at the front of the part. The block begins in the body, isn't whole yet, and is wanted.
pub record KeepsPart (head : Announced) (body : List ℕ) (b : Body) (part : List ℕ) (now : Blocks) (n : ℕ) : Type 0 where
  pub begins : head.first ≤ n * BLOCK_SIZE
  pub some : n * BLOCK_SIZE < b.next
  pub lacks : b.next < end_of head.complete n
  pub wanted : is_wanted now head.complete b.span n ≡ true
  pub bytes : take (b.next - n * BLOCK_SIZE) part ≡ begun head.first body n

-- Nothing of block `n` is kept: none of it came, it is whole, it began before the body, or it isn't wanted.
abbrev pub KeepsNone : Announced → Body → Blocks → ℕ → Type 0
KeepsNone head b now n =
    (b.next ≡ n * BLOCK_SIZE) ⊎ ((head.complete ≤ b.next) ⊎ ((n * BLOCK_SIZE < head.first)
    ⊎ (is_wanted now head.complete b.span n ≡ false)))

-- the bytes that are kept in the part
abbrev pub kept_of : Body → List ℕ → List ℕ
kept_of b part = if b.keeps then take (b.next - b.next / BLOCK_SIZE * BLOCK_SIZE) part else []

-- the block in which the body ends so far, and what is kept of it
pub record IsCutAt (head : Announced) (body : List ℕ) (b : Body) (part : List ℕ) (now : Blocks) : Type 0 where
  pub block : ℕ
  pub begins : block * BLOCK_SIZE ≤ b.next
  pub ends : b.next < block * BLOCK_SIZE + BLOCK_SIZE
  pub kept : b.keeps ≡ true → KeepsPart head body b part now block
  pub none : b.keeps ≡ false → KeepsNone head b now block

-- The body so far, of an answer with this head, made the blocks `now` of the blocks `start`.
pub record IsBody (head : Announced) (start : Blocks) (body : List ℕ) (b : Body) (part : List ℕ) (now : Blocks) : Type 0 where
  pub complete : b.complete ≡ head.complete
  pub next : b.next ≡ head.first + length body
  pub left : b.left + length body ≡ head.length
  pub cut : IsCutAt head body b part now
  pub counted : b.count ≡ stored_count (piece_with head body) b.span start
  pub holds : now ≡ stored_of (piece_with head body) b.span start

-- Memory ran out before the last block of this body was stored.
abbrev pub IsStopped : Announced → Span → Blocks → List ℕ → Blocks → Type 0
IsStopped head span start body now =
    (k : ℕ) × (k < length (brought_by (piece_with head body) span)) × (now ≡ stored_front k (piece_with head body) span start)

-- The body goes on by the bytes `more`, whatever came before.
abbrev pub Extends : Body → List ℕ → Blocks → List ℕ → Body → List ℕ → Blocks → Type 0
Extends old part before more new rest after =
    (head : Announced) (start : Blocks) (body : List ℕ) → IsBody head start body old part before
    → IsBody head start (body ++ more) new rest after

-- Memory ran out at the blocks of the bytes `more`, whatever came before.
abbrev pub Stops : Body → List ℕ → Blocks → List ℕ → Blocks → Type 0
Stops old part before more after =
    (head : Announced) (start : Blocks) (body : List ℕ) → IsBody head start body old part before
    → IsStopped head old.span start (body ++ more) after

-- a block begins at this position, or nothing follows
abbrev pub IsSeam : ℕ → List ℕ → Type 0
IsSeam at more = ((n : ℕ) × (at ≡ n * BLOCK_SIZE)) ⊎ (length more ≡ 0)

-- the last of the bytes are kept: those of block `n`
pub record KeepsOf (bytes : List ℕ) (b : Body) (part : List ℕ) (now : Blocks) (n : ℕ) : Type 0 where
  pub some : n * BLOCK_SIZE < b.next
  pub lacks : b.next < b.complete
  pub wanted : is_wanted now b.complete b.span n ≡ true
  pub tail : take (b.next - n * BLOCK_SIZE) part ≡ drop (length bytes - (b.next - n * BLOCK_SIZE)) bytes

-- Of bytes that begin at the edge of a block, those after the last whole block are kept, if their block is wanted.
pub record KeepsTail (bytes : List ℕ) (b : Body) (part : List ℕ) (now : Blocks) : Type 0 where
  pub block : ℕ
  pub begins : block * BLOCK_SIZE ≤ b.next
  pub ends : b.next < block * BLOCK_SIZE + BLOCK_SIZE
  pub kept : b.keeps ≡ true → KeepsOf bytes b part now block
  pub none : b.keeps ≡ false → (b.next ≡ block * BLOCK_SIZE)
      ⊎ ((b.complete ≤ b.next) ⊎ (is_wanted now b.complete b.span block ≡ false))

-- What is kept is what `part_of` says: the bytes so far of a wanted block that isn't whole yet.
abbrev pub PartsAreKept : Type 0
PartsAreKept = (head : Announced) (start : Blocks) (body : List ℕ) (b : Body) (part : List ℕ) (now : Blocks)
    → IsBody head start body b part now → kept_of b part ≡ part_of head now b.span body

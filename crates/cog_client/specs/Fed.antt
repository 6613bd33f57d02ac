-- How an answer that comes in pieces is taken: by its head, and by the body as far as it came.
use Rattle.std.specs.Prelude.{◌≡◌, ◌≢◌, ◌⊎◌, ℕ, ◌+◌, ◌*◌, ◌/◌, ◌≤◌, not, ◌==◌, ◌&&◌, nat_le, nat_lt, min, max, Bool, if◌then◌else◌, true, List, [], ◌++◌, length, take as front, drop, Option, Some, None, IfSome, Ok, ⊤}
use Rattle.std.specs.Str.{bytes_eq}
use Rattle.extents.specs.declared.span.Span.{Span}
use Rattle.extents.specs.declared.limits.TheConstants.{BLOCK_SIZE}
use Rattle.extents.specs.Block.{end_of}
use Rattle.http_fields.specs.declared.limits.TheConstants.{HEAD_LIMIT}
use Rattle.http_range.specs.declared.reading.Why.{Why}
use Rattle.http_range.specs.declared.reading.Why.TheVariants.{Cut, Head}
use Rattle.http_range.specs.Piece.{SeenPiece}
use Rattle.http_range.specs.Announced.{Announced}
use Rattle.range_cache.specs.Cache.{Blocks}
use Rattle.range_cache.specs.Laws.{IsCutIn, IsEdge, IsPartOf, begun, lacking}
use Rattle.range_cache.specs.Piece.{is_wanted}
use Rattle.cog_client.specs.declared.case.Case.{Case}
use Rattle.cog_client.specs.declared.case.Case.TheVariants.{Ignored, Adopted, Restarted, Accepted}
use Rattle.cog_client.specs.declared.delivered.Ignored.TheVariants.{OtherRevision, OtherLength, NotAsked}
use Rattle.cog_client.specs.declared.delivered.Delivered.{Delivered}
use Rattle.cog_client.specs.declared.delivered.Delivered.TheVariants.{Took, Restarted as ARestart, Ignored as AnIgnored}
use Rattle.cog_client.specs.Case.{Revision, case_of, is_beside}
use Rattle.cog_client.specs.Take.{Holding, asked_or_first, base_of, first_span, stored_count, stored_of, take, take_by}

-- ---- by the head

-- the case of a head, if there is a revision: another ETag, another length, or else it is taken
abbrev pub case_of_revision : Revision → Announced → Case
case_of_revision v head =
    if not (bytes_eq v.tag head.tag) then (if head.whole then Restarted else Ignored OtherRevision)
    else if not (v.complete == head.complete) then Ignored OtherLength
    else Accepted

-- The case that the head alone gives. Whether the body has a byte of the asked span is known only at its end.
abbrev pub case_of_head : Option Revision → Option Span → Announced → Case
case_of_head v None head = Ignored NotAsked
case_of_head None (Some s) head = Adopted
case_of_head (Some v) (Some s) head = case_of_revision v head

-- the piece that the head announces, with this body
abbrev pub piece_with : Announced → List ℕ → SeenPiece
piece_with head body =
    record { tag = head.tag; whole = head.whole; first = head.first; complete = head.complete; body = body }

-- bytes of the same file from the position `place` on
abbrev pub piece_at : Announced → ℕ → List ℕ → SeenPiece
piece_at head place bytes =
    record { tag = head.tag; whole = head.whole; first = place; complete = head.complete; body = bytes }

-- The case of an answer is that of its head, except that its body may have no byte of the asked span.
abbrev pub CaseIsOfHead : Type 0
CaseIsOfHead = (v : Option Revision) (asked : Option Span) (head : Announced) (body : List ℕ) →
    (case_of v asked (piece_with head body) ≡ case_of_head v asked head)
    ⊎ ((case_of_head v asked head ≡ Accepted) × (case_of v asked (piece_with head body) ≡ Ignored NotAsked)
    × IfSome asked (λ s. is_beside s (piece_with head body) ≡ true))

-- What an answer leaves is what the case of its head leaves. A body without a byte of the asked span brings no block.
abbrev pub LeavesByHead : Type 0
LeavesByHead = (h : Holding) (head : Announced) (body : List ℕ) →
    (take h (Ok (piece_with head body))).leaves ≡ (take_by (case_of_head h.revision h.asked head) h (piece_with head body)).leaves

-- ---- by the body

-- More of the body is stored: the block that the cut goes through, and then the blocks of the rest. They are counted in the same way.
abbrev pub CutsAreStored : Type 0
CutsAreStored = (head : Announced) (body more : List ℕ) (span : Span) (b : Blocks) (n : ℕ) →
    IsCutIn head.complete head.first body more n →
    let m = lacking head.complete head.first body n in
    let cut = piece_at head (n * BLOCK_SIZE) (begun head.first body n ++ front m more) in
    let rest = piece_at head (end_of head.complete n) (drop m more) in
    let before = stored_of (piece_with head body) span b in
    (stored_of (piece_with head (body ++ more)) span b ≡ stored_of rest span (stored_of cut span before))
    × (stored_count (piece_with head (body ++ more)) span b
    ≡ stored_count (piece_with head body) span b + (stored_count cut span before + stored_count rest span (stored_of cut span before)))

-- If the body so far ends at the edge of a block, the blocks of the rest are stored.
abbrev pub EdgesAreStored : Type 0
EdgesAreStored = (head : Announced) (body more : List ℕ) (span : Span) (b : Blocks) →
    IsEdge head.complete (head.first + length body) →
    let rest = piece_at head (head.first + length body) more in
    let before = stored_of (piece_with head body) span b in
    (stored_of (piece_with head (body ++ more)) span b ≡ stored_of rest span before)
    × (stored_count (piece_with head (body ++ more)) span b
    ≡ stored_count (piece_with head body) span b + stored_count rest span before)

-- A part of a block stores nothing.
abbrev pub PartsAreNotStored : Type 0
PartsAreNotStored = (head : Announced) (place : ℕ) (bytes : List ℕ) (span : Span) (b : Blocks) (n : ℕ) →
    IsPartOf head.complete place (place + length bytes) n →
    (stored_of (piece_at head place bytes) span b ≡ b) × (stored_count (piece_at head place bytes) span b ≡ 0)

-- ---- between two pieces

-- the block in which the bytes end that came so far
abbrev pub cut_block : Announced → List ℕ → ℕ
cut_block head body = (head.first + length body) / BLOCK_SIZE

-- the bytes so far of a block that begins in the body, isn't whole yet, and is wanted
abbrev pub part_of : Announced → Blocks → Span → List ℕ → List ℕ
part_of head blocks span body =
    let n = cut_block head body in
    if nat_le head.first (n * BLOCK_SIZE) && nat_lt (head.first + length body) (end_of head.complete n)
    && is_wanted blocks head.complete span n
    then begun head.first body n else []

-- the span that is asked for once the head is taken
abbrev pub asked_by : Case → Option Span → Span
asked_by Restarted asked = first_span
asked_by Adopted asked = asked_or_first asked
asked_by Accepted asked = asked_or_first asked
asked_by (Ignored w) asked = asked_or_first asked

-- the case uses the body
abbrev pub UsesBody : Case → Type 0
UsesBody (Ignored w) = ⊥
UsesBody Adopted = ⊤
UsesBody Restarted = ⊤
UsesBody Accepted = ⊤

-- the reason is final: it isn't *cut*, and a head is refused only after 4,096 bytes of it came
abbrev pub IsSettled : List ℕ → Why → Type 0
IsSettled bytes w = (w ≢ Cut) × ((w ≡ Head) → HEAD_LIMIT ≤ length bytes)

-- ---- at the end

-- none of the first `came` bytes of the body is in the span
abbrev pub is_beside_at : Announced → ℕ → Span → Bool
is_beside_at head came s = nat_le (min (head.first + came) (s.last + 1)) (max head.first s.first)

-- What is said of an answer whose head had this case, of whose body `came` bytes came and `count` blocks were stored. The body may have
-- had no byte of the asked span.
abbrev pub told_at_end : Case → Announced → ℕ → ℕ → Option Span → Delivered
told_at_end Adopted head came count asked = Took count
told_at_end Restarted head came count asked = ARestart
told_at_end (Ignored w) head came count asked = AnIgnored w
told_at_end Accepted head came count asked =
    if is_beside_at head came (asked_or_first asked) then AnIgnored NotAsked else Took count

-- What is said at the end of an answer is what `take` says of the whole of it.
abbrev pub EndTells : Type 0
EndTells = (s : Holding) (head : Announced) (body : List ℕ) (count : ℕ) →
    let case = case_of_head s.revision s.asked head in
    count ≡ stored_count (piece_with head body) (asked_by case s.asked) (base_of case s.blocks) →
    told_at_end case head (length body) count s.asked ≡ (take s (Ok (piece_with head body))).says

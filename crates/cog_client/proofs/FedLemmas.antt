-- An answer that comes in pieces is taken by its head, and by the body as far as it has come.
use Rattle.std.proofs.Common.{Ok, length, ℕ, ◌≡◌, ◌⊎◌, ◌+◌, ◌*◌, Bool, true, false, cond, not, List, ◌++◌, take as front, drop, refl, sym, ap, ◌∙◌, inl, inr, Option, Some, None, nat_eq}
use Rattle.std.specs.Prelude.{IfSome, IsSome}
use Rattle.std.proofs.lemmas.Bool.{leb-true}
use Rattle.std.specs.Str.{bytes_eq}
use Rattle.extents.specs.declared.span.Span.{Span}
use Rattle.extents.specs.Block.{end_of}
use Rattle.http_range.specs.Piece.{SeenPiece}
use Rattle.http_range.specs.Announced.{Announced}
use Rattle.range_cache.specs.Cache.{Block, Blocks, stored, stores}
use Rattle.range_cache.specs.Laws.{begun, lacking, CutsPart, EdgesPart, PartsBringNone, BesideBringNone, StoredJoin, StoresJoin}
use Rattle.cog_client.specs.declared.case.Case.TheVariants.{Ignored, Restarted, Accepted}
use Rattle.cog_client.specs.declared.delivered.Ignored.TheVariants.{OtherRevision, OtherLength, NotAsked}
use Rattle.cog_client.specs.Case.{Revision, is_beside}
use Rattle.cog_client.specs.Take.{take, base_of, stored_count, Holding, asked_or_first, brought_by, stored_of, take_by}
use Rattle.cog_client.specs.declared.delivered.Delivered.TheVariants.{Took, Ignored as AnIgnored}
use Rattle.cog_client.specs.Fed.{case_of_head, piece_with, piece_at, asked_by, told_at_end, is_beside_at, CaseIsOfHead, EndTells, LeavesByHead, CutsAreStored, EdgesAreStored, PartsAreNotStored}

-- ---- the case

by_rows : (tag whole same beside : Bool) →
    (cond tag (cond whole Restarted (Ignored OtherRevision)) (cond same (Ignored OtherLength) (cond beside (Ignored NotAsked) Accepted))
    ≡ cond tag (cond whole Restarted (Ignored OtherRevision)) (cond same (Ignored OtherLength) Accepted))
    ⊎ ((cond tag (cond whole Restarted (Ignored OtherRevision)) (cond same (Ignored OtherLength) Accepted) ≡ Accepted)
    × (cond tag (cond whole Restarted (Ignored OtherRevision)) (cond same (Ignored OtherLength) (cond beside (Ignored NotAsked) Accepted))
    ≡ Ignored NotAsked) × (beside ≡ true))
by_rows true whole same beside = inl refl
by_rows false whole true beside = inl refl
by_rows false whole false true = inr (refl, refl, refl)
by_rows false whole false false = inl refl

pub case_is_of_head : CaseIsOfHead
case_is_of_head v None head body = inl refl
case_is_of_head None (Some s) head body = inl refl
case_is_of_head (Some v) (Some s) head body =
    by_rows (not (bytes_eq v.tag head.tag)) head.whole (not (nat_eq v.complete head.complete)) (is_beside s (piece_with head body))

-- ---- what is told

tells_rows : (v : Option Revision) (s : Span) (b : Blocks) (head : Announced) (body : List ℕ) (count : ℕ) (tag whole same beside : Bool)
    → is_beside_at head (length body) s ≡ beside
    → count ≡ stored_count (piece_with head body)
    (asked_by (cond tag (cond whole Restarted (Ignored OtherRevision)) (cond same (Ignored OtherLength) Accepted)) (Some s))
    (base_of (cond tag (cond whole Restarted (Ignored OtherRevision)) (cond same (Ignored OtherLength) Accepted)) b)
    → told_at_end (cond tag (cond whole Restarted (Ignored OtherRevision)) (cond same (Ignored OtherLength) Accepted)) head (length body) count (Some s)
    ≡ (take_by (cond tag (cond whole Restarted (Ignored OtherRevision)) (cond same (Ignored OtherLength) (cond beside (Ignored NotAsked) Accepted)))
    (record { revision = v; asked = Some s; blocks = b }) (piece_with head body)).says
tells_rows v s b head body count true true same beside is counted = refl
tells_rows v s b head body count true false same beside is counted = refl
tells_rows v s b head body count false whole true beside is counted = refl
tells_rows v s b head body count false whole false true is counted =
    ap (λ t. cond t (AnIgnored NotAsked) (Took count)) is
tells_rows v s b head body count false whole false false is counted =
    ap (λ t. cond t (AnIgnored NotAsked) (Took count)) is ∙ ap Took counted

tells : (v : Option Revision) (asked : Option Span) (b : Blocks) (head : Announced) (body : List ℕ) (count : ℕ)
    → count ≡ stored_count (piece_with head body) (asked_by (case_of_head v asked head) asked) (base_of (case_of_head v asked head) b)
    → told_at_end (case_of_head v asked head) head (length body) count asked
    ≡ (take (record { revision = v; asked = asked; blocks = b }) (Ok (piece_with head body))).says
tells v None b head body count counted = refl
tells None (Some s) b head body count counted = ap Took counted
tells (Some v) (Some s) b head body count counted =
    tells_rows (Some v) s b head body count (not (bytes_eq v.tag head.tag)) head.whole (not (nat_eq v.complete head.complete))
    (is_beside s (piece_with head body)) refl counted

pub end_tells : EndTells
end_tells s head body count counted = tells s.revision s.asked s.blocks head body count counted

-- ---- what is left

-- what is left where a body that is beside what is asked for is taken
module _ (beside : BesideBringNone) where
  pub nothing_more : (h : Holding) (p : SeenPiece) (s : Span) → is_beside s p ≡ true → stored_of p s h.blocks ≡ h.blocks
  unfolding stored
  nothing_more h p s is =
      let nothing = beside p.complete p.first p.body s (leb-true _ _ is) in
      ap (λ bs. record h.blocks { entries = stored h.blocks.capacity bs h.blocks.entries }) nothing

  left_beside : (h : Holding) (asked : Option Span) (p : SeenPiece) → IfSome asked (λ s. is_beside s p ≡ true) → IsSome asked
      → stored_of p (asked_or_first asked) h.blocks ≡ h.blocks
  left_beside h (Some s) p is some = nothing_more h p s is
  left_beside h None p is some = absurd (let wrong : false ≡ true = some in cc)

  asked_some : (v : Option Revision) (asked : Option Span) (head : Announced) → case_of_head v asked head ≡ Accepted → IsSome asked
  asked_some v None head is = absurd (let wrong : Ignored NotAsked ≡ Accepted = is in cc)
  asked_some v (Some s) head is = refl

  pub leaves_by_head : LeavesByHead
  leaves_by_head h head body = elim (case_is_of_head h.revision h.asked head body) [
    | inl same ↦ ap (λ k. (take_by k h (piece_with head body)).leaves) same
    | inr other ↦
        let p = piece_with head body in
        let kept = left_beside h h.asked p other.2 (asked_some h.revision h.asked head other.0) in
        ap (λ k. (take_by k h p).leaves) other.1
        ∙ sym (ap (λ k. (take_by k h p).leaves) other.0 ∙ ap (λ b. record h { blocks = b }) kept)
  ]

-- ---- the body, by the laws of blocks

module _ (cuts : CutsPart) (edges : EdgesPart) (none : PartsBringNone) (joins : StoredJoin) (counts : StoresJoin) where
  -- blocks of two lists, stored and counted one list after the other
  stored_two : (b : Blocks) (new old later : List Block) → new ≡ old ++ later
      → (◌≡◌ {A = Blocks} (record b { entries = stored b.capacity new b.entries })
      (record b { entries = stored b.capacity later (stored b.capacity old b.entries) }))
      × (stores b.capacity new b.entries ≡ stores b.capacity old b.entries + stores b.capacity later (stored b.capacity old b.entries))
  stored_two b new old later parts = (
    ap (λ (es : List Block). record b { entries = es }) (ap (λ bs. stored b.capacity bs b.entries) parts ∙ joins b.capacity old later b.entries),
    ap (λ bs. stores b.capacity bs b.entries) parts ∙ counts b.capacity old later b.entries,
  )

  pub edges_are_stored : EdgesAreStored
  edges_are_stored head body more span b edge =
      stored_two b _ _ _ (edges head.complete head.first body more span edge)

  pub cuts_are_stored : CutsAreStored
  cuts_are_stored head body more span b n cut =
      let m = lacking head.complete head.first body n in
      let ours : List Block = brought_by (piece_with head body) span in
      let block : List Block = brought_by (piece_at head (n * 16384) (begun head.first body n ++ front m more)) span in
      let rest : List Block = brought_by (piece_at head (end_of head.complete n) (drop m more)) span in
      let all = stored_two b _ ours (block ++ rest) (cuts head.complete head.first body more span n cut) in
      let before = stored_of (piece_with head body) span b in
      let two = stored_two before (block ++ rest) block rest refl in
      (all.0 ∙ two.0, all.1 ∙ ap (λ n. stores b.capacity ours b.entries + n) two.1)

  pub parts_are_not_stored : PartsAreNotStored
  unfolding stored stores
  parts_are_not_stored head place bytes span b n part =
      let nothing = none head.complete place bytes span n part in (
        ap (λ bs. record b { entries = stored b.capacity bs b.entries }) nothing,
        ap (λ bs. stores b.capacity bs b.entries) nothing,
      )

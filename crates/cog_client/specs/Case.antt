-- How an answer is taken: which case of the table applies to a piece of a file.
use Rattle.std.specs.Prelude.{ℕ, ◌+◌, Bool, not, nat_le, ◌==◌, if◌then◌else◌, min, max, List, length, Option, Some, None}
use Rattle.std.specs.Str.{bytes_eq}
use Rattle.extents.specs.declared.span.Span.{Span}
use Rattle.http_range.specs.Piece.{SeenPiece}
use Rattle.cog_client.specs.declared.case.Case.{Case}
use Rattle.cog_client.specs.declared.case.Case.TheVariants.{Ignored, Adopted, Restarted, Accepted}
use Rattle.cog_client.specs.declared.delivered.Ignored.TheVariants.{OtherRevision, OtherLength, NotAsked}

-- what a client reads: the ETag and the length of one publication
pub record Revision : Type 0 where
  pub tag : List ℕ
  pub complete : ℕ

-- the piece's body has no byte of the span
abbrev pub is_beside : Span → SeenPiece → Bool
is_beside s p = nat_le (min (p.first + length p.body) (s.last + 1)) (max p.first s.first)

-- the case of a piece, if there is a revision: another ETag, another length, no byte of the span, or else it is taken
abbrev pub case_of_piece : Revision → Span → SeenPiece → Case
case_of_piece v s p =
    if not (bytes_eq v.tag p.tag) then (if p.whole then Restarted else Ignored OtherRevision)
    else if not (v.complete == p.complete) then Ignored OtherLength
    else if is_beside s p then Ignored NotAsked
    else Accepted

-- The first case that applies to a piece: nothing is asked for, there is no revision yet, or one of those above.
abbrev pub case_of : Option Revision → Option Span → SeenPiece → Case
case_of v None p = Ignored NotAsked
case_of None (Some s) p = Adopted
case_of (Some v) (Some s) p = case_of_piece v s p

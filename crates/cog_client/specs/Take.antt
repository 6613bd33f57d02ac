-- What an answer leaves of what a client holds, by how the answer is read.
use Rattle.std.specs.Prelude.{ℕ, List, [], take as front, Option, Some, None, Result, Ok, Err, ⊤}
use Rattle.std.proofs.Common.{arith}
use Rattle.extents.specs.declared.span.Span.{Span}
use Rattle.http_range.specs.declared.reading.Why.{Why}
use Rattle.http_range.specs.Piece.{SeenPiece, number_of_why}
use Rattle.range_cache.specs.Cache.{Block, Blocks, stored, stores}
use Rattle.range_cache.specs.Piece.{whole_blocks}
use Rattle.cog_client.specs.declared.case.Case as case
use Rattle.cog_client.specs.declared.case.Case.TheVariants as cases
use Rattle.cog_client.specs.declared.delivered.Delivered.{Delivered}
use Rattle.cog_client.specs.declared.delivered.Delivered.TheVariants.{Took, Restarted, Ignored}
use Rattle.cog_client.specs.declared.delivered.Ignored as why
use Rattle.cog_client.specs.declared.delivered.Ignored.TheVariants.{NotUsed, OtherRevision, OtherLength, NotAsked}
use Rattle.cog_client.specs.Case.{Revision, case_of}

-- the numbers of the reasons why an answer is ignored
abbrev pub number_of_ignored : why.Ignored → ℕ
number_of_ignored (NotUsed w) = number_of_why w
number_of_ignored OtherRevision = 10
number_of_ignored OtherLength = 11
number_of_ignored NotAsked = 12

-- the first 65,536 bytes: what a client without a revision asks for
abbrev pub first_span : Span
first_span = record { first = 0; last = 65535; ascending = omega arith }

-- what a client holds of a server's file: its revision, the asked span, and the blocks
pub record Holding : Type 0 where
  pub revision : Option Revision
  pub asked : Option Span
  pub blocks : Blocks

-- what is said of an answer, and what the client holds then
pub record Taken : Type 0 where
  pub says : Delivered
  pub leaves : Holding

-- no block is left
abbrev pub emptied : Blocks → Blocks
emptied b = record b { entries = [] }

abbrev pub revision_of_piece : SeenPiece → Revision
revision_of_piece p = record { tag = p.tag; complete = p.complete }

-- the blocks of the asked span that a piece brings
abbrev pub brought_by : SeenPiece → Span → List Block
brought_by p span = whole_blocks p.complete p.first p.body span

-- Those of the piece's blocks within the asked span that aren't there are stored, at the front.
abbrev pub stored_of : SeenPiece → Span → Blocks → Blocks
stored_of p span b = record b { entries = stored b.capacity (brought_by p span) b.entries }

abbrev pub stored_count : SeenPiece → Span → Blocks → ℕ
stored_count p span b = stores b.capacity (brought_by p span) b.entries

-- the asked span, or the first 65,536 bytes
abbrev pub asked_or_first : Option Span → Span
asked_or_first None = first_span
asked_or_first (Some span) = span

-- only the first `k` of the brought blocks are stored
abbrev pub stored_front : ℕ → SeenPiece → Span → Blocks → Blocks
stored_front k p span b = record b { entries = stored b.capacity (front k (brought_by p span)) b.entries }

-- the blocks before a piece is stored: none if another revision is read from now on
abbrev pub base_of : case.Case → Blocks → Blocks
base_of cases.Adopted b = emptied b
base_of cases.Restarted b = emptied b
base_of cases.Accepted b = b
base_of (cases.Ignored w) b = b

-- the piece's blocks are stored, and this revision is read
abbrev pub keep : Revision → Span → Blocks → SeenPiece → Holding
keep v span b p = record { revision = Some v; asked = Some span; blocks = stored_of p span b }

-- what each case says and leaves
abbrev pub take_by : case.Case → Holding → SeenPiece → Taken
take_by (cases.Ignored w) h p = record { says = Ignored w; leaves = h }
take_by cases.Adopted h p =
    let span = asked_or_first h.asked in let b = emptied h.blocks in
    record { says = Took (stored_count p span b); leaves = keep (revision_of_piece p) span b p }
take_by cases.Restarted h p =
    record { says = Restarted; leaves = keep (revision_of_piece p) first_span (emptied h.blocks) p }
take_by cases.Accepted h p =
    let span = asked_or_first h.asked in
    record { says = Took (stored_count p span h.blocks); leaves = record h { blocks = stored_of p span h.blocks } }

-- What an answer that is read so says to a client that holds `h`, and what it leaves.
abbrev pub take : Holding → Result SeenPiece Why → Taken
take h (Err w) = record { says = Ignored (NotUsed w); leaves = h }
take h (Ok p) = take_by (case_of h.revision h.asked p) h p

-- the answer was ignored
abbrev pub IsIgnored : Delivered → Type 0
IsIgnored (Ignored w) = ⊤
IsIgnored what = ⊥

use Rattle.std.proofs.Common.{◌≤◌}
use Rattle.http_range.specs.Book.{Book}
use Rattle.cog_client.specs.Transport.{ReadsBook}
use Rattle.read_progress.specs.Noted.{source_of}
use Rattle.read_command.specs.declared.reading.Asked.TheVariants.{Part}
use Rattle.read_command.specs.Exchanges.{FindsReplaced, ReadsSome, StillReads}
use Rattle.read_command.specs.Text.{StaysWithin}
use Rattle.read_command.proofs.reading.Exchanges.fetch_part.Given as goal

abbrev pub invariant-loop : goal.invariant-loop
invariant-loop g l = record {
  reads : StillReads (g.P.Pieces.speaks_for (source_of l.fn.noted)) (g.P.Pieces.speaks_for (source_of l.noted)) l.fn.client l.client;
  few : StaysWithin l.fn.self.requests (g.P.Pieces.count (source_of l.fn.noted)) (g.P.Pieces.count (source_of l.noted));
  queries : ReadsSome (Part l.part) l.fn.client l.client;
  used : (book : Book) → ReadsBook (g.P.Pieces.speaks_for (source_of l.fn.noted)) l.fn.client book → l.counter ≤ g.P.Pieces.count (source_of l.noted);
  replaced : FindsReplaced (Part l.part) l.counter l.fn.client l.client;
}

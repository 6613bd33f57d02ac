use Rattle.std.proofs.Common.{◌≡◌, Some, length}
use Rattle.cog_reader.specs.Reader.{file_length_of, query_of, steps_of, ReaderAgrees}
use Rattle.cog_reader.proofs.file.read_file.Given as goal

abbrev pub invariant-loop-reader : goal.invariant-loop-reader
invariant-loop-reader l = record { agrees : ReaderAgrees l.reader l.file; query : query_of l.reader ≡ Some l.fn.query; file_length : file_length_of l.reader ≡ length l.file }

abbrev pub decreases-loop-reader : goal.decreases-loop-reader
decreases-loop-reader l = steps_of l.reader

use Rattle.cog_reader.specs.Reader.{file_length_of, ReaderAgrees}
use Rattle.cog_reader.proofs.laws.law_lengths_are_known.Goals as goal

pub returns : goal.returns
unfolding file_length_of ReaderAgrees
returns c r f agrees = agrees.size

use Rattle.cog_reader.specs.Reader.{steps_of}
use Rattle.cog_reader_tests.proofs.tests.memory.read_again.Given as goal

abbrev pub decreases-loop-span : goal.decreases-loop-span
decreases-loop-span l = steps_of l.reader

use Rattle.cog_reader.specs.Reader.{steps_of}
use Rattle.cog_reader_tests.proofs.tests.image.read.Given as goal

abbrev pub decreases-loop-wanted : goal.decreases-loop-wanted
decreases-loop-wanted l = steps_of l.reader

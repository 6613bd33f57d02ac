use Rattle.reference_support.proofs.directories.+has_directory.Given as goal

abbrev pub decreases-has_directory : goal.decreases-has_directory
decreases-has_directory l = l.k

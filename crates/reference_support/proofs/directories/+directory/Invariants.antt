use Rattle.reference_support.proofs.directories.+directory.Given as goal

abbrev pub decreases-directory : goal.decreases-directory
decreases-directory l = l.k

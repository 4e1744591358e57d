use Rattle.c_parser.proofs.initialisers.+initialiser.Given as goal

abbrev pub decreases-initialiser : goal.decreases-initialiser
decreases-initialiser l = l.depth

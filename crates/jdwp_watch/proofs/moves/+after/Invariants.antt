use Rattle.jdwp_watch.proofs.moves.+after.Given as goal

abbrev pub decreases-after : goal.decreases-after
decreases-after l = l.at

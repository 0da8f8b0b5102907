use Rattle.cas_partition.proofs.pieces.+in_halves.Given as goal

abbrev pub decreases-in_halves : goal.decreases-in_halves
decreases-in_halves l = l.depth

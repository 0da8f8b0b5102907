use Rattle.cas_stored.proofs.rows.+add_tallies.Given as goal

abbrev pub decreases-add_tallies : goal.decreases-add_tallies
decreases-add_tallies g l = goal.size-add_tallies g l

use Rattle.cas_history.proofs.calls.deal.Given as goal

abbrev pub ghosts-deal_picked : goal.ghosts-deal_picked
ghosts-deal_picked g a = record { many = a.lists }

use Rattle.node_tests.proofs.nodes.opened_and_used.Given as goal

abbrev pub ghosts-used : goal.ghosts-used
ghosts-used g a = record { table = a.opened.table.seat.table_id }

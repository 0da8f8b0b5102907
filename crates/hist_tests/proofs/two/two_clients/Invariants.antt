use Rattle.hist_tests.proofs.two.two_clients.Given as goal

abbrev pub ghosts-clients : goal.ghosts-clients
ghosts-clients g a = record { table = a.opened.seat.table_id }

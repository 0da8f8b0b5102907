use Rattle.cas_node.proofs.program.run.Given as goal

abbrev pub ghosts-serve : goal.ghosts-serve
ghosts-serve g a = record { table = a.opened.table.seat.table_id }

use Rattle.hist_tests.proofs.walk.each_call_once.Given as goal

abbrev pub ghosts-writes : goal.ghosts-writes
ghosts-writes g a = record { table = a.opened.seat.table_id }

abbrev pub ghosts-compaction : goal.ghosts-compaction
ghosts-compaction g a = record { table = a.opened.seat.table_id }

abbrev pub ghosts-failed_flush : goal.ghosts-failed_flush
ghosts-failed_flush g a = record { table = a.opened.seat.table_id }

abbrev pub ghosts-held : goal.ghosts-held
ghosts-held g a = record { table = a.opened.seat.table_id }

abbrev pub ghosts-found : goal.ghosts-found
ghosts-found g a = record { table = a.opened.seat.table_id }

use Rattle.cas_stored.specs.Reading.{IsBadFile}
use Rattle.cas_stored.proofs.table.TableStore.rows_of.Given as goal

abbrev pub ghosts-rows_in_files : goal.ghosts-rows_in_files
ghosts-rows_in_files g a = record { told = λ n at. IsBadFile a.store.now.files a.query.key a.query.slice n at }

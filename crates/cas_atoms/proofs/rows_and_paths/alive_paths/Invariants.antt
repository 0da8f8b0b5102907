use Rattle.std.proofs.Common.{◌≡◌, filter, take}
use Rattle.cas_atoms.specs.Coordinates.{path}
use Rattle.cas_atoms.specs.Inner.Places.{row_at}
use Rattle.cas_atoms.specs.Winners.{cell_winner}
use Rattle.cas_atoms.specs.RowsAndPaths.{is_alive}
use Rattle.cas_atoms.proofs.rows_and_paths.alive_paths.Given as goal

abbrev pub invariant-loop-bytes : goal.invariant-loop-bytes
invariant-loop-bytes l = l.paths.items ≡ filter (λ p. is_alive l.partition.now (cell_winner l.partition.atoms.now (path (row_at l.place) l.place.number p))) (take l.bytes-index l.bytes-items)

use Rattle.std.proofs.Common.{◌≡◌, take}
use Rattle.cas_types.specs.Schemas.{path_type}
use Rattle.cas_atoms.specs.Inner.Places.{row_at}
use Rattle.cas_atoms.specs.RowsAndPaths.{ordered, path_cmp, written_path}
use Rattle.cas_atoms.proofs.rows_and_paths.written_paths.Given as goal

abbrev pub invariant-loop-atom : goal.invariant-loop-atom
invariant-loop-atom l = l.paths.items ≡ ordered (path_cmp (path_type l.column.shape l.column.tag)) (written_path (row_at l.place) l.place.number) (take l.atom-index l.atoms)

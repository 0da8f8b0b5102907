use Rattle.std.proofs.Common.{◌≡◌, take}
use Rattle.cas_atoms.specs.RowsAndPaths.{rows_of}
use Rattle.cas_atoms.proofs.rows_and_paths.rows_of.Given as goal

abbrev pub invariant-loop-atom : goal.invariant-loop-atom
invariant-loop-atom l = l.rows.items ≡ rows_of l.order (take l.atom-index l.atoms)

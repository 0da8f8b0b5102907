use Rattle.std.proofs.Common.{◌≡◌, take}
use Rattle.cas_cell.specs.Deletions.{deletion_cmp}
use Rattle.cas_atoms.specs.Greatest.{greatest}
use Rattle.cas_atoms.specs.Coordinates.{row, deletion_at}
use Rattle.cas_atoms.proofs.winners.row_cover.Given as goal

abbrev pub invariant-loop-atom : goal.invariant-loop-atom
invariant-loop-atom l = l.best ≡ greatest deletion_cmp (deletion_at (row l.values)) (take l.atom-index l.atoms)

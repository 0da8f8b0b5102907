use Rattle.std.proofs.Common.{◌≡◌, take}
use Rattle.cas_cell.specs.Deletions.{deletion_cmp}
use Rattle.cas_atoms.specs.Greatest.{greatest}
use Rattle.cas_atoms.specs.Inner.Places.{row_at}
use Rattle.cas_atoms.specs.Coordinates.{path, deletion_at}
use Rattle.cas_atoms.proofs.winners.path_cover.Given as goal

abbrev pub invariant-loop-atom : goal.invariant-loop-atom
invariant-loop-atom l = l.best ≡ greatest deletion_cmp (deletion_at (path (row_at l.place) l.place.number l.bytes)) (take l.atom-index l.atoms)

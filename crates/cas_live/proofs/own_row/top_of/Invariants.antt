use Rattle.std.proofs.Common.{◌≡◌, take}
use Rattle.cas_cell.specs.Deletions.{deletion_cmp}
use Rattle.cas_atoms.specs.Greatest.{greatest}
use Rattle.cas_live.specs.Inner.OwnRow.{of_whole}
use Rattle.cas_live.proofs.own_row.top_of.Given as goal

abbrev pub invariant-loop-atom : goal.invariant-loop-atom
invariant-loop-atom l = l.best ≡ greatest deletion_cmp of_whole (take l.atom-index l.all)

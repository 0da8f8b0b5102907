use Rattle.std.proofs.Common.{◌≡◌, take}
use Rattle.std.specs.Option.{option_copied}
use Rattle.cas_cell.specs.Cells.{cell_at, cell_cmp}
use Rattle.cas_atoms.specs.Greatest.{greatest}
use Rattle.cas_atoms.specs.Inner.Places.{row_at}
use Rattle.cas_atoms.specs.Coordinates.{path, cell_at_path}
use Rattle.cas_atoms.specs.Winners.{cover, standing}
use Rattle.cas_atoms.proofs.winners.cell_winner.Given as goal

abbrev pub invariant-loop-atom : goal.invariant-loop-atom
invariant-loop-atom l =
    let x = path (row_at l.place) l.place.number l.bytes in
    option_copied l.best ≡ greatest cell_cmp (λ a. standing cell_at (cover l.atoms x) (cell_at_path x a)) (take l.atom-index l.atoms)

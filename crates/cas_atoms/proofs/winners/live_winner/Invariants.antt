use Rattle.std.proofs.Common.{◌≡◌, take}
use Rattle.cas_cell.specs.Lives.{live_at, live_cmp}
use Rattle.cas_atoms.specs.Greatest.{greatest}
use Rattle.cas_atoms.specs.Coordinates.{row, live_at_row}
use Rattle.cas_atoms.specs.Winners.{cover, standing}
use Rattle.cas_atoms.proofs.winners.live_winner.Given as goal

abbrev pub invariant-loop-atom : goal.invariant-loop-atom
invariant-loop-atom l = l.best ≡ greatest live_cmp (λ a. standing live_at (cover l.atoms (row l.values)) (live_at_row l.values a)) (take l.atom-index l.atoms)

use Rattle.std.proofs.Common.{◌≡◌, map, take}
use Rattle.std.specs.List.{enumerate_from}
use Rattle.cas_effects.specs.AtomsOf.{placed_at}
use Rattle.cas_effects.proofs.atoms.placed_from.Given as goal

abbrev pub invariant-loop-index : goal.invariant-loop-index
invariant-loop-index l = l.elements.items ≡ map (placed_at l.order) (enumerate_from 0 (take l.index l.values))

use Rattle.std.proofs.Common.{◌≡◌, ◌++◌, map, length}
use Rattle.std.specs.Option.{option_copied}
use Rattle.cas_streams.specs.Flat.{writes}
use Rattle.cas_live.proofs.views.add_cells.Given as goal

abbrev pub invariant-loop-rest : goal.invariant-loop-rest
invariant-loop-rest l = l.atoms.items ++ map (writes (option_copied l.at) l.column) l.rest ≡ l.fn.atoms.items ++ map (writes (option_copied l.at) l.column) l.cells

abbrev pub decreases-loop-rest : goal.decreases-loop-rest
decreases-loop-rest l = length l.rest

use Rattle.std.proofs.Common.{◌≡◌, ◌++◌, length}
use Rattle.std.specs.List.{flat_map}
use Rattle.std.specs.Option.{option_copied}
use Rattle.cas_streams.specs.Flat.{of_column}
use Rattle.cas_live.proofs.views.add_columns.Given as goal

abbrev pub invariant-loop-rest : goal.invariant-loop-rest
invariant-loop-rest l = l.atoms.items ++ flat_map (of_column (option_copied l.at)) l.rest ≡ l.fn.atoms.items ++ flat_map (of_column (option_copied l.at)) l.columns

abbrev pub decreases-loop-rest : goal.decreases-loop-rest
decreases-loop-rest l = length l.rest

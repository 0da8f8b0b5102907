use Rattle.std.proofs.Common.{◌≡◌, ◌++◌, take, drop}
use Rattle.cas_bounds.specs.Orders.{values_cmp}
use Rattle.cas_atoms.specs.RowsAndPaths.{put}
use Rattle.cas_atoms.proofs.rows_and_paths.place_of_row.Given as goal

abbrev pub invariant-loop-i : goal.invariant-loop-i
invariant-loop-i l = put (values_cmp l.order) l.key l.rows ≡ take l.i l.rows ++ put (values_cmp l.order) l.key (drop l.i l.rows)

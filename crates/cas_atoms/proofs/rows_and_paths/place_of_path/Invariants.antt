use Rattle.std.proofs.Common.{◌≡◌, ◌++◌, take, drop}
use Rattle.cas_atoms.specs.RowsAndPaths.{put, path_cmp}
use Rattle.cas_atoms.proofs.rows_and_paths.place_of_path.Given as goal

abbrev pub invariant-loop-i : goal.invariant-loop-i
invariant-loop-i l = put (path_cmp l.tag) l.key l.paths ≡ take l.i l.paths ++ put (path_cmp l.tag) l.key (drop l.i l.paths)

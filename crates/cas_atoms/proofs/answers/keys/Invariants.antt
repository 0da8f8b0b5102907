use Rattle.std.proofs.Common.{◌≡◌, map, take}
use Rattle.cas_atoms.specs.Coordinates.{row_key, clustered}
use Rattle.cas_atoms.proofs.answers.keys.Given as goal

abbrev pub invariant-loop-values : goal.invariant-loop-values
invariant-loop-values l = map row_key l.keys.items ≡ map clustered (take l.values-index l.rows)

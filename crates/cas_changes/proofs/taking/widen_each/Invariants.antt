use Rattle.std.proofs.Common.{◌≡◌, ◌++◌, take, drop, map}
use Rattle.cas_changes.specs.Saying.{with_columns}
use Rattle.cas_changes.proofs.taking.widen_each.Given as goal

abbrev pub invariant-loop-place : goal.invariant-loop-place
invariant-loop-place l = l.tables ≡ map (with_columns l.number l.columns) (take l.place l.fn.tables) ++ drop l.place l.fn.tables

use Rattle.std.proofs.Common.{◌≡◌, ◌++◌, take}
use Rattle.cas_changes.proofs.taking.add_columns.Given as goal

abbrev pub invariant-loop-column : goal.invariant-loop-column
invariant-loop-column l = l.into.items ≡ l.initial.into.items ++ take l.column-index l.columns

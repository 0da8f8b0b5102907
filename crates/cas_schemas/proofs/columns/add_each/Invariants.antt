use Rattle.std.proofs.Common.{◌≡◌, ◌-◌, ◌≤◌, vec_len}
use Rattle.cas_schemas.specs.Each.{each_at}
use Rattle.cas_schemas.specs.Inner.Behind.{behind}
use Rattle.cas_schemas.specs.Reading.{column_at}
use Rattle.cas_schemas.proofs.columns.add_each.Given as goal

abbrev pub invariant-loop-done : goal.invariant-loop-done
invariant-loop-done l =
    (behind l.columns.items (each_at (column_at l.new) (l.count - l._done) l.columns.items l.reader)
    ≡ behind l.fn.columns.items (each_at (column_at l.new) l.count l.fn.columns.items l.fn.reader))
    × (vec_len l.fn.columns ≤ vec_len l.columns)

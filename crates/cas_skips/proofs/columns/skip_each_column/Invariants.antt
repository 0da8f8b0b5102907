use Rattle.std.proofs.Common.{◌≡◌, ◌-◌, None}
use Rattle.cas_records.specs.declared.columns.Wanted.TheVariants.{Regular}
use Rattle.cas_fragments.specs.Reading.{chain_at, row_column_at}
use Rattle.cas_skips.specs.Told.{passed}
use Rattle.cas_skips.proofs.columns.skip_each_column.Given as goal

abbrev pub invariant-loop-done : goal.invariant-loop-done
invariant-loop-done l =
    passed (chain_at (λ c. c.column.number) (row_column_at Regular l.columns) (l.count - l._done) l.before l.reader)
    ≡ passed (chain_at (λ c. c.column.number) (row_column_at Regular l.columns) l.count None l.fn.reader)

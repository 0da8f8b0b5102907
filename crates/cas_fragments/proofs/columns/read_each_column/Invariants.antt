use Rattle.std.proofs.Common.{◌≡◌, ◌-◌, None}
use Rattle.cas_codec.proofs.Times.{with_front}
use Rattle.cas_fragments.specs.Reading.{chain_at, row_column_at}
use Rattle.cas_fragments.specs.Inner.Lasts.{last_key}
use Rattle.cas_fragments.proofs.columns.read_each_column.Given as goal

abbrev pub invariant-loop-done : goal.invariant-loop-done
invariant-loop-done l =
    with_front l.found.items (chain_at (λ c. c.column.number) (row_column_at l.wanted l.columns) (l.count - l._done) (last_key (λ c. c.column.number) l.found.items) l.reader)
    ≡ chain_at (λ c. c.column.number) (row_column_at l.wanted l.columns) l.count None l.fn.reader

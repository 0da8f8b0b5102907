use Rattle.std.proofs.Common.{◌≡◌, ◌-◌, None}
use Rattle.cas_codec.proofs.Times.{with_front}
use Rattle.cas_fragments.specs.Reading.{chain_at, path_cell_at}
use Rattle.cas_fragments.specs.Inner.Lasts.{last_key}
use Rattle.cas_fragments.proofs.columns.read_each_cell.Given as goal

abbrev pub invariant-loop-done : goal.invariant-loop-done
invariant-loop-done l =
    with_front l.cells.items (chain_at (λ c. c.path) (path_cell_at l.column) (l.count - l._done) (last_key (λ c. c.path) l.cells.items) l.reader)
    ≡ chain_at (λ c. c.path) (path_cell_at l.column) l.count None l.fn.reader

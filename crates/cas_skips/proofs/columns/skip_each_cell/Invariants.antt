use Rattle.std.proofs.Common.{◌≡◌, ◌-◌, None}
use Rattle.std.specs.Option.{option_map}
use Rattle.cas_fragments.specs.Reading.{chain_at, path_cell_at}
use Rattle.cas_skips.specs.Told.{passed}
use Rattle.cas_skips.proofs.columns.skip_each_cell.Given as goal

abbrev pub invariant-loop-done : goal.invariant-loop-done
invariant-loop-done l =
    passed (chain_at (λ c. c.path) (path_cell_at l.column) (l.count - l._done) (option_map (λ p. p.now) l.before) l.reader)
    ≡ passed (chain_at (λ c. c.path) (path_cell_at l.column) l.count None l.fn.reader)

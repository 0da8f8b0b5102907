use Rattle.std.proofs.Common.{◌≡◌, ◌-◌, []}
use Rattle.cas_schemas.specs.Each.{each_at}
use Rattle.cas_schemas.specs.Inner.Behind.{behind}
use Rattle.cas_changes.specs.Reading.{gone_at}
use Rattle.cas_changes.proofs.changes.read_each_gone.Given as goal

abbrev pub invariant-loop-done : goal.invariant-loop-done
invariant-loop-done l =
    behind l.numbers.items (each_at (gone_at l.listed) (l.count - l._done) l.numbers.items l.reader) ≡ each_at (gone_at l.listed) l.count [] l.fn.reader

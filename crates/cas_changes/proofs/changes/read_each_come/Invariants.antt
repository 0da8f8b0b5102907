use Rattle.std.proofs.Common.{◌≡◌, ◌-◌, []}
use Rattle.cas_schemas.specs.Each.{each_at}
use Rattle.cas_schemas.specs.Inner.Behind.{behind}
use Rattle.cas_changes.specs.Reading.{come_at}
use Rattle.cas_changes.proofs.changes.read_each_come.Given as goal

abbrev pub invariant-loop-done : goal.invariant-loop-done
invariant-loop-done l =
    behind l.infos.items (each_at (come_at l.said) (l.count - l._done) l.infos.items l.reader) ≡ each_at (come_at l.said) l.count [] l.fn.reader

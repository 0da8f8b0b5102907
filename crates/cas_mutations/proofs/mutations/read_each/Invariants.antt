use Rattle.std.proofs.Common.{◌≡◌, ◌-◌}
use Rattle.cas_codec.specs.Reading.{times_at}
use Rattle.cas_codec.proofs.Times.{with_front}
use Rattle.cas_mutations.specs.Reading.{atom_at}
use Rattle.cas_mutations.proofs.mutations.read_each.Given as goal

abbrev pub invariant-loop-done : goal.invariant-loop-done
invariant-loop-done l =
    with_front l.atoms.items (times_at (l.count - l._done) (atom_at l.order l.columns) l.reader) ≡ times_at l.count (atom_at l.order l.columns) l.fn.reader

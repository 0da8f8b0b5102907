use Rattle.std.proofs.Common.{◌≡◌, take}
use Rattle.std.specs.Prelude.{map}
use Rattle.std.specs.Arc.{arc_value}
use Rattle.cas_memtable.specs.Inner.Least.{least_in}
use Rattle.cas_memtable.proofs.parts.least_frozen.Given as goal

abbrev pub invariant-loop-memtable : goal.invariant-loop-memtable
invariant-loop-memtable l = l.least ≡ least_in l.key (map arc_value (take l.memtable-index l.frozen))

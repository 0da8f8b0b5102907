use Rattle.std.proofs.Common.{◌≡◌, length}
use Rattle.cas_memtable.specs.Memtables.{least_with as least_of_all}
use Rattle.cas_memtable.proofs.memtable.least_with.Given as goal

abbrev pub invariant-loop-rest : goal.invariant-loop-rest
invariant-loop-rest l = least_of_all l.found l.rest ≡ least_of_all l.fn.least l.fn.atoms

abbrev pub decreases-loop-rest : goal.decreases-loop-rest
decreases-loop-rest l = length l.rest

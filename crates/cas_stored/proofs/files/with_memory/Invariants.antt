use Rattle.std.proofs.Common.{◌≡◌, ◌++◌, length, map}
use Rattle.std.specs.Vec.Iter.{into_iter_items}
use Rattle.cas_stored.specs.declared.source.StoredSource.TheVariants.{Memory}
use Rattle.cas_stored.proofs.files.with_memory.Given as goal

abbrev pub invariant-loop-source : goal.invariant-loop-source
invariant-loop-source g l = l.sources.items ++ map Memory (into_iter_items l.rest) ≡ l.fn.files.items ++ map Memory l.fn.memory.items

abbrev pub decreases-loop-source : goal.decreases-loop-source
decreases-loop-source g l = length (into_iter_items l.rest)

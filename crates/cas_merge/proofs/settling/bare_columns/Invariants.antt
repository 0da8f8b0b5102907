use Rattle.std.proofs.Common.{◌≡◌, ◌++◌, Option}
use Rattle.std.specs.Vec.Iter.{into_iter_items, into_iter_len}
use Rattle.cas_bounds.specs.declared.cuts.Clustering.{Clustering}
use Rattle.cas_streams.specs.Settled.{bare_columns as bare_of}
use Rattle.cas_merge.proofs.settling.bare_columns.Given as goal

abbrev pub invariant-loop-c : goal.invariant-loop-c
invariant-loop-c l = (at : Option Clustering) → l.kept.items ++ bare_of at l.over (into_iter_items l.rest) ≡ bare_of at l.fn.over l.fn.columns

abbrev pub decreases-loop-c : goal.decreases-loop-c
decreases-loop-c l = into_iter_len l.rest

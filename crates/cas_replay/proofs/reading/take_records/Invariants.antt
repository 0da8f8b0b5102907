use Rattle.std.proofs.Common.{◌++◌, ◌≡◌, ◌-◌, List}
use Rattle.cas_atoms.specs.declared.atom.Mutation.{Mutation}
use Rattle.cas_replay.specs.Reading.{records_at}
use Rattle.cas_replay.specs.Inner.Progress.{Stands, Went}
use Rattle.cas_replay.proofs.reading.take_records.Given as goal

abbrev pub invariant-loop-done : goal.invariant-loop-done
invariant-loop-done g l =
    (first before : List Mutation) → Stands l.of.shards l.of.frontiers.now (λ ms. g.T.TakesMutations.has_taken (first ++ ms) l.initial.taker) l.initial.lasts before
    → Went l.of.tables.now l.of.shards l.of.frontiers.now (λ ms. g.T.TakesMutations.has_taken (first ++ ms) l.taker) l.lasts before
    (λ after. records_at l.of.tables.now l.of.shards (l.count - l._done) after l.reader ≡ records_at l.of.tables.now l.of.shards l.count before l.initial.reader)

use Rattle.std.proofs.Common.{◌≡◌, ◌++◌, filter, take}
use Rattle.std.specs.List.{flat_map}
use Rattle.cas_laws.specs.Inside.{is_read}
use Rattle.cas_shard.specs.Entries.{atoms_if}
use Rattle.cas_shard.proofs.first.append_read.Given as goal

abbrev pub invariant-loop-entry : goal.invariant-loop-entry
invariant-loop-entry l =
    l.into.items ≡ l.initial.into.items ++ filter (is_read l.query.slice) (flat_map (atoms_if l.front l.query.table l.query.key) (take l.entry-index l.entries))

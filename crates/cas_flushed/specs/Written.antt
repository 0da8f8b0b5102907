-- The mutations that a table file's partitions tell: one for each.
-- Cassandra documentation, "Storage engine: SSTables"; own.
use Rattle.std.specs.Prelude.{pos, false, List, map}
use Rattle.cas_atoms.specs.declared.atom.Mutation.{Mutation}
use Rattle.cas_streams.specs.Merged.{flat_of}
use Rattle.cas_tables.specs.Contents.{Partition}

-- The mutation that writes all that a partition says under its key. Which table and shard it is of the file's head tells; its number and its times stand
-- in no file, and are 0.
abbrev pub mutation_of : Partition → Mutation
mutation_of p = record { table = 0; shard = 0; number = 0; drawn = false; at = pos 0; moment = pos 0; key = p.key; atoms = flat_of p.stream }

-- one for each partition, in their order
abbrev pub written_in : List Partition → List Mutation
written_in ps = map mutation_of ps

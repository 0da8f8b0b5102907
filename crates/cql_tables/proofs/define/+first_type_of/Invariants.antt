use Rattle.std.proofs.Common.{length}
use Rattle.cql_tables.proofs.define.+first_type_of.Given as goal

abbrev pub decreases-first_type_of : goal.decreases-first_type_of
decreases-first_type_of l = length l.table.now

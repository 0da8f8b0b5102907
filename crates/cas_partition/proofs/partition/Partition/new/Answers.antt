use Rattle.cas_partition.proofs.Taking.{empty_of, empty_of_table, empty_at_ends}
use Rattle.cas_partition.proofs.partition.Partition.new.Goals as goal

pub returns-clause-of : goal.returns-clause-of
returns-clause-of c order = empty_of order _ c.new.ensures c.new-2.ensures

pub returns-clause-table : goal.returns-clause-table
returns-clause-table c columns = empty_of_table columns _ c.new.ensures c.new-2.ensures

pub returns-clause-ends : goal.returns-clause-ends
returns-clause-ends c ws = empty_at_ends ws _ c.new.ensures

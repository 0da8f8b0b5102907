use Rattle.cql_tables.proofs.WordAgree.{at_most_one}
use Rattle.cql_tables.proofs.table_words.one_table.Goals as goal

pub returns : goal.returns
returns c = at_most_one

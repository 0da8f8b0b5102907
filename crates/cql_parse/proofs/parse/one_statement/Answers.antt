use Rattle.cql_parse.proofs.StatementAgree.{at_most_one}
use Rattle.cql_parse.proofs.parse.one_statement.Goals as goal

pub returns : goal.returns
returns c = at_most_one

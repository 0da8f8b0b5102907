use Rattle.cql_parse.proofs.StatementAgree.{read_is_meant, is_answer}
use Rattle.cql_parse.proofs.parse.statement.Goals as goal

pub returns-clause-found : goal.returns-clause-found
returns-clause-found c = read_is_meant _ _ c.parsed.result c.parsed.ensures

pub returns-clause-only : goal.returns-clause-only
returns-clause-only c = λ s m. is_answer _ _ s c.parsed.result c.parsed.ensures m

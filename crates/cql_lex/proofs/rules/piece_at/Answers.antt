use Rattle.cql_lex.proofs.Pieces.{token_sized}
use Rattle.cql_lex.proofs.rules.piece_at.Goals as goal

pub returns-in-None-clause-size : goal.returns-in-None-clause-size
returns-in-None-clause-size c = token_sized c.args.text.now c.token_at.result c.token_at.ensures

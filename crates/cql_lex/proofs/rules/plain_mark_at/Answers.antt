use Rattle.std.proofs.Common.{rules}
use Rattle.cql_lex.proofs.Firsts.{plain_mark_first}
use Rattle.cql_lex.proofs.rules.plain_mark_at.Goals as goal

pub returns-in-len1-up : goal.returns-in-len1-up
returns-in-len1-up c = plain_mark_first c.args.text.now c.symbol.result (search rules) (search rules) (search rules)

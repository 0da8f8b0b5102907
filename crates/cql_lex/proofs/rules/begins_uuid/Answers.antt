use Rattle.cql_lex.proofs.Spelled.{short_no_uuid}
use Rattle.cql_lex.proofs.rules.begins_uuid.Goals as goal

pub returns-then-text-lt36 : goal.returns-then-text-lt36
returns-then-text-lt36 c = short_no_uuid c.args.text.now c.if-text-lt36.true

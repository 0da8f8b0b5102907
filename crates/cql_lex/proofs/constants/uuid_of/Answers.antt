use Rattle.std.proofs.Common.{◌∙◌}
use Rattle.std.proofs.lemmas.Bool.{false≢true}
use Rattle.cql_lex.proofs.Spelled.{is_none, of_36}
use Rattle.cql_lex.proofs.constants.uuid_of.Goals as goal

pub returns-in-Err : goal.returns-in-Err
returns-in-Err c = is_none _ (λ h. false≢true (c.in-Err.ensures.ok.1 h)) ∙ of_36 c.args.text.now c.if-text-ne36.false

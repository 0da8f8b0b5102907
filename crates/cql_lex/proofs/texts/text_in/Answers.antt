use Rattle.std.proofs.Common.{ap, ◌∙◌, Some}
use Rattle.cql_lex.proofs.Spelled.{is_text, no_text}
use Rattle.cql_lex.proofs.texts.text_in.Goals as goal

pub returns-in_ok-copy_of-in-Ok : goal.returns-in_ok-copy_of-in-Ok
returns-in_ok-copy_of-in-Ok c = ap (λ bs. Some bs) (c.in_ok-copy_of-in-Ok.ensures ∙ c.in-Ok.ensures.cases.0) ∙ is_text c.args.bytes.now c.in-Ok.ensures.cases.1

pub returns-in-Err : goal.returns-in-Err
returns-in-Err c = no_text c.args.bytes.now c.in-Err.ensures.cases.0

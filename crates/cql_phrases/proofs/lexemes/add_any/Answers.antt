use Rattle.std.proofs.lemmas.Result.{err_from_is_err_and}
use Rattle.cql_phrases.proofs.LineLexemes.{of_kind}
use Rattle.cql_phrases.proofs.LineReading.{only_memory}
use Rattle.cql_phrases.proofs.lexemes.add_any.Goals as goal

pub returns-in_err-lexeme-clause-err : goal.returns-in_err-lexeme-clause-err
returns-in_err-lexeme-clause-err c =
    let p = err_from_is_err_and c.from_residual.result c.from_residual.ensures.1 in
    rw (p.1, p.2) (only_memory _ _ (of_kind c.args.token.kind c.args.token.start c.args.token.end c.args.text.now c.requires) c.in_err-lexeme.ensures)

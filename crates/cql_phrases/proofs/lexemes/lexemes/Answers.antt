use Rattle.std.proofs.lemmas.Result.{err_from_is_err_and}
use Rattle.std.proofs.lemmas.List.{nil_from_length}
use Rattle.cql_phrases.proofs.Meanings.{adds, misses, all_found}
use Rattle.cql_phrases.proofs.lexemes.lexemes.Goals as goal

pub returns-in_err-lexeme_at : goal.returns-in_err-lexeme_at
returns-in_err-lexeme_at c =
    let p = err_from_is_err_and c.from_residual-in_err-lexeme_at.result c.from_residual-in_err-lexeme_at.ensures.1 in
    rw (p.1, p.2) (misses _ _ _ _ _ _ _ c.in-Some.ensures.cases.0 c.in_err-lexeme_at.ensures c.loop-token.invariant)

pub loop-token-preserved : goal.loop-token-preserved
loop-token-preserved c = adds _ c.loop-token.found.items _ _ _ _ _ _ c.in-Some.ensures.cases.0 c.in_ok-lexeme_at.ensures c.in_ok-push.ensures.items c.loop-token.invariant

pub returns : goal.returns
returns c = all_found _ _ _ _ (nil_from_length _ c.in_default.ensures.cases) c.loop-token.invariant

use Rattle.std.proofs.Common.{◌≡◌, length, sym, rules}
use Rattle.std.proofs.lemmas.List.{nil_from_length}
use Rattle.cql_phrases.proofs.Walks.{goes, opens_one, closes_one, closes_all, fails_here, runs_out}
use Rattle.cql_phrases.proofs.nested.walk.Goals as goal

pub loop-lexeme-preserved-in-Go : goal.loop-lexeme-preserved-in-Go
loop-lexeme-preserved-in-Go c = goes _ _ _ _ _ _ _ _ _ c.in-Some.ensures.cases.0 (sym c.in-Go.ensures) c.loop-lexeme.invariant

pub loop-lexeme-preserved-in-Open : goal.loop-lexeme-preserved-in-Open
loop-lexeme-preserved-in-Open c = opens_one _ _ _ _ _ _ _ _ _ c.in-Some.ensures.cases.0 (sym c.in-Open.ensures) c.in_ok-push-in-Open.ensures.items c.loop-lexeme.invariant

pub returns-in-None : goal.returns-in-None
returns-in-None c = closes_all _ _ c.loop-lexeme.around.items _ _ _ _ _ c.in-Some.ensures.cases.0 (sym c.in-Close.ensures) (let e : length c.loop-lexeme.around.items ≡ 0 = search rules in nil_from_length _ e) c.loop-lexeme.invariant

pub loop-lexeme-preserved : goal.loop-lexeme-preserved
loop-lexeme-preserved c = closes_one _ _ _ _ _ _ _ _ _ _ c.in-Some.ensures.cases.0 (sym c.in-Close.ensures) c.in-Some-pop.ensures.items c.loop-lexeme.invariant

pub returns-in-Wrong : goal.returns-in-Wrong
returns-in-Wrong c = fails_here _ _ _ _ _ _ _ c.in-Some.ensures.cases.0 (sym c.in-Wrong.ensures) c.loop-lexeme.invariant

pub returns : goal.returns
returns c = runs_out _ _ _ _ _ (nil_from_length _ c.in_default.ensures.cases) c.loop-lexeme.invariant

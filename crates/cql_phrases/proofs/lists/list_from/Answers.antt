use Rattle.std.proofs.Common.{sym}
use Rattle.std.proofs.lemmas.Result.{err_from_is_err_and}
use Rattle.cql_phrases.specs.Inner.Reading.{from_at}
use Rattle.cql_phrases.proofs.Loop.{goes_on, stops, ends, counted}
use Rattle.cql_phrases.proofs.lists.list_from.Goals as goal

pub returns-in-None : goal.returns-in-None
unfolding from_at
returns-in-None g c = rw c.from_vec.ensures (ends _ g.X.Part.reads _ _ _ _ _ c.loop-test.true (sym c.in-None.ensures) c.loop.invariant)

pub returns-in_err-item-in-Some : goal.returns-in_err-item-in-Some
unfolding from_at
returns-in_err-item-in-Some g c =
    let p = err_from_is_err_and c.from_residual.result c.from_residual.ensures.1 in
    rw (p.1, p.2) (stops _ g.X.Part.reads _ _ _ _ _ _ _ c.loop-test.true (sym c.in-Some.ensures) c.in_err-item-in-Some.ensures c.loop.invariant)

pub loop-preserved : goal.loop-preserved
unfolding from_at
loop-preserved g c =
    rw c.in_ok-push-in-Some.ensures.items (goes_on _ g.X.Part.reads _ _ _ _ _ _ _ _ c.loop-test.true (sym c.in-Some.ensures) c.in_ok-item-in-Some.ensures c.loop.invariant)

pub returns : goal.returns
unfolding from_at
returns g c = rw c.from_vec-2.ensures (counted _ g.X.Part.reads _ _ _ _ _ c.loop-test.false c.loop.invariant)

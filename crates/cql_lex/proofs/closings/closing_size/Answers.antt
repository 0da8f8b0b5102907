use Rattle.cql_lex.proofs.Turns.{closing_turn, closing_twice}
use Rattle.cql_lex.proofs.closings.closing_size.Goals as goal

pub loop-at-preserved-then-text-at : goal.loop-at-preserved-then-text-at
loop-at-preserved-then-text-at c =
    closing_turn c.args.quote c.args.text.now c.loop-at.at _ c.loop-at-test.true c.if-text-at.true c.loop-at.invariant

pub loop-at-preserved : goal.loop-at-preserved
loop-at-preserved c =
    closing_twice c.args.quote c.args.text.now c.loop-at.at _ c.if-at-text.true c.if-text-at.false c.if-text-at-2.true c.loop-at.invariant

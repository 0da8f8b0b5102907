use Rattle.std.proofs.Common.{rules}
use Rattle.cql_lex.proofs.Turns.{closed_turn, closed_twice, plain_begun}
use Rattle.cql_lex.proofs.quotes.read_closed.Goals as goal

pub loop-at-preserved-then-text-at : goal.loop-at-preserved-then-text-at
loop-at-preserved-then-text-at c =
    closed_turn c.args.quote c.args.text.now c.loop-at.at c.loop-at.inner.items _ _ c.loop-at-test.true c.if-text-at.true c.in_ok-push.ensures.items c.loop-at.invariant

pub loop-at-preserved : goal.loop-at-preserved
loop-at-preserved c =
    closed_twice c.args.quote c.args.text.now c.loop-at.at c.loop-at.inner.items _ _ c.if-at-text.true c.if-text-at.false c.if-text-at-2.true c.in_ok-push-2.ensures.items c.loop-at.invariant

pub loop-at-init : goal.loop-at-init
loop-at-init c = plain_begun c.args.quote c.args.text.now c.plain_size-at.result c.extend_from_slice.new.self.items (search rules) c.plain_size-at.ensures.size

use Rattle.cas_types.proofs.Fronts.{passed_over}
use Rattle.cas_types.proofs.bytes.compare_bytes.Goals as goal

pub loop-x-preserved : goal.loop-x-preserved
loop-x-preserved c =
    passed_over 64 c.args.a.now c.args.b.now c.loop-x.x.now c.loop-x.y.now _ _ _ _ _ c.split_at.ensures.front c.split_at-in-loop-x.ensures.front c.split_at.ensures.back c.split_at-in-loop-x.ensures.back c.if-ne.false c.ne.ensures c.loop-x.invariant

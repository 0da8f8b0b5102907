use Rattle.std.proofs.Common.{Vec, Global}
use Rattle.cas_codec.proofs.Times.{gives_fault}
use Rattle.cas_index.specs.declared.entries.BlockEntry.{BlockEntry}
use Rattle.cas_index.proofs.Following.{loop_more, loop_fault, loop_all}
use Rattle.cas_index.proofs.reading.read_each_block.Goals as goal

pub returns-in-Err : goal.returns-in-Err
returns-in-Err c =
    gives_fault (λ (v : Vec BlockEntry Global). v.items) (λ b. b) c.in-Err.fault _ _ _ c.in-Err.ensures
    (λ g e. loop_fault _ _ _ _ _ g _ c.loop-done-test.true _ c.deref.ensures.value e c.loop-done.invariant)

pub loop-done-preserved : goal.loop-done-preserved
loop-done-preserved c =
    loop_more _ _ _ _ c.in-Ok.block _ _ _ c.loop-done-test.true _ _ c.deref.ensures.value c.in_ok-push-in-Ok.ensures.items c.in-Ok.ensures c.loop-done.invariant

pub returns : goal.returns
returns c = loop_all _ _ _ _ _ _ c.loop-done-test.false c.loop-done.invariant

use Rattle.std.proofs.Common.{sym}
use Rattle.cas_verify.specs.Fields.{block_fields}
use Rattle.cas_verify.proofs.Comparing.{on_more, on_fault, on_all}
use Rattle.cas_verify.proofs.fields.Fields.blocks.Goals as goal

pub loop-block-preserved : goal.loop-block-preserved
loop-block-preserved c =
    on_more block_fields c.args.blocks.now c.loop-block.block-index c.block-item.result c.args.self.now.left c.loop-block.self.left c.block.new.self.left
    c.loop-block-test.true (sym c.block-item.is) c.in-Ok.ensures c.loop-block.invariant

pub returns-in-Err : goal.returns-in-Err
returns-in-Err c =
    on_fault block_fields c.args.blocks.now c.loop-block.block-index c.block-item.result c.args.self.now.left c.loop-block.self.left c.block.new.self.left
    c.block.new.self.left c.in-Err.fault c.loop-block-test.true (sym c.block-item.is) c.in-Err.ensures c.loop-block.invariant

pub returns : goal.returns
returns c =
    on_all block_fields c.args.blocks.now c.loop-block.block-index c.args.self.now.left c.loop-block.self.left c.loop-block-test.false c.loop-block.invariant

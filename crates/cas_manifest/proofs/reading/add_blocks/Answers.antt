use Rattle.std.proofs.Common.{ℕ, ◌<◌, ◌≤◌, Err, length, ap, sym, ◌∙◌, arith}
use Rattle.cas_codec.specs.declared.fault.ReadFault.TheVariants.{Short}
use Rattle.cas_codec.proofs.Times.{gives_fault}
use Rattle.cas_manifest.proofs.Loops.{the_far, far_at, far_read, no_gate, shut_gate, one_block, bad_block, too_many}
use Rattle.cas_manifest.proofs.reading.add_blocks.Goals as goal

pub returns-in-Ok : goal.returns-in-Ok
returns-in-Ok c =
    let more : c.loop-block._block < length c.args.reader.now.bytes = omega (arith, ap length c.left-block-end.ensures.left, c.loop-block-test.true) in
    shut_gate _ _ _ _ _ c.loop-block.invariant more c.in-Ok.field-0 _ c.in-Ok.field-0-test.1 c.in-Ok.ensures.exact
    ∙ ap (λ (at : ℕ). far_read (c.loop-block.said, c.loop-block.entries.items) at c.u8.new.self) (sym c.at-at.ensures)

pub returns-in-Err : goal.returns-in-Err
returns-in-Err c =
    let more : c.loop-block._block < length c.args.reader.now.bytes = omega (arith, ap length c.left-block-end.ensures.left, c.loop-block-test.true) in
    gives_fault {X = ℕ} (λ at. far_at (c.loop-block.said, c.loop-block.entries.items) at) (λ n. n) c.in-Err.fault _ _ _ c.in-Err.ensures.exact (λ g e. no_gate _ _ _ _ _ c.loop-block.invariant more g e)

pub returns-in-Err-add_block : goal.returns-in-Err-add_block
returns-in-Err-add_block c =
    let more : c.loop-block._block < length c.args.reader.now.bytes = omega (arith, ap length c.left-block-end.ensures.left, c.loop-block-test.true) in
    gives_fault {X = ℕ} {Z = Unit {0}} (λ at. far_at (c.add_block.new.said, c.add_block.new.entries.items) at) (λ _. the_far (c.add_block.new.said, c.add_block.new.entries.items)) c.in-Err-add_block.fault _ _ _ c.in-Err-add_block.ensures
    (λ g e. bad_block _ _ _ _ _ c.loop-block.invariant more c.in-Ok-eq1.field-0 c.in-Ok-eq1.field-0-test _ g c.in-Ok-eq1.ensures.exact e)

pub loop-block-preserved : goal.loop-block-preserved
loop-block-preserved c =
    let more : c.loop-block._block < length c.args.reader.now.bytes = omega (arith, ap length c.left-block-end.ensures.left, c.loop-block-test.true) in
    one_block _ _ _ _ _ c.loop-block.invariant more c.in-Ok-eq1.field-0 c.in-Ok-eq1.field-0-test _ _ _ c.in-Ok-eq1.ensures.exact c.in_default.ensures

pub returns : goal.returns
returns c =
    let through : length c.args.reader.now.bytes ≤ c.loop-block._block = omega (arith, ap length c.left-block-end.ensures.left, c.loop-block-test.false) in
    too_many _ _ _ _ _ c.loop-block.invariant through ∙ ap (λ at. Err (Short at)) (sym c.at.ensures)

use Rattle.std.proofs.Common.{length, vec_len, ap, arith}
use Rattle.std.proofs.lemmas.List.Folds.{length-flat_map-take}
use Rattle.cas_index.specs.Spelling.{block_bytes}
use Rattle.cas_index.proofs.Lengths.{kept_of, on_any}
use Rattle.cas_index.proofs.writing.put_blocks.Goals as goal

pub returns-in_err-put_block-clause-kept : goal.returns-in_err-put_block-clause-kept
returns-in_err-put_block-clause-kept c =
    on_any c.from_residual.result _ (kept_of (vec_len c.args.out.now) (vec_len c.loop-block.out) c.put_block.new.out.items c.loop-block.out.items c.args.out.now.items _
    c.in_err-put_block.ensures.kept c.loop-block.invariant.written (omega (arith, c.args.out.now.ok)) (omega (arith, c.loop-block.invariant.long)))

pub returns-in_err-put_block-clause-full : goal.returns-in_err-put_block-clause-full
returns-in_err-put_block-clause-full c =
    on_any c.from_residual.result _ (omega (
      arith,
      length-flat_map-take block_bytes c.args.blocks.now c.loop-block.block-index c.block-item.result c.loop-block-test.true,
      ap (λ b. length (block_bytes b)) c.block-item.is,
      c.in_err-put_block.ensures.full,
      c.loop-block.invariant.long,
      c.loop-block.invariant.capacity,
    ))

use Rattle.cas_verify.specs.Fields.{block_fields}
use Rattle.cas_verify.proofs.Comparing.{IsOn}
use Rattle.cas_verify.proofs.fields.Fields.blocks.Given as goal

abbrev pub invariant-loop-block : goal.invariant-loop-block
invariant-loop-block l = IsOn block_fields l.blocks l.block-index l.fn.self.left l.self.left

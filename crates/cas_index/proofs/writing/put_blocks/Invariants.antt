use Rattle.std.proofs.Common.{◌≡◌, ◌+◌, ◌≤◌, ◌++◌, take, length, vec_len}
use Rattle.std.specs.List.{flat_map}
use Rattle.std.specs.Vec.{vec_capacity}
use Rattle.cas_index.specs.Spelling.{block_bytes}
use Rattle.cas_index.proofs.writing.put_blocks.Given as goal

abbrev pub invariant-loop-block : goal.invariant-loop-block
invariant-loop-block l = record {
  written : l.out.items ≡ l.fn.out.items ++ flat_map block_bytes (take l.block-index l.blocks);
  long : vec_len l.out ≡ vec_len l.fn.out + length (flat_map block_bytes (take l.block-index l.blocks));
  capacity : vec_capacity l.fn.out ≤ vec_capacity l.out;
}

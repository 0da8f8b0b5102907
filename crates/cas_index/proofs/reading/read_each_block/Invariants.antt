use Rattle.std.proofs.Common.{None}
use Rattle.cas_index.specs.Reading.{block_at, following_at}
use Rattle.cas_index.proofs.Following.{HasDone}
use Rattle.cas_index.proofs.reading.read_each_block.Given as goal

abbrev pub invariant-loop-done : goal.invariant-loop-done
invariant-loop-done l =
    HasDone (block_at l.order l.place) l.count (following_at (block_at l.order l.place) l.count None l.fn.reader) l._done l.blocks.items l.reader

use Rattle.std.proofs.Common.{◌≡◌, ◌-◌, length}
use Rattle.cas_manifest.specs.Reading.{blocks_at}
use Rattle.cas_manifest.proofs.reading.add_blocks.Given as goal

abbrev pub invariant-loop-block : goal.invariant-loop-block
invariant-loop-block l =
    blocks_at (length l.initial.reader.bytes - l._block) (l.said, l.entries.items) l.reader
    ≡ blocks_at (length l.initial.reader.bytes) (l.initial.said, l.initial.entries.items) l.initial.reader

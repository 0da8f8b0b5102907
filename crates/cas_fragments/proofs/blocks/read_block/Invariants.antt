use Rattle.std.proofs.Common.{◌≡◌, ◌-◌, length}
use Rattle.std.specs.Option.{option_copied}
use Rattle.cas_codec.proofs.Times.{with_front}
use Rattle.cas_fragments.specs.Blocks.{last_place, past_all}
use Rattle.cas_fragments.specs.Reading.{fragments_at}
use Rattle.cas_fragments.proofs.blocks.read_block.Given as goal

abbrev pub invariant-loop-done : goal.invariant-loop-done
invariant-loop-done l = record {
  read : with_front l.fragments.items (fragments_at l.order l.columns l.long (l.long - l._done)
      (past_all (record { last = last_place (option_copied l.fn.last); force = l.fn.force }) l.fragments.items) l.reader)
      ≡ fragments_at l.order l.columns l.long l.long (record { last = last_place (option_copied l.fn.last); force = l.fn.force }) l.fn.reader;
  now : l.now ≡ (past_all (record { last = last_place (option_copied l.fn.last); force = l.fn.force }) l.fragments.items).force;
  long : l.long ≡ length l.fn.reader.bytes;
}

use Rattle.std.proofs.Common.{◌≡◌, ◌-◌, length}
use Rattle.std.specs.Option.{option_copied}
use Rattle.cas_fragments.specs.Blocks.{last_place}
use Rattle.cas_fragments.specs.Reading.{fragments_at}
use Rattle.cas_skips.specs.Told.{told}
use Rattle.cas_skips.specs.Inner.Passing.{seen, place_at, counted}
use Rattle.cas_skips.specs.Inner.Notes.{IsSought}
use Rattle.cas_skips.proofs.blocks.skip_all.Given as goal

abbrev pub invariant-loop-done : goal.invariant-loop-done
invariant-loop-done l = record {
  counts : told (counted l.done (record { last = place_at l.end (seen l.before.items); force = l.now }))
      (fragments_at l.order l.columns l.long (l.long - l.done) (record { last = place_at l.end (seen l.before.items); force = l.now }) l.reader)
      ≡ told (counted 0 (record { last = last_place (option_copied l.fn.last); force = l.fn.force }))
      (fragments_at l.order l.columns l.long l.long (record { last = last_place (option_copied l.fn.last); force = l.fn.force }) l.fn.reader);
  long : l.long ≡ length l.fn.reader.bytes;
  sought : IsSought l.order l.columns (option_copied l.fn.low) l.fn.force l.fn.reader l.done l.now l.reader l.spot;
}

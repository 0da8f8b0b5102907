use Rattle.std.proofs.Common.{◌≡◌, ◌≤◌, length, drop}
use Rattle.cas_disk.specs.Inner.Past.{image_of, now, chosen}
use Rattle.cas_disk.proofs.image.replayed.Given as goal

abbrev pub invariant-loop-left : goal.invariant-loop-left
invariant-loop-left l = record {
  in_range : l.left ≤ length l.past.items;
  read : image_of l.read.items ≡ now (image_of l.start) (drop l.left l.past.items);
  kept : image_of l.kept.items ≡ chosen l.choice (image_of l.start) (drop l.left l.past.items);
}

abbrev pub decreases-loop-left : goal.decreases-loop-left
decreases-loop-left l = l.left

use Rattle.std.proofs.Common.{take}
use Rattle.cas_disk.specs.Disk.{IsListing}
use Rattle.cas_disk.specs.Inner.Past.{image_of}
use Rattle.cas_disk.proofs.listing.listed.Given as goal

abbrev pub invariant-loop-file : goal.invariant-loop-file
invariant-loop-file l = IsListing (image_of (take l.file-index l.files)) l.entries.items

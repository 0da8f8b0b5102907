use Rattle.std.proofs.Common.{◌≡◌, take}
use Rattle.cas_disk.specs.Inner.Past.{image_of}
use Rattle.cas_disk.proofs.image.copied.Given as goal

abbrev pub invariant-loop-file : goal.invariant-loop-file
invariant-loop-file l = image_of l.copy.items ≡ image_of (take l.file-index l.files)

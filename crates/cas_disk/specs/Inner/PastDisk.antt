-- A folder in memory as a disk. Own.
use Rattle.std.specs.Prelude.{◌≡◌, List, length}
use Rattle.std.proofs.Common.{ap, sym, ◌∙◌, subst}
use Rattle.cas_disk.specs.declared.event.Event.{Event}
use Rattle.cas_disk.specs.Disk.{Image, Disk}
use Rattle.cas_disk.specs.Inner.Past.{now, Left, LeftSince}
use Rattle.cas_disk.specs.Inner.PastLaws.{now_left, since_now, only_since}

-- what began with this image and had these events, the latest first
abbrev pub disk_of : Image → List Event → Disk
disk_of start past = record {
  reads = λ c. c ≡ now start past;
  may_leave = Left start past;
  moment = length past;
  left_since = LeftSince start past;
  one = λ c d read other n. ap (λ (f : Image). f n) (read ∙ sym other);
  is_image = λ c read. subst (Left start past) (sym read) (now_left start past);
  counts_now = since_now start past;
  only_now = only_since start past;
}

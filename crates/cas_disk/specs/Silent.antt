-- A folder that tells nothing, as one over the system's files. Own.
use Rattle.cas_disk.specs.Disk.{Disk}

-- it has no image
abbrev pub silent : Disk
silent = record {
  reads = λ _. ⊥;
  may_leave = λ _. ⊥;
  moment = 0;
  left_since = λ _ _. ⊥;
  one = λ c d read other n. absurd read;
  is_image = λ c read. absurd read;
  counts_now = λ t c le left. absurd left;
  only_now = λ c left. absurd left;
}

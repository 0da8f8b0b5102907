-- What each shard may have been for the next run, while a store is open: in whatever a crash leaves of its folder (own).
use Rattle.std.specs.Prelude.{◌≡◌, ◌≤ℤ◌, ℕ, ◌==◌, if◌then◌else◌, List, ◌++◌}
use Rattle.std.specs.Int.{int_max}
use Rattle.std.specs.List.{fold}
use Rattle.std.proofs.Common.{sym, ◌∙◌}
use Rattle.cas_disk.specs.Disk.{Disk, Image, Same}
use Rattle.cas_atoms.specs.declared.atom.Mutation.{Mutation}
use Rattle.cas_changes.specs.Saying.{Saying, said_by}
use Rattle.cas_changes.specs.declared.entry.Entry.{Entry as ManifestEntry}
use Rattle.cas_shard.specs.declared.entry.ShardOpening.{ShardOpening}
use Rattle.cas_shard.specs.Shards.{ShardHistory, drawn_of, number_of, restored}
use Rattle.cas_recovery.specs.Openings.{IsOpening, times_of}

-- a folder that has just this image, as one is found after a crash
abbrev pub only : Image → Disk
only i = record {
  reads = λ c. Same i c;
  may_leave = λ c. Same i c;
  moment = 0;
  left_since = λ t c. Same i c;
  one = λ c d is also n. is n ∙ sym (also n);
  is_image = λ c is. is;
  counts_now = λ t c now is. is;
  only_now = λ c is. is;
}

-- the shard of this number as it was, with more mutations of the log behind
abbrev pub with_more : ℕ → List Mutation → ShardOpening → ShardOpening
with_more n more o = fold (λ p m. if m.shard == n then restored m p else p) o more

-- the shard of this number, whose moment and last drawn timestamp are those that the manifest tells of it, where these are greater
abbrev pub as_told : Saying → ℕ → ShardOpening → ShardOpening
as_told s n o = record o { drawn = int_max o.drawn (times_of s n).drawn; moment = int_max o.moment (times_of s n).moment }

-- In this image, whose manifest has these entries, a shard may have been what it was before the run, with these mutations behind, by what the manifest
-- tells of its times: the log has the mutations that were found and these.
abbrev pub OpensIn : List Mutation → List Mutation → List ManifestEntry → Image → ℕ → ShardOpening → Type 0
OpensIn found more entries i n o = IsOpening (said_by entries) (found ++ more) (only i) n (as_told (said_by entries) n (with_more n more o))

-- a shard's history has gone as far as this, and its times are no less
pub record IsNotAhead (s : ShardHistory) (o : ShardOpening) : Type 0 where
  pub number : o.number ≡ number_of s
  pub drawn : o.drawn ≤ℤ drawn_of s
  pub moment : o.moment ≤ℤ s.moment

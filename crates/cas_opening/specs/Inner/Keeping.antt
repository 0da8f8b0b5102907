-- What every image has of a store that was read. Own.
use Rattle.std.specs.Prelude.{◌≡◌, ◌≢◌, ◌+◌, ◌≤◌, List, [], length}
use Rattle.std.specs.List.{AllByRecursion}
use Rattle.cas_disk.specs.Disk.{Image, Disk}
use Rattle.cas_atoms.specs.declared.atom.Mutation.{Mutation}
use Rattle.cas_mutations.specs.Allowed.{FitsRecord}
use Rattle.cas_changes.specs.declared.entry.Entry.{Entry}
use Rattle.cas_changes.specs.declared.said.TheConstants.{FILE_LIMIT}
use Rattle.cas_changes.specs.Saying.{said_by}
use Rattle.cas_manifest.specs.Manifests.{Place, Stands}
use Rattle.cas_replay.specs.Reading.{segment_in}
use Rattle.cas_replay.specs.Grammar.{AreSegments, AreInOrder}
use Rattle.cas_log.specs.Segment.{joined}

-- Whatever a crash leaves, the manifest has these entries, and the listed segments have these mutations.
pub record Keeps (place : Place) (entries : List Entry) (mutations : List Mutation) (disk : Disk) : Type 0 where
  pub manifest : Stands place disk entries
  pub within : place.end + 1 ≤ FILE_LIMIT
  pub made : entries ≢ []
  pub parts : List (List Mutation)
  pub long : length parts ≡ length (said_by entries).segments
  pub segments : (c : Image) → disk.may_leave c → AreSegments (said_by entries).tables (said_by entries).shards (segment_in c) (said_by entries).segments parts
  pub all : joined parts ≡ mutations
  pub fit : AllByRecursion (FitsRecord (said_by entries).tables (said_by entries).shards) mutations
  pub ordered : AreInOrder mutations

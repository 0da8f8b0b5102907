use Rattle.std.proofs.Common.{◌≡◌, ◌≤◌, ◌-◌, ◌++◌, List, length, drop}
use Rattle.cas_disk.specs.Disk.{Image, During, Follows, Same, bytes_of}
use Rattle.cas_files.specs.Ahead.{AreNext}
use Rattle.cas_atoms.specs.declared.atom.Mutation.{Mutation}
use Rattle.cas_replay.specs.Reading.{blocks_at}
use Rattle.cas_replay.specs.Inner.Steps.{left_of}
use Rattle.cas_replay.specs.Inner.Progress.{Stands, Went}
use Rattle.cas_replay.proofs.Steps.{Comes}
use Rattle.cas_replay.proofs.file.take_blocks.Given as goal

abbrev pub invariant-turns : goal.invariant-turns
invariant-turns g l = record {
  name : l.file.name ≡ l.fn.file.name;
  place : l.file.at ≤ l.size;
  went : (first before : List Mutation) → Stands l.of.shards l.of.frontiers.now (λ ms. g.T.TakesMutations.has_taken (first ++ ms) l.fn.taker) l.fn.lasts before
      → Went l.of.tables.now l.of.shards l.of.frontiers.now (λ ms. g.T.TakesMutations.has_taken (first ++ ms) l.taker) l.lasts before
      (λ after. (c : Image) → (g.F.Folder.disk l.fn.folder).reads c → AreNext l.fn.file.at (bytes_of (c l.fn.file.name)) l.fn.file.bytes
      → AreNext l.file.at (bytes_of (c l.fn.file.name)) l.file.bytes
      × Comes l.of.tables.now l.of.shards l.size after (left_of (bytes_of (c l.fn.file.name)) l.file.at)
      (blocks_at l.of.tables.now l.of.shards (length (drop l.fn.file.at (bytes_of (c l.fn.file.name)))) l.size before (left_of (bytes_of (c l.fn.file.name)) l.fn.file.at)));
  reads : Follows Same (g.F.Folder.disk l.fn.folder).reads (g.F.Folder.disk l.folder).reads;
  during : During Same (g.F.Folder.disk l.fn.folder) (g.F.Folder.disk l.folder);
  faults : g.F.Folder.faults_of l.fn.folder ≤ g.F.Folder.faults_of l.folder;
}

abbrev pub decreases-turns : goal.decreases-turns
decreases-turns g l = l.size - l.file.at

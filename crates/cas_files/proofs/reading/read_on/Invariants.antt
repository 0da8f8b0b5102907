use Rattle.std.proofs.Common.{◌≡◌, ◌+◌, ◌-◌, ◌≤◌, max, vec_len, length}
use Rattle.cas_disk.specs.Disk.{Image, During, Follows, Same, bytes_of}
use Rattle.cas_files.specs.Ahead.{AreNext}
use Rattle.cas_files.proofs.reading.read_on.Given as goal

abbrev pub invariant-loop-n : goal.invariant-loop-n
invariant-loop-n g l = record {
  next : (c : Image) → (g.F.Folder.disk l.fn.folder).reads c → AreNext l.at (bytes_of (c l.n)) l.fn.bytes.items → AreNext l.at (bytes_of (c l.n)) l.bytes.items;
  bounded : vec_len l.bytes ≤ max (vec_len l.fn.bytes) (l.count + 65535);
  reads : Follows Same (g.F.Folder.disk l.fn.folder).reads (g.F.Folder.disk l.folder).reads;
  during : During Same (g.F.Folder.disk l.fn.folder) (g.F.Folder.disk l.folder);
  faults : g.F.Folder.faults_of l.fn.folder ≤ g.F.Folder.faults_of l.folder;
}

abbrev pub decreases-loop-n : goal.decreases-loop-n
decreases-loop-n g l = l.count - vec_len l.bytes

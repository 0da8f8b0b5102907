use Rattle.std.proofs.Common.{◌≤◌, drop}
use Rattle.cas_disk.specs.Disk.{During}
use Rattle.cas_opening.specs.Inner.Sweeping.{stays_of, Sweeps}
use Rattle.cas_opening.proofs.Sweeps.{AreAmong}
use Rattle.cas_opening.proofs.sweeping.sweep_files.Given as goal

abbrev pub invariant-loop-file : goal.invariant-loop-file
invariant-loop-file g l = record {
  during : During (Sweeps (stays_of l.segments l.tables)) (g.F.Folder.disk l.fn.folder) (g.F.Folder.disk l.folder);
  still : AreAmong (stays_of l.segments l.tables) (drop l.file-index l.files) (g.F.Folder.disk l.folder);
  faults : g.F.Folder.faults_of l.fn.folder ≤ g.F.Folder.faults_of l.folder;
}

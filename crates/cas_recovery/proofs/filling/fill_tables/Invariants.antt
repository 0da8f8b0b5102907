use Rattle.std.proofs.Common.{◌≤◌}
use Rattle.cas_disk.specs.Disk.{During, Follows, Same}
use Rattle.cas_recovery.specs.Inner.Filling.{AreGiven}
use Rattle.cas_recovery.proofs.filling.fill_tables.Given as goal

abbrev pub invariant-loop-table : goal.invariant-loop-table
invariant-loop-table g l =
    let disk = g.F.Folder.disk in
    record {
      given : AreGiven l.said (disk l.fn.folder) l.shard l.table-index l.fn.filled l.filled;
      reads : Follows Same (disk l.fn.folder).reads (disk l.folder).reads;
      during : During Same (disk l.fn.folder) (disk l.folder);
      faults : g.F.Folder.faults_of l.fn.folder ≤ g.F.Folder.faults_of l.folder;
      tally : g.F.Tally.Count.number l.fn.tally ≤ g.F.Tally.Count.number l.tally;
    }

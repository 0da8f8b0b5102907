-- A removal, by what the folder's leaves.
use Rattle.cas_disk.specs.Disk.{MayGo}
use Rattle.cas_journal.proofs.Tables.{table_free, table_leaves}
use Rattle.cas_room.proofs.Tables.{table_keeps}
use Rattle.cas_room.proofs.room.Room.remove.Goals as goal

pub invariant_of-self-clause-free : goal.invariant_of-self-clause-free
invariant_of-self-clause-free g c =
    let disk = g.F.Folder.disk in
    table_free _ MayGo (disk c.args.self.now.folder) (disk c.remove.new.self) c.remove.ensures.during c.args.self.now.journal.last_segment c.args.self.now.free

pub returns-clause-kept : goal.returns-clause-kept
returns-clause-kept g c found t keeps =
    let disk = g.F.Folder.disk in
    table_keeps _ MayGo (disk c.args.self.now.folder) (disk c.remove.new.self) c.remove.ensures.during c.args.self.now.journal _ _ found t keeps

pub returns-clause-crash : goal.returns-clause-crash
returns-clause-crash g c t lasts =
    let disk = g.F.Folder.disk in
    table_leaves _ MayGo (disk c.args.self.now.folder) (disk c.remove.new.self) c.remove.ensures.during c.args.self.now.journal t lasts

-- A change of table files, by what the commit and the entry leave.
use Rattle.cas_history.specs.Items.{listed, log_list}
use Rattle.cas_room.specs.Rooms.{accepted_in}
use Rattle.cas_room.proofs.Standing.{settled_stands}
use Rattle.cas_disk.specs.Disk.{Image}
use Rattle.cas_room.specs.Changing.{HoldsSettled, Have, added_by}
use Rattle.cas_room.proofs.Settling.{both_leave, have_leaves, still_stand, told_change}
use Rattle.cas_room.proofs.room.Room.install.Goals as goal

pub returns-in-Err-clause-crash : goal.returns-in-Err-clause-crash
returns-in-Err-clause-crash g c found t keeps fits =
    let disk = g.F.Folder.disk in
    both_leave (λ (x : Image). HoldsSettled t c.args.entry.now x) (λ (x : Image). Have (added_by c.args.change.now) x) (disk c.args.self.now.folder) (disk c.settle.new.self.folder)
    (c.settle.ensures.crash found t keeps fits)
    (have_leaves (disk c.args.self.now.folder) (disk c.settle.new.self.folder) c.settle.ensures.tables (added_by c.args.change.now) c.requires.stand)

pub returns-in-Err-clause-stand : goal.returns-in-Err-clause-stand
returns-in-Err-clause-stand g c =
    let disk = g.F.Folder.disk in
    still_stand (disk c.args.self.now.folder) (disk c.settle.new.self.folder) c.settle.ensures.tables (added_by c.args.change.now) c.requires.stand

pub returns-clause-crash : goal.returns-clause-crash
returns-clause-crash g c found t keeps fits =
    let disk = g.F.Folder.disk in
    both_leave (λ (x : Image). HoldsSettled t c.args.entry.now x) (λ (x : Image). Have (added_by c.args.change.now) x) (disk c.args.self.now.folder) (disk c.settle.new.self.folder)
    (c.settle.ensures.crash found t keeps fits)
    (have_leaves (disk c.args.self.now.folder) (disk c.settle.new.self.folder) c.settle.ensures.tables (added_by c.args.change.now) c.requires.stand)

pub returns-clause-stand : goal.returns-clause-stand
returns-clause-stand g c =
    let disk = g.F.Folder.disk in
    still_stand (disk c.args.self.now.folder) (disk c.settle.new.self.folder) c.settle.ensures.tables (added_by c.args.change.now) c.requires.stand

pub returns-in-Err-clause-front : goal.returns-in-Err-clause-front
returns-in-Err-clause-front g c found t keeps fits =
    let disk = g.F.Folder.disk in
    settled_stands t c.args.entry.now found (accepted_in (listed log_list c.args.self.now.log.pass.saw)) c.args.self.now.faults.committed
    (disk c.args.self.now.folder) (disk c.settle.new.self.folder) keeps.has fits (told_change c.args.entry.now c.args.change.now c.requires.entry) (c.settle.ensures.crash found t keeps fits)

pub returns-clause-front : goal.returns-clause-front
returns-clause-front g c found t keeps fits =
    let disk = g.F.Folder.disk in
    settled_stands t c.args.entry.now found (accepted_in (listed log_list c.args.self.now.log.pass.saw)) c.args.self.now.faults.committed
    (disk c.args.self.now.folder) (disk c.settle.new.self.folder) keeps.has fits (told_change c.args.entry.now c.args.change.now c.requires.entry) (c.settle.ensures.crash found t keeps fits)

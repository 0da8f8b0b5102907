-- Whatever a crash leaves stands for a front of the history, as it is stated once.
use Rattle.cas_history.specs.Items.{listed, log_list}
use Rattle.cas_room.proofs.Standing.{images_stand}
use Rattle.cas_room.proofs.room.Room.images_stand.Goals as goal

pub returns : goal.returns
returns g c = record {
  law = λ found t keeps image left. images_stand c.args.self.now.journal (g.F.Folder.disk c.args.self.now.folder) (listed log_list c.args.self.now.log.pass.saw)
      c.args.self.now.faults.committed found t keeps image left;
}

use Rattle.std.proofs.Common.{List, ℕ, subst}
use Rattle.std.specs.Prelude.{OnOk}
use Rattle.cas_disk.specs.Disk.{Image, bytes_of}
use Rattle.cas_files.specs.Ahead.{Ahead, AreNext, AreEnough}
use Rattle.cas_files.proofs.reader.FileReader.reach.Goals as goal

pub returns-clause-next : goal.returns-clause-next
returns-clause-next g c =
    let reads = (g.F.Folder.disk c.args.folder.now).reads in
    subst (λ (a : Ahead). OnOk c.read_on.result ((image : Image) → reads image → AreNext a.at (bytes_of (image a.name)) a.bytes
    → AreNext a.at (bytes_of (image a.name)) c.read_on.new.bytes.items × AreEnough c.args.count a.at (bytes_of (image a.name)) c.read_on.new.bytes.items))
    c.self.view_is
    (subst (λ (l : List ℕ). OnOk c.read_on.result ((image : Image) → reads image → AreNext c.self.inside.at (bytes_of (image c.self.inside.name)) l
    → AreNext c.self.inside.at (bytes_of (image c.self.inside.name)) c.read_on.new.bytes.items × AreEnough c.args.count c.self.inside.at (bytes_of (image c.self.inside.name)) c.read_on.new.bytes.items))
    c.in-Ok.ensures.items c.read_on.ensures.next)

-- A commit, and an entry that is told behind it.
use Rattle.std.proofs.Common.{◌≤◌, inl, refl, length}
use Rattle.cas_journal.specs.Stores.{committed_all}
use Rattle.cas_journal.proofs.Holding.{committed_few}
use Rattle.cas_journal.proofs.Telling.{none_where_ok}
use Rattle.cas_room.proofs.Settling.{then_told, told_keeps, tables_twice}
use Rattle.cas_room.proofs.room.Room.settle.Goals as goal

pub returns-in-Ok-clause-kept : goal.returns-in-Ok-clause-kept
returns-in-Ok-clause-kept g c found t keeps fits =
    let disk = g.F.Folder.disk in
    told_keeps _ _ _ _ found t c.args.entry.now c.tell.result (c.tell.ensures.kept found (committed_all t) (c.in-Ok.ensures.kept found t keeps) fits)

pub returns-in-Ok-clause-crash : goal.returns-in-Ok-clause-crash
returns-in-Ok-clause-crash g c found t keeps fits =
    let disk = g.F.Folder.disk in
    let j = c.args.self.now.journal in
    let few : t.committed ≤ length t.taken =
    committed_few j (disk c.args.self.now.folder) t (keeps.lasts.goes (none_where_ok j.first c.commit.new.self.journal.first _ _ _ c.in-Ok.ensures.outcome)) in
    then_told t c.args.entry.now (disk c.args.self.now.folder) (disk c.commit.new.self.folder) (disk c.tell.new.self.folder)
    (c.commit.ensures.crash t keeps.lasts) few (c.tell.ensures.crash (committed_all t) (c.in-Ok.ensures.kept found t keeps).lasts fits)

pub returns-in-Ok-clause-tables : goal.returns-in-Ok-clause-tables
returns-in-Ok-clause-tables g c =
    let disk = g.F.Folder.disk in
    tables_twice (disk c.args.self.now.folder) (disk c.commit.new.self.folder) (disk c.tell.new.self.folder) c.commit.ensures.tables c.tell.ensures.tables

pub returns-in-Err-clause-kept : goal.returns-in-Err-clause-kept
returns-in-Err-clause-kept g c found t keeps fits = (t, inl refl, c.in-Err.ensures.kept found t keeps)

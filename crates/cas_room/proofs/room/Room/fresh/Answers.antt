-- A draft, by what the folder's leaves.
use Rattle.std.proofs.Common.{◌+◌, ◌∙◌, ℕ, subst, sym, arith}
use Rattle.cas_disk.specs.Disk.{MayBeAnything}
use Rattle.cas_history.specs.Items.{listed, log_list, numbers_list}
use Rattle.cas_journal.proofs.Tables.{table_free, table_leaves}
use Rattle.cas_room.specs.Keeping.{Keeps}
use Rattle.cas_room.proofs.Tables.{table_keeps, drawn_and_told}
use Rattle.cas_room.proofs.room.Room.fresh.Goals as goal

pub invariant_of-self : goal.invariant_of-self
invariant_of-self g c =
    let disk = g.F.Folder.disk in
    record {
      free = table_free _ MayBeAnything (disk c.args.self.now.folder) (disk c.draft.new.self) c.draft.ensures.during c.args.self.now.journal.last_segment c.args.self.now.free;
      counted = c.args.self.now.counted;
      told = c.args.self.now.told;
      faulted = omega (arith, c.args.self.now.faulted, c.draft.ensures.count.kept);
      first = c.args.self.now.first;
    }

pub invariant_of-self-2-clause-free : goal.invariant_of-self-2-clause-free
invariant_of-self-2-clause-free g c =
    let disk = g.F.Folder.disk in
    table_free _ MayBeAnything (disk c.args.self.now.folder) (disk c.draft.new.self) c.draft.ensures.during c.args.self.now.journal.last_segment c.args.self.now.free

pub returns-in-Ok-clause-kept : goal.returns-in-Ok-clause-kept
returns-in-Ok-clause-kept g c found t keeps =
    let disk = g.F.Folder.disk in
    table_keeps _ MayBeAnything (disk c.args.self.now.folder) (disk c.draft.new.self) c.draft.ensures.during c.args.self.now.journal _ _ found t keeps

pub returns-in-Ok-clause-crash : goal.returns-in-Ok-clause-crash
returns-in-Ok-clause-crash g c t lasts =
    let disk = g.F.Folder.disk in
    table_leaves _ MayBeAnything (disk c.args.self.now.folder) (disk c.draft.new.self) c.draft.ensures.during c.args.self.now.journal t lasts

pub returns-clause-drawn : goal.returns-clause-drawn
returns-clause-drawn g c room =
    let drew = c.draw-number in
    drawn_and_told drew.result (c.args.self.now.numbers.last + 1) drew.new.self.last c.args.files.now.list drew.new.files.list
    (listed numbers_list c.args.self.now.numbers.pass.saw) (listed numbers_list drew.new.self.pass.saw) (listed c.args.files.now.list c.args.files.now.pass.saw)
    (λ (l : ℕ). listed l drew.new.files.pass.saw) (λ (l : ℕ). listed l c.note_files.new.files.pass.saw)
    drew.ensures.next.0 drew.ensures.next.1 drew.ensures.list drew.ensures.files.0 drew.ensures.files.1 c.note_files.ensures.files.1 drew.ensures.held

pub returns-clause-kept : goal.returns-clause-kept
returns-clause-kept g c found t keeps =
    let disk = g.F.Folder.disk in
    subst (λ (n : ℕ). Keeps c.args.self.now.journal (disk c.draft.new.self) (listed log_list c.args.self.now.log.pass.saw) n found t)
    (sym (c.note_files.ensures.said.1 ∙ sym c.args.self.now.told.0))
    (table_keeps _ MayBeAnything (disk c.args.self.now.folder) (disk c.draft.new.self) c.draft.ensures.during c.args.self.now.journal _ _ found t keeps)

pub returns-clause-crash : goal.returns-clause-crash
returns-clause-crash g c t lasts =
    let disk = g.F.Folder.disk in
    table_leaves _ MayBeAnything (disk c.args.self.now.folder) (disk c.draft.new.self) c.draft.ensures.during c.args.self.now.journal t lasts

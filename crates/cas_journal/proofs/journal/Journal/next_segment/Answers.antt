-- The next segment, step by step.
use Rattle.std.proofs.Common.{◌<◌, ℕ, subst}
use Rattle.cas_journal.proofs.Rooms.{plain_leaves, named_leaves, named_lasts}
use Rattle.cas_journal.proofs.journal.Journal.next_segment.Goals as goal

pub returns-in_err-begin_next-clause-during : goal.returns-in_err-begin_next-clause-during
returns-in_err-begin_next-clause-during g c t lasts all =
    let disk = g.F.Folder.disk in
    plain_leaves t (disk c.args.folder.now) (disk c.begin_next.new.folder) (c.begin_next.ensures.during t lasts)

pub returns-in_err-reserve_spare-clause-free : goal.returns-in_err-reserve_spare-clause-free
returns-in_err-reserve_spare-clause-free g c x left n above = c.begin_next.ensures.free x left n (subst (λ (l : ℕ). l < n) c.reserve_spare.ensures.last above)

pub returns-in_err-reserve_spare-clause-during : goal.returns-in_err-reserve_spare-clause-during
returns-in_err-reserve_spare-clause-during g c t lasts all =
    let disk = g.F.Folder.disk in
    plain_leaves t (disk c.args.folder.now) (disk c.begin_next.new.folder) (c.begin_next.ensures.during t lasts)

pub name_next-requires-clause-free : goal.name_next-requires-clause-free
name_next-requires-clause-free g c x left n above = c.begin_next.ensures.free x left n (subst (λ (l : ℕ). l < n) c.reserve_spare.ensures.last above)

pub returns-clause-lasts : goal.returns-clause-lasts
returns-clause-lasts g c t lasts all =
    let disk = g.F.Folder.disk in
    let begun = c.begin_next.ensures.lasts t lasts in
    named_lasts c.name_next.new.self (disk c.name_next.new.folder) t c.reserve_spare.new.self.last_segment c.name_next.result
    (c.name_next.ensures.lasts t (c.reserve_spare.ensures.lasts t begun) all)

pub returns-clause-during : goal.returns-clause-during
returns-clause-during g c t lasts all =
    let disk = g.F.Folder.disk in
    let begun = c.begin_next.ensures.lasts t lasts in
    named_leaves t c.reserve_spare.new.self.last_segment (disk c.args.folder.now) (disk c.begin_next.new.folder) (disk c.name_next.new.folder)
    (c.begin_next.ensures.during t lasts) (c.name_next.ensures.during t (c.reserve_spare.ensures.lasts t begun))

-- A commit, by the clauses of the log's.
use Rattle.std.proofs.Common.{◌≤◌, Err, ap, arith, refl}
use Rattle.cas_disk.specs.Disk.{MayBeAnything, Changed}
use Rattle.cas_disk.specs.declared.name.Name.TheVariants.{Log as log_name}
use Rattle.cas_journal.specs.Stores.{Holds, committed_all}
use Rattle.cas_journal.proofs.Moving.{still_free, still_so, log_changed, number_begun, no_first, lasting, lasting_stopped, writes_it, commit_leaves, commit_goes, commit_kept}
use Rattle.cas_journal.proofs.journal.Journal.commit.Goals as goal

pub returns-in-Ok-clause-free : goal.returns-in-Ok-clause-free
returns-in-Ok-clause-free g c =
    let disk = g.F.Folder.disk in
    let log = c.in-Some-log.log in
    let known : log.number ≤ c.args.self.now.last_segment = number_begun c.args.self.now log c.in-Some-log.is in
    still_free (Changed (log_name log.number) MayBeAnything) (disk c.args.folder.now) (disk c.commit.new.folder) c.commit.ensures.others c.args.self.now.last_segment
    (λ d x made n above. log_changed log.number MayBeAnything d x made n (omega (arith, known, above))) c.requires.free

pub returns-in-Ok-clause-lasts : goal.returns-in-Ok-clause-lasts
returns-in-Ok-clause-lasts g c t lasts =
    let disk = g.F.Folder.disk in
    let j = c.args.self.now in
    let log = c.in-Some-log.log in
    let goes = lasts.goes (no_first j.first c.in_default.not-Some) in
    let writes = writes_it j log (disk c.args.folder.now) t goes c.in-Some-log.is in
    lasting _ (disk c.commit.new.folder) (committed_all t)
    (commit_goes j log (disk c.args.folder.now) t goes c.in-Some-log.is _ c.commit.new.self (disk c.commit.new.folder) refl c.commit.ensures.number
    (c.in-Ok.ensures.committed goes.written goes.pushed writes.1 writes.2) (c.in-Ok.ensures.pushed goes.pushed writes.2) c.commit.ensures.others refl refl refl (λ found s parts noted. noted))

pub returns-in-Ok-clause-during : goal.returns-in-Ok-clause-during
returns-in-Ok-clause-during g c t lasts =
    let disk = g.F.Folder.disk in
    let j = c.args.self.now in
    let log = c.in-Some-log.log in
    let goes = lasts.goes (no_first j.first c.in_default.not-Some) in
    let writes = writes_it j log (disk c.args.folder.now) t goes c.in-Some-log.is in
    commit_leaves j log (disk c.args.folder.now) t goes c.in-Some-log.is (disk c.commit.new.folder) (c.commit.ensures.during goes.written goes.pushed writes.1 writes.2)

pub returns-in-Err-clause-free : goal.returns-in-Err-clause-free
returns-in-Err-clause-free g c =
    let disk = g.F.Folder.disk in
    let log = c.in-Some-log.log in
    let known : log.number ≤ c.args.self.now.last_segment = number_begun c.args.self.now log c.in-Some-log.is in
    still_free (Changed (log_name log.number) MayBeAnything) (disk c.args.folder.now) (disk c.commit.new.folder) c.commit.ensures.others c.args.self.now.last_segment
    (λ d x made n above. log_changed log.number MayBeAnything d x made n (omega (arith, known, above))) c.requires.free

pub returns-in-Err-clause-lasts : goal.returns-in-Err-clause-lasts
returns-in-Err-clause-lasts g c t lasts =
    let disk = g.F.Folder.disk in
    let j = c.args.self.now in
    let log = c.in-Some-log.log in
    let none = no_first j.first c.in_default.not-Some in
    let goes = lasts.goes none in
    let writes = writes_it j log (disk c.args.folder.now) t goes c.in-Some-log.is in
    let leaves = commit_leaves j log (disk c.args.folder.now) t goes c.in-Some-log.is (disk c.commit.new.folder) (c.commit.ensures.during goes.written goes.pushed writes.1 writes.2) in
    lasting_stopped _ (disk c.commit.new.folder) t
    (still_so (λ _ x. Holds t x) (disk c.args.folder.now) (disk c.commit.new.folder) leaves (λ x. Holds t x) (λ d x was made. made) lasts.holds)
    (commit_kept j.first c.commit.new.first _ _ _ none c.in-Err.ensures.outcome (λ e. c.in-Err.ensures.no_memory (ap Err e)))

pub returns-in-Err-clause-during : goal.returns-in-Err-clause-during
returns-in-Err-clause-during g c t lasts =
    let disk = g.F.Folder.disk in
    let j = c.args.self.now in
    let log = c.in-Some-log.log in
    let goes = lasts.goes (no_first j.first c.in_default.not-Some) in
    let writes = writes_it j log (disk c.args.folder.now) t goes c.in-Some-log.is in
    commit_leaves j log (disk c.args.folder.now) t goes c.in-Some-log.is (disk c.commit.new.folder) (c.commit.ensures.during goes.written goes.pushed writes.1 writes.2)

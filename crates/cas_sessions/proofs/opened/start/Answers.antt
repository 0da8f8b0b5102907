use Rattle.std.proofs.Common.{◌∙◌, sym, subst}
use Rattle.cas_disk.specs.Disk.{During, Same}
use Rattle.cas_opening.specs.Opening.{MayBeMadeNew, MayBeOpened}
use Rattle.cas_changes.specs.Saying.{said_by}
use Rattle.cas_recovery.specs.Openings.{unflushed_of}
use Rattle.cas_lasting.proofs.Remembering.{have_memory, some_of_all}
use Rattle.cas_lasting.proofs.Serving.{started}
use Rattle.cas_sessions.proofs.opened.start.Goals as goal

pub returns-in-Ok-new-clause-started : goal.returns-in-Ok-new-clause-started
returns-in-Ok-new-clause-started g c = started _ _ _ _ _ _ _ _ _ _ c.in-Ok.ensures.recovered

pub returns-in-Err-clause-stays : goal.returns-in-Err-clause-stays
returns-in-Err-clause-stays g c = λ after ok err d reads bytes entries mutations store.
    subst (λ x. During (MayBeOpened entries mutations) (g.F.Folder.disk c.args.folder) (g.F.Folder.disk x)) (sym (err ∙ c.not_opened.ensures.folder)) (c.recover.ensures.stays d reads bytes entries mutations store)

pub returns-in-Err-clause-made : goal.returns-in-Err-clause-made
returns-in-Err-clause-made g c = λ after ok err d reads bytes new.
    subst (λ x. During (MayBeMadeNew c.args.limits.now.shards) (g.F.Folder.disk c.args.folder) (g.F.Folder.disk x)) (sym (err ∙ c.not_opened.ensures.folder)) (c.recover.ensures.made d reads bytes new)

pub returns-in-Err-clause-untouched : goal.returns-in-Err-clause-untouched
returns-in-Err-clause-untouched g c = λ after ok err d reads bytes fresh store.
    subst (λ x. During Same (g.F.Folder.disk c.args.folder) (g.F.Folder.disk x)) (sym (err ∙ c.not_opened.ensures.folder)) (c.recover.ensures.untouched d reads bytes fresh store)

pub returns-in-Ok-new-clause-stays : goal.returns-in-Ok-new-clause-stays
returns-in-Ok-new-clause-stays g c = λ after ok err d reads bytes entries mutations store.
    subst (λ x. During (MayBeOpened entries mutations) (g.F.Folder.disk c.args.folder) (g.F.Folder.disk x)) (sym ok) (c.recover.ensures.stays d reads bytes entries mutations store)

pub returns-in-Ok-new-clause-made : goal.returns-in-Ok-new-clause-made
returns-in-Ok-new-clause-made g c = λ after ok err d reads bytes new.
    subst (λ x. During (MayBeMadeNew c.args.limits.now.shards) (g.F.Folder.disk c.args.folder) (g.F.Folder.disk x)) (sym ok) (c.recover.ensures.made d reads bytes new)

pub returns-in-Ok-new-clause-untouched : goal.returns-in-Ok-new-clause-untouched
returns-in-Ok-new-clause-untouched g c = λ after ok err d reads bytes fresh store.
    subst (λ x. During Same (g.F.Folder.disk c.args.folder) (g.F.Folder.disk x)) (sym ok) (c.recover.ensures.untouched d reads bytes fresh store)

pub returns-in-Err-new-clause-stays : goal.returns-in-Err-new-clause-stays
returns-in-Err-new-clause-stays g c = λ after ok err d reads bytes entries mutations store.
    subst (λ x. During (MayBeOpened entries mutations) (g.F.Folder.disk c.args.folder) (g.F.Folder.disk x)) (sym (err ∙ c.not_opened-in-Err-new.ensures.folder)) (c.recover.ensures.stays d reads bytes entries mutations store)

pub returns-in-Err-new-clause-made : goal.returns-in-Err-new-clause-made
returns-in-Err-new-clause-made g c = λ after ok err d reads bytes new.
    subst (λ x. During (MayBeMadeNew c.args.limits.now.shards) (g.F.Folder.disk c.args.folder) (g.F.Folder.disk x)) (sym (err ∙ c.not_opened-in-Err-new.ensures.folder)) (c.recover.ensures.made d reads bytes new)

pub returns-in-Err-new-clause-untouched : goal.returns-in-Err-new-clause-untouched
returns-in-Err-new-clause-untouched g c = λ after ok err d reads bytes fresh store.
    subst (λ x. During Same (g.F.Folder.disk c.args.folder) (g.F.Folder.disk x)) (sym (err ∙ c.not_opened-in-Err-new.ensures.folder)) (c.recover.ensures.untouched d reads bytes fresh store)

pub invariant_of-result-clause-kept : goal.invariant_of-result-clause-kept
invariant_of-result-clause-kept g c =
    let back = c.in-Ok.ensures.recovered in
    have_memory c.in-Ok.started.tables.items c.in-Ok.started.shards.items
    (some_of_all c.in-Ok.started.tables.items c.in-Ok.started.shards.items (unflushed_of (said_by back.entries) back.mutations) back.memory)

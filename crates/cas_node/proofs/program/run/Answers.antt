use Rattle.std.proofs.Common.{◌≡◌, ◌∙◌, ◌≤◌, refl, sym, ap, subst, length}
use Rattle.std.specs.Prelude.{◌⊎◌, nat_le, IsTrue}
use Rattle.cas_io.specs.Causes.{Rose}
use Rattle.cas_io.specs.Streams.{ReadToEnd}
use Rattle.cas_disk.specs.Disk.{During}
use Rattle.cas_opening.specs.Opening.{MayBeOpened}
use Rattle.cas_node.specs.Ran.{GoodOrMem, IfUnread, weight}
use Rattle.cas_node.specs.declared.cause.Cause.TheVariants as cause
use Rattle.cas_node.specs.declared.program.TheConstants.{SCRIPT_LIMIT}
use Rattle.cas_node.proofs.RunLemmas.{bad_opening, disk_opening, disk_told, ends_well, grave_opening, none_bad, not_disk_told, opening_read, opens_well, ran_all, served_read}
use Rattle.cas_node.proofs.Staying.{listed_opening, listed_through, tells_through}
use Rattle.cas_node.proofs.program.run.Goals as goal

pub returns-in-Err-start-clause-bad : goal.returns-in-Err-start-clause-bad
returns-in-Err-start-clause-bad g c = λ none.
    bad_opening _ (g.F.Folder.disk c.args.folder) c.in-Ok-Some.command c.in-Err-start.fault _ (sym c.in-Ok-Some.ensures.exact ∙ c.in-Ok-Some.field-0-is)
    (c.closed_unrun.ensures.cause ∙ c.cause_of_opening.ensures) (λ name at e. c.in-Err-start.ensures.refused name at e)

pub returns-in-Err-start-clause-disk : goal.returns-in-Err-start-clause-disk
returns-in-Err-start-clause-disk g c = λ is.
    disk_opening _ _ _ c.in-Err-start.fault
    (λ e. subst (λ x. Rose (g.F.Folder.faults_of c.args.folder) (g.F.Folder.faults_of x)) (sym c.closed_unrun.ensures.folder) (c.in-Err-start.ensures.failed.rose e))
    (λ e. subst (λ x. Rose 0 (g.F.Tally.Count.number x)) (sym c.closed_unrun.ensures.tally) (c.in-Err-start.ensures.read e))
    (sym (c.closed_unrun.ensures.cause ∙ c.cause_of_opening.ensures) ∙ is)

pub returns-in-Err-start-clause-not_disk : goal.returns-in-Err-start-clause-not_disk
returns-in-Err-start-clause-not_disk g c = λ rose.
    subst (λ w. IsTrue (nat_le (weight cause.Disk) (weight w))) (sym (c.closed_unrun.ensures.cause ∙ c.cause_of_opening.ensures)) (grave_opening c.in-Err-start.fault)

pub returns-in-Err-start-clause-unread : goal.returns-in-Err-start-clause-unread
returns-in-Err-start-clause-unread g c =
    subst (λ w. IfUnread w (g.F.Tally.Count.number c.closed_unrun.result.tally ≡ 0)) (sym (c.closed_unrun.ensures.cause ∙ c.cause_of_opening.ensures))
    (opening_read c.in-Err-start.fault _)

pub returns-in-Err-start-clause-stays : goal.returns-in-Err-start-clause-stays
returns-in-Err-start-clause-stays g c = λ none d reads bytes entries mutations store.
    subst (λ x. During (MayBeOpened entries mutations) (g.F.Folder.disk c.args.folder) (g.F.Folder.disk x)) (sym c.closed_unrun.ensures.folder)
    (c.in-Err-start.ensures.stays _ tt refl d reads bytes entries mutations store)

pub returns-in-Err-start-clause-complete : goal.returns-in-Err-start-clause-complete
returns-in-Err-start-clause-complete g c = λ well.
    subst GoodOrMem (sym (c.closed_unrun.ensures.cause ∙ c.cause_of_opening.ensures))
    (opens_well _ _ _ _ _ c.in-Ok-Some.command (sym c.in-Ok-Some.ensures.exact ∙ c.in-Ok-Some.field-0-is) well c.in-Err-start.fault
    (λ name at e. c.in-Err-start.ensures.refused name at e)
    (λ e. subst (λ x. Rose (g.F.Folder.faults_of c.args.folder) (g.F.Folder.faults_of x)) (sym c.closed_unrun.ensures.folder) (c.in-Err-start.ensures.failed.rose e))
    (λ e. subst (λ x. Rose 0 (g.F.Tally.Count.number x)) (sym c.closed_unrun.ensures.tally) (c.in-Err-start.ensures.read e)))

pub returns-clause-headline : goal.returns-clause-headline
returns-clause-headline g c =
    ran_all _ _ _ _ c.in-Ok-Some.command c.deref.result.now _ _ _ _ _ _ _ _ _ _ _ (sym c.in-Ok-Some.ensures.exact ∙ c.in-Ok-Some.field-0-is)
    (subst (λ l. ReadToEnd (g.S.Source.left c.args.source.now) (g.S.Source.left c.read_script.new.source) l) (sym c.deref.ensures.value) c.in-Ok.ensures.script)
    c.in-Ok-start.ensures.started c.in-Ok-start.ensures.count _ c.faults-faults.ensures.number
    (λ d reads bytes entries mutations opens low.
    listed_through c.in-Ok-Some.command.limits.shards entries mutations d _ _ _ _ opens low (λ store. c.in-Ok-start.ensures.stays _ refl tt d reads bytes entries mutations store)
    (λ new. c.in-Ok-start.ensures.made _ refl tt d reads bytes new) c.serve.ensures.tables)
    (λ d reads bytes entries mutations opens.
    tells_through c.in-Ok-Some.command.limits.shards entries mutations d _ _ opens reads (λ store. c.in-Ok-start.ensures.stays _ refl tt d reads bytes entries mutations store)
    (λ new. c.in-Ok-start.ensures.made _ refl tt d reads bytes new))
    (λ d reads bytes entries mutations opens.
    listed_opening c.in-Ok-Some.command.limits.shards entries mutations d _ _ opens (λ store. c.in-Ok-start.ensures.stays _ refl tt d reads bytes entries mutations store)
    (λ new. c.in-Ok-start.ensures.made _ refl tt d reads bytes new))
    _
    (subst (λ l. length l ≤ SCRIPT_LIMIT) (sym c.deref.ensures.value) c.in-Ok.ensures.short) c.serve.ensures.served
    (λ none. ap (λ k. g.K.Sink.took k) (c.serve.ensures.unwritten none))

pub returns-clause-disk : goal.returns-clause-disk
returns-clause-disk g c = λ is.
    subst (λ n. Rose n (g.F.Folder.faults_of c.serve.result.folder) ⊎ Rose 0 (g.F.Tally.Count.number c.serve.result.tally)) c.faults-faults.ensures.number
    (disk_told _ _ _ _ c.serve.ensures.ends is)

pub returns-clause-not_disk : goal.returns-clause-not_disk
returns-clause-not_disk g c = λ rose.
    not_disk_told _ _ _ _ c.serve.ensures.ends
    (subst (λ n. Rose n (g.F.Folder.faults_of c.serve.result.folder) ⊎ Rose 0 (g.F.Tally.Count.number c.serve.result.tally)) (sym c.faults-faults.ensures.number) rose)

pub returns-clause-bad : goal.returns-clause-bad
returns-clause-bad g c = λ none. none_bad _ _ (c.serve.ensures.unrun none)

pub returns-clause-unread : goal.returns-clause-unread
returns-clause-unread g c =
    served_read c.faults-faults.result (g.F.Folder.faults_of c.serve.result.folder) (g.F.Tally.Count.number c.serve.result.tally) _ _ c.serve.ensures.ends

pub returns-clause-stays : goal.returns-clause-stays
returns-clause-stays g c = λ none d reads bytes entries mutations store.
    subst (λ x. During (MayBeOpened entries mutations) (g.F.Folder.disk c.args.folder) (g.F.Folder.disk x)) (sym (c.serve.ensures.kept none))
    (c.in-Ok-start.ensures.stays _ refl tt d reads bytes entries mutations store)

pub returns-clause-complete : goal.returns-clause-complete
returns-clause-complete g c = λ well.
    ends_well _ _ _ _ _ c.in-Ok-Some.command (sym c.in-Ok-Some.ensures.exact ∙ c.in-Ok-Some.field-0-is) well c.deref.result.now _ _ _ _ _ _ _ _ _ _ _
    (subst (λ l. ReadToEnd (g.S.Source.left c.args.source.now) (g.S.Source.left c.read_script.new.source) l) (sym c.deref.ensures.value) c.in-Ok.ensures.script)
    c.in-Ok-start.ensures.started c.in-Ok-start.ensures.count _ c.faults-faults.ensures.number
    (λ d reads bytes entries mutations opens low.
    listed_through c.in-Ok-Some.command.limits.shards entries mutations d _ _ _ _ opens low (λ store. c.in-Ok-start.ensures.stays _ refl tt d reads bytes entries mutations store)
    (λ new. c.in-Ok-start.ensures.made _ refl tt d reads bytes new) c.serve.ensures.tables)
    (λ d reads bytes entries mutations opens.
    tells_through c.in-Ok-Some.command.limits.shards entries mutations d _ _ opens reads (λ store. c.in-Ok-start.ensures.stays _ refl tt d reads bytes entries mutations store)
    (λ new. c.in-Ok-start.ensures.made _ refl tt d reads bytes new))
    (λ d reads bytes entries mutations opens.
    listed_opening c.in-Ok-Some.command.limits.shards entries mutations d _ _ opens (λ store. c.in-Ok-start.ensures.stays _ refl tt d reads bytes entries mutations store)
    (λ new. c.in-Ok-start.ensures.made _ refl tt d reads bytes new))
    c.serve.ensures.served c.serve.ensures.write

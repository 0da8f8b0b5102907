use Rattle.std.proofs.Common.{◌∙◌, pos, sym, ap, subst}
use Rattle.std.specs.Prelude.{IsSome}
use Rattle.cas_lasting.specs.Listing.{SameUpTo}
use Rattle.cas_node.specs.Ran.{with_faults}
use Rattle.cas_node.proofs.RunLemmas.{begins_as, left_by, opened_as, pass_by, serves_as, write_told}
use Rattle.cas_node.proofs.Staying.{same_folder, tables_as, up_to_as}
use Rattle.cas_node.proofs.program.serve.Goals as goal

pub returns-clause-served : goal.returns-clause-served
returns-clause-served g c =
    let o = c.args.opened in
    let seat = c.in-Ok-session.session.seat in
    let last = c.run_lines-told.new.runner in
    let ended = ap (λ r. r.folder) c.end.ensures.room in
    let closed = c.finished.ensures.folder ∙ c.close-2.ensures.folder ∙ ended in
    let counted = ap (λ t. g.F.Tally.Count.number t) (c.finished.ensures.tally ∙ c.close-2.ensures.tally) ∙ ap (λ f. (f 0 0 (pos 0)).reads) c.end.ensures.same in
    serves_as c.args.ask.now.kind (g.C.Clock.may_give c.args.ask.now.clock.now) c.args.script.now _ _ _ _ _ _ c.args.faults c.run_lines-told.result c.finished.result.cause
    c.run_lines-told.ensures.ran o.started.limits o.started.tables.items o.started.shards.items o.started.frontiers.items o.started.last_file o.started.live o.started.journal (g.F.Folder.faults_of o.folder) (g.F.Tally.Count.number o.tally)
    (opened_as _ _ _ _ _ _ _ _ seat.list seat.calls (pos 0) c.session.ensures.same c.in-Ok-session.ensures.begun.0 c.in-Ok.ensures.made)
    (λ given entries mutations openings memory.
    begins_as given entries mutations openings _ _ seat.list seat.calls _ _ c.session.ensures.same c.in-Ok-session.ensures.begun.0
    (ap (λ r. g.F.Folder.disk r.folder) c.session.ensures.room ∙ ap (λ x. g.F.Folder.disk x) c.in-Ok.ensures.folder)
    (c.in-Ok.ensures.begins given entries mutations openings memory seat.list))
    o.runs.0
    (c.finished.ensures.cause
    ∙ ap (λ x. with_faults c.args.faults (g.F.Folder.faults_of x) (g.F.Tally.Count.number c.finished.result.tally) c.run_lines-told.result) closed
    ∙ ap (λ n. with_faults c.args.faults (g.F.Folder.faults_of last.node.room.folder) n c.run_lines-told.result) counted)
    (left_by _ _ last.session.seat.list last.session.seat.calls last.seconds _ _ _ c.end.ensures.same (ap (λ x. g.F.Folder.disk x) ended)
    (ap (λ x. g.F.Folder.disk x) (c.close-2.ensures.folder ∙ ended)) c.close-2.ensures.left)
    c.run_lines-told.ensures.lists
    _ _ _ _ c.finished.result.pass
    (ap (λ r. g.F.Folder.disk r.folder) c.session.ensures.room ∙ ap (λ x. g.F.Folder.disk x) c.in-Ok.ensures.folder)
    (sym (ap (λ x. g.F.Folder.disk x) closed))
    (sym (ap (λ x. g.F.Folder.faults_of x) closed))
    (sym counted)
    (subst (λ p. IsSome p) (sym c.finished.ensures.pass) c.close-2.ensures.some)
    (pass_by _ _ last.session.seat.list last.session.seat.calls last.seconds _ _ c.end.ensures.same c.finished.ensures.pass
    (c.close-2.ensures.pass last.session.seat.list last.session.seat.calls last.seconds))

pub run_lines-told-requires : goal.run_lines-told-requires
run_lines-told-requires g c =
    let o = c.args.opened in
    let seat = c.in-Ok-session.session.seat in
    let opened = opened_as o.started.limits o.started.tables.items o.started.shards.items o.started.journal (g.F.Folder.faults_of o.folder) (g.F.Tally.Count.number o.tally) _ _ seat.list
    seat.calls (pos 0) c.session.ensures.same c.in-Ok-session.ensures.begun.0 c.in-Ok.ensures.made in
    record { begun = (c.in-Ok-session.ensures.begun.0, opened.accepted) }

pub returns-in-Err-clause-tables : goal.returns-in-Err-clause-tables
returns-in-Err-clause-tables g c = same_folder (SameUpTo _) (λ x. g.F.Folder.disk x) _ _ (c.closed_unrun.ensures.folder ∙ c.in-Err.ensures.kept.0)

pub returns-in-Err-session-clause-tables : goal.returns-in-Err-session-clause-tables
returns-in-Err-session-clause-tables g c =
    same_folder (SameUpTo _) (λ x. g.F.Folder.disk x) _ _
    (c.closed_unrun-in-Err-session.ensures.folder ∙ c.close.ensures.folder ∙ ap (λ r. r.folder) c.session.ensures.room ∙ c.in-Ok.ensures.folder)

pub returns-clause-tables : goal.returns-clause-tables
returns-clause-tables g c =
    tables_as (SameUpTo c.args.opened.started.last_file) (λ x. g.F.Folder.disk x) _ _ _ _ (ap (λ r. r.folder) c.session.ensures.room ∙ c.in-Ok.ensures.folder)
    (c.finished.ensures.folder ∙ c.close-2.ensures.folder ∙ ap (λ r. r.folder) c.end.ensures.room)
    (up_to_as _ _ _ _ (ap (λ r. r.numbers.last) c.session.ensures.room ∙ c.in-Ok.ensures.last) c.run_lines-told.ensures.tables)

pub returns-clause-write : goal.returns-clause-write
returns-clause-write g c = λ is.
    c.run_lines-told.ensures.write
    (write_told c.args.faults (g.F.Folder.faults_of c.finished.result.folder) (g.F.Tally.Count.number c.finished.result.tally) c.run_lines-told.result c.finished.result.cause
    c.finished.ensures.cause is)

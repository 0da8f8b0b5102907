use Rattle.std.proofs.Common.{◌∙◌, ap, sym, subst}
use Rattle.cas_history.specs.Log.{Has}
use Rattle.cas_history.proofs.Parts.{owned}
use Rattle.cas_history.specs.Items.{items, changes_list}
use Rattle.cas_history.specs.Last.{holds, all_added}
use Rattle.cas_history.proofs.Once.{held_unlisted}
use Rattle.cas_lifecycle.proofs.changes.held_is_unlisted.Goals as goal

pub returns-clause-law : goal.returns-clause-law
returns-clause-law g c has =
    let changes = c.args.changes.now in
    let files = c.args.files.now in
    let r = changes_list changes.shard in
    let shown = c.look.ensures in
    let held = ap (holds c.args.file) (sym (shown.known.1.0.1 files.list (owned items files.pass files.list files.owns.1))) ∙ c.requires in
    held_unlisted c.args.file files.list r _ shown.legal files.owns.0 held
    (subst (λ l. Has (all_added l) c.args.file) (shown.known.0.1 r (owned items changes.pass r changes.owns.1)) has)

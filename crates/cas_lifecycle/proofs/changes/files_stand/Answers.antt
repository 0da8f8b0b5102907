use Rattle.std.proofs.Common.{sym, subst}
use Rattle.cas_history.specs.Log.{Has}
use Rattle.cas_history.proofs.Parts.{owned}
use Rattle.cas_history.specs.Items.{items, listed, changes_list, numbers_list, Distinct}
use Rattle.cas_history.specs.Last.{all_added, used}
use Rattle.cas_history.proofs.Lists.{each_from}
use Rattle.cas_history.proofs.Once.{listed_once, listed_used}
use Rattle.cas_lifecycle.proofs.changes.files_stand.Goals as goal

pub returns-clause-once : goal.returns-clause-once
returns-clause-once g c =
    let changes = c.args.changes.now in
    let r = changes_list changes.shard in
    let shown = c.look.ensures in
    subst (λ l. Distinct (all_added l)) (sym (shown.known.1.0.1 r (owned items changes.pass r changes.owns.1))) (listed_once r _ shown.legal)

pub returns-clause-used : goal.returns-clause-used
returns-clause-used g c =
    let changes = c.args.changes.now in
    let numbers = c.args.numbers.now in
    let r = changes_list changes.shard in
    let shown = c.look.ensures in
    let list = shown.known.1.0.1 r (owned items changes.pass r changes.owns.1) in
    let all = shown.known.0.1 numbers_list (owned items numbers.pass numbers_list numbers.owns) in
    each_from (λ k. Has (used (listed numbers_list numbers.pass.saw)) k) (all_added (listed r changes.pass.saw))
    (λ k has. subst (λ l. Has (used l) k) (sym all) (listed_used r k _ shown.legal (subst (λ l. Has (all_added l) k) list has)))

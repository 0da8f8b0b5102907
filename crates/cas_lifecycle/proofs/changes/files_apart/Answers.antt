use Rattle.std.proofs.Common.{subst}
use Rattle.cas_history.specs.Log.{Has}
use Rattle.cas_history.proofs.Parts.{owned}
use Rattle.cas_history.specs.Items.{items, changes_list}
use Rattle.cas_history.specs.Last.{all_added}
use Rattle.cas_lifecycle.proofs.Listed.{shards_apart}
use Rattle.cas_lifecycle.proofs.changes.files_apart.Goals as goal

pub returns-clause-law : goal.returns-clause-law
returns-clause-law g c k first second =
    let one = c.args.one.now in
    let two = c.args.two.now in
    let shown = c.look.ensures in
    let r = changes_list one.shard in
    let q = changes_list two.shard in
    shards_apart one.shard two.shard one.owns.0 two.owns.0 c.requires _ shown.legal k
    (subst (λ l. Has (all_added l) k) (shown.known.0.1 r (owned items one.pass r one.owns.1)) first)
    (subst (λ l. Has (all_added l) k) (shown.known.1.0.1 q (owned items two.pass q two.owns.1)) second)

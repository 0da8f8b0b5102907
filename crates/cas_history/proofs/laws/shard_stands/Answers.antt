use Rattle.std.proofs.Common.{◌∙◌, ap, sym}
use Rattle.cas_history.proofs.Parts.{owned}
use Rattle.cas_history.specs.Items.{items, log_list, front_list}
use Rattle.cas_history.specs.Laws.{writes_in}
use Rattle.cas_history.proofs.Shares.{shard_writes}
use Rattle.cas_history.proofs.laws.shard_stands.Goals as goal

pub returns-clause-law : goal.returns-clause-law
returns-clause-law g c =
    let front = c.args.front.now in
    let shown = c.look.ensures in
    let log = shown.known.0.1 log_list (owned items c.args.log.now.pass log_list c.args.log.now.owns) in
    let list = shown.known.1.0.1 (front_list front.shard) (owned items front.pass (front_list front.shard) front.owns.1) in
    ap (writes_in front.shard) log ∙ (shard_writes front.shard _ shown.legal ∙ sym (ap (writes_in front.shard) list))

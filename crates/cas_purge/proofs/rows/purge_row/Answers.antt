use Rattle.std.proofs.Common.{Some, ap, ◌∙◌}
use Rattle.cas_purge.specs.Purged.{purged_columns}
use Rattle.cas_purge.proofs.rows.purge_row.Goals as goal

pub returns : goal.returns
returns c =
    let columns = c.from_vec.ensures ∙ c.purge_columns.ensures (Some c.args.r.clustering) ∙ ap (purged_columns c.args.horizon.before c.args.horizon.limit (Some c.args.r.clustering)) c.into_vec-columns.ensures in
    λ i. record { clustering = c.args.r.clustering; deletion = c.kept_deletion.ensures i; live = c.kept_live.ensures i; columns = columns i }

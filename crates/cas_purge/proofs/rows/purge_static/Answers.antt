use Rattle.std.proofs.Common.{None, ap, ◌∙◌}
use Rattle.cas_purge.specs.Purged.{purged_columns}
use Rattle.cas_purge.proofs.rows.purge_static.Goals as goal

pub returns : goal.returns
returns c = c.from_vec.ensures ∙ c.purge_columns.ensures None ∙ ap (purged_columns c.args.horizon.before c.args.horizon.limit None) c.into_vec-columns.ensures

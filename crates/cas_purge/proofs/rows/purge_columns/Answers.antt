use Rattle.std.proofs.Common.{rules, ◌∙◌}
use Rattle.cas_purge.proofs.Left.{walked, columns_left}
use Rattle.cas_purge.proofs.rows.purge_columns.Goals as goal

pub returns : goal.returns
returns c at = walked _ _ _ _ (λ d b f' e k. search rules) _ _ c.retain_mut.ensures.filtered ∙ columns_left c.args.horizon.before c.args.horizon.limit at c.args.columns.now.items

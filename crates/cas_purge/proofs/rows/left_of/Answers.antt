use Rattle.std.proofs.Common.{sym, ap, ◌∙◌}
use Rattle.cas_purge.specs.Purged.{left_of as left}
use Rattle.cas_purge.proofs.rows.left_of.Goals as goal

pub returns-in-Row-clause-left : goal.returns-in-Row-clause-left
returns-in-Row-clause-left c = c.left_row.ensures ∙ sym (ap (left c.args.horizon.before c.args.horizon.limit c.args.now) c.in-Row.is)

use Rattle.std.proofs.Common.{◌∙◌, ap, arith}
use Rattle.cas_live.specs.Inner.OwnRow.{columns_from}
use Rattle.cas_live.proofs.OwnColumns.{columns_twice}
use Rattle.cas_live.proofs.own_row.seek.Goals as goal

pub returns-else-number-last : goal.returns-else-number-last
returns-else-number-last c =
    c.columns_from-else-number-last.ensures ∙ ap (columns_from c.args.number) c.requires ∙ columns_twice c.args.last c.args.number c.args.columns.now (omega arith)

use Rattle.std.proofs.Common.{◌∙◌, sym}
use Rattle.cas_live.proofs.OwnColumns.{from_none}
use Rattle.cas_live.proofs.own_row.own_row.Goals as goal

pub loop-pick-init : goal.loop-pick-init
loop-pick-init c = record {
  values = c.in_ok-values.ensures.items;
  rest = c.as_slice-columns.ensures ∙ sym (from_none c.args.row.now.columns);
}

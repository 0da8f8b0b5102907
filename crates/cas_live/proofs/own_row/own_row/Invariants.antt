use Rattle.std.proofs.Common.{◌≡◌, map, take}
use Rattle.cas_live.specs.Inner.OwnRow.{columns_from, own_picked}
use Rattle.cas_live.proofs.own_row.own_row.Given as goal

abbrev pub invariant-loop-pick : goal.invariant-loop-pick
invariant-loop-pick l = record {
  values : l.values.items ≡ map (own_picked l.query l.all.atoms.now l.all.now l.over l.row) (take l.pick-index l.query.picks);
  rest : l.rest ≡ columns_from l.last l.row.columns;
}

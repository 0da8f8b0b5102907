use Rattle.cas_records.proofs.ColumnLaws.{column_exact, path_exact}
use Rattle.cas_records.proofs.laws.columns_are_exact.Goals as goal

pub returns : goal.returns
returns c = record {
  column = column_exact;
  path = path_exact;
}

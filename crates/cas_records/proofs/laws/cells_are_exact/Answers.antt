use Rattle.cas_atoms.specs.Fits.{is_cell_value}
use Rattle.cas_records.specs.Reading.{may_hold}
use Rattle.cas_records.proofs.CellLaws.{timestamp_exact, key_exact, deletion_exact, live_exact, cell_exact, deletion_long, live_long, cell_long}
use Rattle.cas_records.proofs.laws.cells_are_exact.Goals as goal

pub returns : goal.returns
unfolding is_cell_value may_hold
returns c = record {
  timestamp = timestamp_exact;
  key = key_exact;
  deletion = deletion_exact;
  live = live_exact;
  cell = λ column. cell_exact (is_cell_value column);
  deletion_length = deletion_long;
  live_length = live_long;
  cell_length = cell_long;
}

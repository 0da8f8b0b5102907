use Rattle.cas_streams.proofs.Rows.{same_by_rows}
use Rattle.cas_streams.proofs.laws.same_by_rows.Goals as goal

pub returns : goal.returns
returns c = same_by_rows

use Rattle.cas_streams.proofs.Rows.{rows_say_all}
use Rattle.cas_streams.proofs.laws.rows_say_all.Goals as goal

pub returns : goal.returns
returns c = rows_say_all

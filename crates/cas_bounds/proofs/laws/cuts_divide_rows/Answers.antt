use Rattle.cas_bounds.proofs.CutLaws.{cuts_divide_rows}
use Rattle.cas_bounds.proofs.laws.cuts_divide_rows.Goals as goal

pub returns : goal.returns
returns c = cuts_divide_rows

use Rattle.cas_sstread.proofs.LoadLaws.{loads_found, loads_again}
use Rattle.cas_sstread.proofs.laws.loading_is_exact.Goals as goal

pub returns : goal.returns
returns c = record { found = loads_found; again = loads_again }

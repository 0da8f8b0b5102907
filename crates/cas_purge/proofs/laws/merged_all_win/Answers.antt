use Rattle.cas_purge.proofs.Merged.{merged_all_win}
use Rattle.cas_purge.proofs.laws.merged_all_win.Goals as goal

pub returns : goal.returns
returns c = merged_all_win

use Rattle.cas_changes.proofs.EntryLaws.{entry_exact, spelled}
use Rattle.cas_changes.proofs.EntryLengths.{entry_short}
use Rattle.cas_changes.proofs.laws.entries_are_exact.Goals as goal

pub returns : goal.returns
returns c = record { exact = entry_exact; spelled = spelled; short = entry_short }

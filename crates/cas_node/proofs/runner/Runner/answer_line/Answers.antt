use Rattle.cas_disk.proofs.Moments.{no_call}
use Rattle.cas_lasting.specs.Listing.{SameUpTo}
use Rattle.cas_lasting.proofs.Listing.{lists_nothing}
use Rattle.cas_node.proofs.runner.Runner.answer_line.Goals as goal

pub returns-in-Err-clause-tables : goal.returns-in-Err-clause-tables
returns-in-Err-clause-tables g c = no_call (SameUpTo _) _

pub returns-in-Err-clause-lists : goal.returns-in-Err-clause-lists
returns-in-Err-clause-lists g c = λ h found told stands lasts none. lists_nothing _ _ h found told stands lasts

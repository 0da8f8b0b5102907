use Rattle.std.proofs.Common.{arith}
use Rattle.std.proofs.lemmas.Int.{ints}
use Rattle.cas_node.proofs.Answered.{refuses_clock, sets_clock}
use Rattle.cas_disk.proofs.Moments.{no_call}
use Rattle.cas_lasting.specs.Listing.{SameUpTo}
use Rattle.cas_lasting.proofs.Listing.{lists_nothing}
use Rattle.cas_node.proofs.runner.Runner.set_clock.Goals as goal

pub returns-in-Manual-clause-sets : goal.returns-in-Manual-clause-sets
returns-in-Manual-clause-sets g c = sets_clock c.args.kind _ c.args.seconds _ _ c.in-Manual.is (omega (arith, ints))

pub returns-in-System-clause-sets : goal.returns-in-System-clause-sets
returns-in-System-clause-sets g c = refuses_clock c.args.kind _ c.args.seconds _ c.in-System.is

pub returns-in-Manual-clause-tables : goal.returns-in-Manual-clause-tables
returns-in-Manual-clause-tables g c = no_call (SameUpTo _) _

pub returns-in-System-clause-tables : goal.returns-in-System-clause-tables
returns-in-System-clause-tables g c = no_call (SameUpTo _) _

pub returns-in-Manual-clause-lists : goal.returns-in-Manual-clause-lists
returns-in-Manual-clause-lists g c = lists_nothing _ _

pub returns-in-System-clause-lists : goal.returns-in-System-clause-lists
returns-in-System-clause-lists g c = lists_nothing _ _

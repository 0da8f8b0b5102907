use Rattle.cas_node.proofs.LittleFits.{little_fits, little_flushes_fit}
use Rattle.cas_node.proofs.SaidStay.{found_said, said_stay}
use Rattle.cas_node.proofs.WellDisk.{what_fits_is_flushed}
use Rattle.cas_node.proofs.laws.little_fits.Goals as goal

pub returns-clause-begin : goal.returns-clause-begin
returns-clause-begin g c = found_said

pub returns-clause-stay : goal.returns-clause-stay
returns-clause-stay g c clock = said_stay (g.C.Clock.may_give clock)

pub returns-clause-fits : goal.returns-clause-fits
returns-clause-fits g c = little_fits c.little_is_never_too_much.ensures

pub returns-clause-flushes : goal.returns-clause-flushes
returns-clause-flushes g c clock = little_flushes_fit c.little_is_never_too_much.ensures (g.C.Clock.may_give clock)

pub returns-clause-flushed : goal.returns-clause-flushed
returns-clause-flushed g c = what_fits_is_flushed

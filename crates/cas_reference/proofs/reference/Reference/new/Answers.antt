use Rattle.std.proofs.Common.{subst, sym}
use Rattle.cas_bind.specs.Tables.{AreTables}
use Rattle.cas_reference.proofs.Lists.{no_tables}
use Rattle.cas_reference.proofs.reference.Reference.new.Goals as goal

pub invariant_of-result-clause-made : goal.invariant_of-result-clause-made
invariant_of-result-clause-made c = subst AreTables (sym c.new.ensures.items) no_tables

use Rattle.cas_laws.proofs.SliceProofs.{slice_reads}
use Rattle.cas_laws.proofs.laws.slice_reads.Goals as goal

pub returns : goal.returns
returns c = slice_reads

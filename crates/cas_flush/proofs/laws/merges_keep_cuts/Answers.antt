use Rattle.cas_bounds.specs.ClusteringOrder.{clustering_order}
use Rattle.cas_atoms.specs.Fits.{FitsCut}
use Rattle.cas_partition.proofs.AtCuts.{merge_at}
use Rattle.cas_flush.proofs.laws.merges_keep_cuts.Goals as goal

pub returns : goal.returns
returns c columns ss cuts = merge_at (FitsCut (clustering_order columns)) ss cuts

use Rattle.std.proofs.Common.{List, [], ◌∷◌}
use Rattle.std.specs.List.{AllByRecursion}
use Rattle.cas_types.specs.declared.schema.Column.{Column}
use Rattle.cas_bounds.specs.ClusteringOrder.{clustering_order}
use Rattle.cas_atoms.specs.Fits.{FitsCut}
use Rattle.cas_streams.specs.Joined.{Stream}
use Rattle.cas_streams.specs.Merged.{merged, flat_of, flats}
use Rattle.cas_streams.specs.Streams.{IsOrdered, WellFormed}
use Rattle.cas_streams.proofs.Formed.{merge_is_well_formed}
use Rattle.cas_streams.proofs.NoMore.{merge_says_no_more, no_more_then}
use Rattle.cas_partition.proofs.AtCuts.{merge_at}
use Rattle.cas_flush.proofs.Fitted.{stream_fits}
use Rattle.cas_flush.proofs.laws.merges_fit.Goals as goal

in_order : (columns : List Column) (ss : List Stream) → AllByRecursion (λ s. WellFormed columns s.fragments) ss
    → AllByRecursion (λ s. IsOrdered (clustering_order columns) s.fragments) ss
in_order columns [] all = tt
in_order columns (s ∷ ss) all = (all.0.ordered, in_order columns ss all.1)

pub returns : goal.returns
returns c columns ss atoms formed cuts no_more all room =
    stream_fits columns (merged ss).top (merged ss).fragments atoms (merge_is_well_formed columns ss formed) (merge_at (FitsCut (clustering_order columns)) ss cuts)
    (no_more_then (flat_of (merged ss)) (flats ss) atoms (merge_says_no_more (clustering_order columns) ss (in_order columns ss formed)) no_more) all room

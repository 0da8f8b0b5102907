use Rattle.cas_records.proofs.BoundLaws.{clustering_exact, cut_exact, clustering_long, cut_long}
use Rattle.cas_records.proofs.laws.bounds_are_exact.Goals as goal

pub returns : goal.returns
returns c = record {
  clustering = clustering_exact;
  cut = cut_exact;
  clustering_length = clustering_long;
  cut_length = cut_long;
}

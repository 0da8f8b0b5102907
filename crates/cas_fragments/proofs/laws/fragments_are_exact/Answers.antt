use Rattle.cas_bounds.specs.ClusteringOrder.{clustering_order}
use Rattle.cas_codec.proofs.Exactness.{exact_alone}
use Rattle.cas_fragments.specs.Spelling.{fragment_bytes}
use Rattle.cas_fragments.specs.Reading.{fragment_at}
use Rattle.cas_fragments.specs.Allowed.{FitsFragment}
use Rattle.cas_fragments.proofs.FragmentLaws.{row_exact, fragment_exact, head_exact}
use Rattle.cas_fragments.proofs.LengthLaws.{fragment_long, has_spelling}
use Rattle.cas_fragments.proofs.laws.fragments_are_exact.Goals as goal

pub returns : goal.returns
returns c = record {
  row = row_exact;
  fragment = fragment_exact;
  head = head_exact;
  alone = λ columns narrow.
      exact_alone (FitsFragment columns) fragment_bytes (fragment_at (clustering_order columns) columns) (fragment_exact columns narrow);
  length = fragment_long;
  spelled = has_spelling;
}

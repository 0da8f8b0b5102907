-- What the rows of a slice show, one by one.
use Rattle.std.proofs.Common.{◌≡◌, Option, None, Some, List, [], ◌∷◌, ◌++◌, map, sym, ap, ◌∙◌, subst}
use Rattle.std.specs.List.Sorted.{IsStrictlySortedBy}
use Rattle.std.specs.Map.{keys_of}
use Rattle.cas_cell.specs.declared.deletion.Deletion.{Deletion}
use Rattle.cas_bounds.specs.ClusteringOrder.{clustering_order}
use Rattle.cas_bounds.specs.declared.cuts.Slice.{Slice}
use Rattle.cas_bounds.specs.declared.order.Ordered.{Ordered}
use Rattle.cas_streams.specs.Joined.{by_place, Stream}
use Rattle.cas_streams.specs.Merged.{merged}
use Rattle.cas_streams.specs.Settled.{settled}
use Rattle.cas_streams.specs.Weaving.{woven}
use Rattle.cas_streams.specs.declared.fragment.Fragment.{Fragment}
use Rattle.cas_partition.specs.Ranges.{key_of, clipped}
use Rattle.cas_partition.specs.Ranged.{piece_of, statics_of, rows_between}
use Rattle.cas_partition.specs.Spots.{row_cmp, spot_cmp}
use Rattle.cas_partition.specs.Partitions.{marker, IsOf}
use Rattle.cas_partition.specs.Slices.{AreRowsOf, Shows, slice_pieces, slice_streams}
use Rattle.cas_partition.specs.Inner.Rows.{RowsOf, flat}
use Rattle.cas_partition.specs.Inner.Lent.{static_rows, rows_amid, LendsRows}
use Rattle.cas_partition.specs.Inner.Passing.{fragments_of, left_to_come}
use Rattle.cas_partition.specs.declared.partition.Partition.{Partition}
use Rattle.cas_partition.specs.declared.spot.Spot.{Spot}
use Rattle.cas_partition.specs.declared.spot.Content.{Content}
use Rattle.cas_partition.proofs.Alone.{both_streams}
use Rattle.cas_partition.proofs.RowFragments.{rows_laid}
use Rattle.cas_partition.proofs.Saying.{Rows}
use Rattle.cas_partition.proofs.Shown.{shows}
use Rattle.cas_partition.proofs.Slicing.{kept_rows}
use Rattle.cas_partition.proofs.Statics.{flat_sorted, statics_flat, between_flat, flat_both, lent_sorted}

both_rows : (order : List Ordered) (xs ys : List (Spot × Content)) → Rows order xs → Rows order ys → Rows order (xs ++ ys)
both_rows order [] ys a b = b
both_rows order (x ∷ xs) ys a b = (a.0, both_rows order xs ys a.1 b)

module _ (s : Slice) (p : Partition) (lent : RowsOf) (l : LendsRows (Some (key_of s.lo)) (Some (key_of s.hi)) p.spots lent) where
  entries : flat lent ≡ statics_of p.spots ++ rows_between s.lo s.hi p.spots
  entries =
      ap flat l.is ∙ flat_both (static_rows l.rows) (rows_amid (Some (key_of s.lo)) (Some (key_of s.hi)) l.rows)
      ∙ (λ i. sym (statics_flat l.rows) i ++ sym (between_flat s.lo s.hi l.rows) i) ∙ ap (λ es. statics_of es ++ rows_between s.lo s.hi es) l.are

  in_table : (order : List Ordered) → IsOf order p → Rows order (flat lent)
  in_table order of =
      subst (Rows order) (sym entries) (both_rows order (statics_of p.spots) (rows_between s.lo s.hi p.spots) (kept_rows order _ p.spots of.rows) (kept_rows order _ p.spots of.rows))

  are_rows : (order : List Ordered) → IsOf order p → AreRowsOf (slice_pieces s p) (fragments_of lent)
  are_rows order of =
      subst (λ es. AreRowsOf (map piece_of es) (fragments_of lent)) entries
      (rows_laid order lent (subst (λ r. IsStrictlySortedBy row_cmp (keys_of r)) (sym l.is) (lent_sorted (key_of s.lo) (Some (key_of s.hi)) l.rows l.whole.sorted)) (in_table order of))

  shown_of : (order : List Ordered) → IsOf order p → (top : Option Deletion) (ms : List Fragment) → top ≡ p.top → ms ≡ map marker (clipped s p.ranges) → Shows s p top (left_to_come p.top None lent ms)
  shown_of order of top ms t m =
      let rows : List Fragment = fragments_of lent in
      let left : List Fragment → Stream = λ (ks : List Fragment). settled (record { top = p.top; fragments = woven by_place (record { left = None; right = None }) rows ks }) in
      let whole : left ms ≡ merged (slice_streams s p rows) = ap left m ∙ both_streams p.top rows (map marker (clipped s p.ranges)) in
      shows s p rows top (left_to_come p.top None lent ms) (subst (λ es. IsStrictlySortedBy spot_cmp (keys_of es)) l.are (flat_sorted l.rows l.whole)) (are_rows order of)
      (t ∙ ap (λ x. x.top) whole) (ap (λ x. x.fragments) whole)

  pub slice_shown : (top : Option Deletion) (ms : List Fragment) → top ≡ p.top → ms ≡ map marker (clipped s p.ranges) → Shows s p top (left_to_come p.top None lent ms)
  slice_shown top ms t m = record {
    ordered = λ order of. (shown_of order of top ms t m).ordered order of;
    same = λ order of. (shown_of order of top ms t m).same order of;
    no_more = λ order of. (shown_of order of top ms t m).no_more order of;
    some = λ order of. (shown_of order of top ms t m).some order of;
    ends = λ order of. (shown_of order of top ms t m).ends order of;
    formed = λ columns t_of. (shown_of (clustering_order columns) t_of.of top ms t m).formed columns t_of;
    cuts = λ columns t_of. (shown_of (clustering_order columns) t_of.of top ms t m).cuts columns t_of;
  }

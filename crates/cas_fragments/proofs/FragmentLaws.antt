-- Rows, markers and fragments are read exactly.
use Rattle.std.proofs.Common.{◌≡◌, ℕ, zero, suc, ◌<◌, ◌≤◌, ◌+◌, ◌^◌, leb, true, Option, None, Some, List, [], ◌∷◌, ◌++◌, length, Ok, refl, ap, subst, ◌∙◌, arith}
use Rattle.std.specs.Prelude.{IfSome}
use Rattle.std.specs.Int.{is_in_range}
use Rattle.std.specs.List.{AllByRecursion, flat_map}
use Rattle.std.proofs.lemmas.Bool.{leb-true, le-leb, and_parts}
use Rattle.cas_types.specs.Limits.{IsNarrow}
use Rattle.cas_types.specs.Schemas.{is_regular, is_static}
use Rattle.cas_types.specs.declared.schema.Column.{Column}
use Rattle.cas_cell.specs.declared.deletion.Deletion.{Deletion}
use Rattle.cas_cell.specs.declared.liveness.Liveness.{Liveness}
use Rattle.cas_bounds.specs.ClusteringOrder.{clustering_order}
use Rattle.cas_bounds.specs.declared.order.Ordered.{Ordered}
use Rattle.cas_bounds.specs.declared.cuts.Clustering.{Clustering}
use Rattle.cas_bounds.specs.declared.cuts.Cut.{Cut}
use Rattle.cas_codec.specs.Reading.{Left, checked, u8_at, maybe_at}
use Rattle.cas_codec.specs.Fields.{u8, bytes16, maybe}
use Rattle.cas_codec.specs.Exact.{AreBytes, Begins, IsExact}
use Rattle.cas_codec.proofs.Exactness.{read_left, exact_then, exact_checked, exact_done, exact_map}
use Rattle.cas_codec.proofs.FieldLaws.{u8_field, maybe_exact}
use Rattle.cas_codec.proofs.Sequences.{exact_two, exact_three, exact_four}
use Rattle.cas_atoms.specs.Fits.{FitsKey, FitsDeletion, FitsLive, FitsClustering, FitsCut}
use Rattle.cas_atoms.specs.declared.row.RowColumn.{RowColumn}
use Rattle.cas_atoms.specs.declared.row.Row.{Row}
use Rattle.cas_records.specs.declared.columns.Wanted.TheVariants.{Regular, Static}
use Rattle.cas_records.specs.Spelling.{deletion_bytes, live_bytes, clustering_bytes, cut_bytes}
use Rattle.cas_records.specs.Reading.{key_at, deletion_at, live_at, clustering_at, cut_at}
use Rattle.cas_records.proofs.CellLaws.{key_exact, deletion_exact, live_exact}
use Rattle.cas_records.proofs.BoundLaws.{clustering_exact, cut_exact}
use Rattle.cas_streams.specs.Flat.{own, of_column}
use Rattle.cas_streams.specs.Streams.{IsThere}
use Rattle.cas_streams.specs.declared.fragment.Fragment.{Fragment}
use Rattle.cas_streams.specs.declared.fragment.Fragment.TheVariants as fragment
use Rattle.cas_fragments.specs.Spelling.{columns_bytes, row_bytes, marker_bytes, fragment_bytes}
use Rattle.cas_fragments.specs.Blocks.{statics_bytes, head_bytes}
use Rattle.cas_fragments.specs.declared.heads.Version.{Version}
use Rattle.cas_fragments.specs.declared.heads.Version.TheVariants.{First, Second}
use Rattle.cas_fragments.specs.Reading.{columns_at, least_columns, row_at, row_fragment_at, marker_at, tagged_at, fragment_at, statics_at, head_at}
use Rattle.cas_fragments.specs.Allowed.{FitsColumn, FitsRow, FitsFragment, FitStatics, FitsHead}
use Rattle.cas_fragments.proofs.ColumnLaws.{AreAtLeast, at_least_exact, columns_exact}

-- ---- rows

pub there_before : {X : Type 0} (xs ys : List X) → IsThere xs → IsThere (xs ++ ys)
there_before [] ys there = absurd there
there_before (x ∷ xs) ys there = tt

-- something is said of the column
pub column_there : (at : Option Clustering) (c : RowColumn) → (c.deletion ≡ None → IsThere c.cells) → IsThere (of_column at c)
column_there at c said =
    elim (c.deletion) as (λ d. (d ≡ None → IsThere c.cells) → IsThere (of_column at (record { column = c.column; deletion = d; cells = c.cells }))) [
      | None ↦ λ so. elim (c.cells) as (λ cells. IsThere cells → IsThere (of_column at (record { column = c.column; deletion = None; cells = cells }))) [
        | [] ↦ λ there. there
        | x ∷ xs ↦ λ there. tt
      ] (so refl)
      | Some x ↦ λ so. tt
    ] said

columns_there : (columns : List Column) (at : Option Clustering) (cs : List RowColumn) → leb 1 (length cs) ≡ true → AllByRecursion (FitsColumn is_regular columns) cs
    → IsThere (flat_map (of_column at) cs)
columns_there columns at [] some fit = absurd cc
columns_there columns at (c ∷ cs) some fit = there_before (of_column at c) (flat_map (of_column at) cs) (column_there at c fit.0.of.said)

row_of : Clustering → Option Deletion → Option Liveness → List RowColumn → Row
row_of place d l cs = record { clustering = place; deletion = d; live = l; columns = cs }

row_there : (columns : List Column) (place : Clustering) (d : Option Deletion) (l : Option Liveness) (cs : List RowColumn)
    → AreAtLeast is_regular (least_columns d l) columns cs → IsThere (own (fragment.Row (row_of place d l cs)))
unfolding row_of
row_there columns place None None cs fit = columns_there columns (Some place) cs fit.1 fit.0.each
row_there columns place None (Some l) cs fit = tt
row_there columns place (Some d) l cs fit = tt

least_zero : (n : ℕ) → leb 0 n ≡ true
least_zero n = le-leb 0 n (omega arith)

there_columns : (place : Clustering) (d : Option Deletion) (l : Option Liveness) (cs : List RowColumn)
    → IsThere (own (fragment.Row (row_of place d l cs))) → leb (least_columns d l) (length cs) ≡ true
unfolding row_of
there_columns place None None [] there = absurd there
there_columns place None None (c ∷ cs) there = le-leb 1 (length (c ∷ cs)) (omega arith)
there_columns place None (Some l) cs there = least_zero (length cs)
there_columns place (Some d) l cs there = least_zero (length cs)

pub row_exact : (columns : List Column) → IsNarrow columns → IsExact (FitsRow columns) row_bytes (row_at (clustering_order columns) columns)
unfolding row_at row_of
row_exact columns narrow =
    exact_four (FitsClustering (clustering_order columns)) clustering_bytes (clustering_at (clustering_order columns))
    (λ place d. IfSome d FitsDeletion) (maybe deletion_bytes) (λ place. maybe_at deletion_at)
    (λ place d l. IfSome l FitsLive) (maybe live_bytes) (λ place d. maybe_at live_at)
    (λ place d l cs. AreAtLeast is_regular (least_columns d l) columns cs) columns_bytes (λ place d l. columns_at Regular (least_columns d l) columns)
    (FitsRow columns) row_bytes (λ place d l cs. row_of place d l cs)
    (clustering_exact (clustering_order columns))
    (λ place fit. maybe_exact FitsDeletion deletion_bytes deletion_at deletion_exact)
    (λ place d fit-p fit-d. maybe_exact FitsLive live_bytes live_at live_exact)
    (λ place d l fit-p fit-d fit-l. at_least_exact is_regular Regular (λ column. refl) (least_columns d l) columns narrow)
    (λ place d l cs fit-p fit-d fit-l fit-c.
    (record { clustering = fit-p; deletion = fit-d; live = fit-l; each = fit-c.0; said = row_there columns place d l cs fit-c }, refl))
    (λ r fit.
    (r.clustering, r.deletion, r.live, r.columns, fit.clustering, fit.deletion, fit.live, (fit.each, there_columns r.clustering r.deletion r.live r.columns fit.said), refl))

-- ---- fragments

abbrev fragment_tag : Fragment → ℕ
fragment_tag (fragment.Static cs) = 0
fragment_tag (fragment.Row r) = 1
fragment_tag (fragment.Marker cut d) = 2

abbrev fragment_tail : Fragment → List ℕ
fragment_tail (fragment.Static cs) = []
fragment_tail (fragment.Row r) = row_bytes r
fragment_tail (fragment.Marker cut d) = marker_bytes cut d

abbrev IsRow : List Column → Fragment → Type 0
IsRow columns f = (r : Row) × FitsRow columns r × (fragment.Row r ≡ f)

row_fragment_exact : (columns : List Column) → IsNarrow columns → IsExact (IsRow columns) fragment_tail (row_fragment_at (clustering_order columns) columns)
unfolding row_fragment_at
row_fragment_exact columns narrow =
    exact_map (FitsRow columns) row_bytes (row_at (clustering_order columns) columns) (IsRow columns) fragment_tail (λ r. fragment.Row r)
    (row_exact columns narrow) (λ r fit. ((r, fit, refl), refl)) (λ f fit. fit)

abbrev IsMarker : List Ordered → Fragment → Type 0
IsMarker order f = (cut : Cut) × (d : Option Deletion) × FitsCut order cut × IfSome d FitsDeletion × (fragment.Marker cut d ≡ f)

marker_exact : (order : List Ordered) → IsExact (IsMarker order) fragment_tail (marker_at order)
unfolding marker_at
marker_exact order =
    exact_two (FitsCut order) cut_bytes (cut_at order) (λ cut d. IfSome d FitsDeletion) (maybe deletion_bytes) (λ cut. maybe_at deletion_at)
    (IsMarker order) fragment_tail (λ cut d. fragment.Marker cut d)
    (cut_exact order)
    (λ cut fit. maybe_exact FitsDeletion deletion_bytes deletion_at deletion_exact)
    (λ cut d fit-c fit-d. ((cut, d, fit-c, fit-d, refl), refl))
    (λ f fit. fit)

abbrev IsTag : ℕ → Type 0
IsTag n = (n < 2 ^ 8) × (is_in_range 1 2 n ≡ true)

abbrev IsTagged : List Column → ℕ → Fragment → Type 0
IsTagged columns n f = FitsFragment columns f × (fragment_tag f ≡ n)

above_two : (n : ℕ) → is_in_range 1 2 (suc (suc (suc n))) ≡ true → ⊥
above_two n within =
    let most : suc (suc (suc n)) ≤ 2 = leb-true _ 2 (and_parts (leb 1 (suc (suc (suc n)))) (leb (suc (suc (suc n))) 2) within).1 in
    omega arith

tagged_found : (columns : List Column) → IsNarrow columns → (n : ℕ) (old new : Left) (f : Fragment) → is_in_range 1 2 n ≡ true → AreBytes old.bytes
    → tagged_at (clustering_order columns) columns n old ≡ Ok (f, new) → IsTagged columns n f × Begins (fragment_tail f) old new
tagged_found columns narrow zero old new f within are e = absurd cc
tagged_found columns narrow (suc zero) old new f within are e =
    let g = (row_fragment_exact columns narrow).found old new f are e in
    (subst (λ (x : Fragment). IsTagged columns 1 x) g.0.2 (g.0.1, refl), g.1)
tagged_found columns narrow (suc (suc zero)) old new f within are e =
    let g = (marker_exact (clustering_order columns)).found old new f are e in
    (subst (λ (x : Fragment). IsTagged columns 2 x) g.0.4 ((g.0.2, g.0.3), refl), g.1)
tagged_found columns narrow (suc (suc (suc n))) old new f within are e = absurd (above_two n within)

tagged_again : (columns : List Column) → IsNarrow columns → (f : Fragment) (rest : List ℕ) (at : ℕ) → FitsFragment columns f
    → tagged_at (clustering_order columns) columns (fragment_tag f) (read_left (fragment_tail f ++ rest) at)
    ≡ Ok (f, read_left rest (at + length (fragment_tail f)))
tagged_again columns narrow (fragment.Static cs) rest at fit = absurd fit
tagged_again columns narrow (fragment.Row r) rest at fit = (row_fragment_exact columns narrow).again (fragment.Row r) rest at (r, fit, refl)
tagged_again columns narrow (fragment.Marker cut d) rest at fit =
    (marker_exact (clustering_order columns)).again (fragment.Marker cut d) rest at (cut, d, fit.0, fit.1, refl)

tagged_exact : (columns : List Column) → IsNarrow columns → (n : ℕ) → is_in_range 1 2 n ≡ true
    → IsExact (IsTagged columns n) fragment_tail (tagged_at (clustering_order columns) columns n)
tagged_exact columns narrow n within = record {
  found = λ old new f are e. tagged_found columns narrow n old new f within are e;
  again = λ f rest at fit. subst (λ (m : ℕ). tagged_at (clustering_order columns) columns m (read_left (fragment_tail f ++ rest) at)
      ≡ Ok (f, read_left rest (at + length (fragment_tail f)))) fit.1 (tagged_again columns narrow f rest at fit.0);
}

tag_fits : (columns : List Column) (f : Fragment) → FitsFragment columns f → IsTag (fragment_tag f)
tag_fits columns (fragment.Static cs) fit = absurd fit
tag_fits columns (fragment.Row r) fit = (omega arith, refl)
tag_fits columns (fragment.Marker cut d) fit = (omega arith, refl)

fragment_spelled : (columns : List Column) (f : Fragment) → FitsFragment columns f → fragment_bytes f ≡ u8 (fragment_tag f) ++ fragment_tail f
fragment_spelled columns (fragment.Static cs) fit = absurd fit
fragment_spelled columns (fragment.Row r) fit = refl
fragment_spelled columns (fragment.Marker cut d) fit = refl

pub fragment_exact : (columns : List Column) → IsNarrow columns → IsExact (FitsFragment columns) fragment_bytes (fragment_at (clustering_order columns) columns)
unfolding fragment_at
fragment_exact columns narrow =
    exact_then IsTag u8 (checked (is_in_range 1 2) u8_at) (FitsFragment columns) fragment_bytes (λ n f. fragment_tag f ≡ n) (λ n f. fragment_tail f)
    (λ before n left. tagged_at (clustering_order columns) columns n left)
    (exact_checked (λ n. n < 2 ^ 8) u8 u8_at (is_in_range 1 2) u8_field.exact)
    (λ before n tag. tagged_exact columns narrow n tag.1)
    (λ f fit. (fragment_tag f, tag_fits columns f fit, refl))
    (λ n f fit is. fragment_spelled columns f fit ∙ ap (λ (m : ℕ). u8 m ++ fragment_tail f) is)

-- ---- the head of a partition

statics_exact : (version : Version) (columns : List Column) → IsNarrow columns
    → IsExact (FitStatics version columns) (statics_bytes version) (statics_at version columns)
unfolding statics_at
statics_exact First columns narrow = exact_done (FitStatics First columns) (statics_bytes First) [] refl (λ cs none. (none, refl))
statics_exact Second columns narrow = columns_exact is_static Static (λ column. refl) columns narrow

pub head_exact : (version : Version) (columns : List Column) → IsNarrow columns
    → IsExact (FitsHead version columns) (λ h. head_bytes version h.0 h.1 h.2) (head_at version columns)
unfolding head_at
head_exact version columns narrow =
    exact_three FitsKey bytes16 key_at (λ key top. IfSome top FitsDeletion) (maybe deletion_bytes) (λ key. maybe_at deletion_at)
    (λ key top cs. FitStatics version columns cs) (statics_bytes version) (λ key top. statics_at version columns)
    (FitsHead version columns) (λ h. head_bytes version h.0 h.1 h.2) (λ key top cs. (key, top, cs))
    key_exact
    (λ key fit. maybe_exact FitsDeletion deletion_bytes deletion_at deletion_exact)
    (λ key top fit-k fit-t. statics_exact version columns narrow)
    (λ key top cs fit-k fit-t fit-c. ((fit-k, fit-t, fit-c), refl))
    (λ h fit. (h.0, h.1, h.2, fit.0, fit.1, fit.2, refl))

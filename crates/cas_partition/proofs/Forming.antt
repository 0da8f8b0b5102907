-- A slice of a table's partition is well formed: merged, the pieces of its rows and its markers are fragments of the table.
use Rattle.std.proofs.Common.{◌≡◌, ℕ, Bool, true, false, cond, Option, None, Some, List, [], ◌∷◌, map, filter, refl, sym, ◌∙◌, subst}
use Rattle.std.proofs.lemmas.Option.{none-some}
use Rattle.std.specs.List.{AllByRecursion, cons_option}
use Rattle.std.specs.List.Sorted.{IsStrictlySortedBy}
use Rattle.std.specs.declared.cmp.Ordering.{Ordering}
use Rattle.cas_types.specs.Schemas.{is_static, is_regular}
use Rattle.cas_types.specs.declared.schema.Column.{Column}
use Rattle.cas_cell.specs.Deletions.{deletion_cmp}
use Rattle.cas_cell.specs.declared.cell.Cell.{Cell}
use Rattle.cas_cell.specs.declared.deletion.Deletion.{Deletion}
use Rattle.cas_bounds.specs.ClusteringOrder.{clustering_order}
use Rattle.cas_bounds.specs.declared.cuts.Cut.{Cut}
use Rattle.cas_bounds.specs.declared.map_key.MapKey.{MapKey}
use Rattle.cas_atoms.specs.Fits.{is_path}
use Rattle.cas_atoms.specs.Greatest.{greater}
use Rattle.cas_atoms.specs.declared.row.Row.{Row}
use Rattle.cas_atoms.specs.declared.row.RowColumn.{RowColumn}
use Rattle.cas_streams.specs.Flat.{Change, own}
use Rattle.cas_streams.specs.Streams.{IsOrdered, IsThere, AreColumns, IsFragment, WellFormed}
use Rattle.cas_streams.specs.Joined.{Stream, raised, joined_fragment, by_place}
use Rattle.cas_streams.specs.Settled.{if_said, bare_columns, bare_row, same_force, settled_from}
use Rattle.cas_streams.specs.Merged.{Draw, nobody, one, pair, draw, joined_all, merged}
use Rattle.cas_streams.specs.declared.fragment.Fragment.{Fragment}
use Rattle.cas_streams.specs.declared.fragment.Fragment.TheVariants as fragment
use Rattle.cas_streams.proofs.Weaves.{woven_all}
use Rattle.cas_streams.proofs.Twins.{Twins, twins}
use Rattle.cas_streams.proofs.Forces.{forces}
use Rattle.cas_streams.proofs.Columns.{Of, AllOf, joined_all_of, columns_left}
use Rattle.cas_streams.proofs.Formed.{Tabled}
use Rattle.cas_streams.proofs.Settling.{settled_differ}
use Rattle.cas_streams.proofs.Merges.{Each, all_drawn, merge_ordered}
use Rattle.cas_partition.specs.Spots.{cells_at, columns_at, piece}
use Rattle.cas_partition.specs.Partitions.{marker, kept_in, IsColumnIn, IsIn, AreIn}
use Rattle.cas_partition.specs.Slices.{Halves, pieces_in, rows_by}
use Rattle.cas_partition.specs.Ranged.{piece_of}
use Rattle.cas_partition.proofs.Slicing.{halves_each}
use Rattle.cas_partition.specs.declared.spot.Spot.{Spot}
use Rattle.cas_partition.specs.declared.spot.Content.{Content}

abbrev Entries : Type 0
Entries = List (Spot × Content)

module _ (columns : List Column) where
  -- ---- pieces

  paths_ascend : (R : List ℕ → List ℕ → Ordering) (p : List ℕ) (v : Option Cell) → IsStrictlySortedBy R (map (λ q. q.path) (cells_at (Some p) v))
  unfolding IsStrictlySortedBy
  paths_ascend R p None = tt
  paths_ascend R p (Some v) = (tt, tt)

  no_paths : (R : List ℕ → List ℕ → Ordering) → IsStrictlySortedBy R []
  unfolding IsStrictlySortedBy
  no_paths R = tt

  all_paths : (column : Column) (p : List ℕ) (v : Option Cell) → is_path column p ≡ true → AllByRecursion (λ q. is_path column q.path ≡ true) (cells_at (Some p) v)
  all_paths column p None e = tt
  all_paths column p (Some v) e = (e, tt)

  column_of : (row : Option MapKey) (n : ℕ) (path : Option (List ℕ)) (c : Content) → IsColumnIn columns row n path c
      → Of (kept_in row) columns (record { column = record { number = n; path = c.tag }; deletion = c.deletion; cells = cells_at path c.cell })
  column_of row n None c i = record { column = i.column; named = i.named; kind = i.kind; ascend = no_paths _; paths = tt; collection = λ d e. i.at }
  column_of row n (Some p) c i = record {
    column = i.column;
    named = i.named;
    kind = i.kind;
    ascend = paths_ascend _ p c.cell;
    paths = all_paths i.column p c.cell i.at.0;
    collection = λ d e. absurd (none-some d (sym i.at.1 ∙ e));
  }

  columns_of : (row : Option MapKey) (column : Option ℕ) (path : Option (List ℕ)) (c : Content) → IsIn columns row column path c → AllOf (kept_in row) columns (columns_at column path c)
  columns_of row None path c i = record { ascend = tt; each = tt }
  columns_of row (Some n) path c i = record { ascend = (tt, tt); each = (column_of row n path c i, tt) }

  piece_has : (row : Option MapKey) (column : Option ℕ) (path : Option (List ℕ)) (c : Content) → IsIn columns row column path c → Tabled columns (piece row column path c)
  piece_has None column path c i = columns_of None column path c i
  piece_has (Some k) column path c i = columns_of (Some k) column path c i

  pub pieces_have : (es : Entries) → AreIn columns es → AllByRecursion (Tabled columns) (map piece_of es)
  pieces_have [] all = tt
  pieces_have (e ∷ es) all = (piece_has e.0.row e.0.column e.0.path e.1 all.0, pieces_have es all.1)

  pub kept_in_table : (t : Spot × Content → Bool) (es : Entries) → AreIn columns es → AreIn columns (filter t es)
  kept_in_table t [] all = tt
  kept_in_table t (e ∷ es) all = elim (t e) as (λ b. AreIn columns (cond b (e ∷ filter t es) (filter t es))) [ true ↦ (all.0, kept_in_table t es all.1) | false ↦ kept_in_table t es all.1 ]

  joined_has : (f g : Fragment) → Twins f g → Tabled columns f → Tabled columns g → Tabled columns (joined_fragment f g)
  joined_has (fragment.Static cs) (fragment.Static ds) t h k = joined_all_of is_static columns cs ds h k
  joined_has (fragment.Row r) (fragment.Row s) t h k = joined_all_of is_regular columns r.columns s.columns h k
  joined_has (fragment.Marker cut d) (fragment.Marker other e) t h k = tt
  joined_has f g t h k = absurd t

  pub rows_have : (h : Halves) → AllByRecursion (Tabled columns) (pieces_in h) → AllByRecursion (Tabled columns) (rows_by h)
  rows_have h all = halves_each (Tabled columns) joined_has h all

  pub markers_have : (ms : List Change) → AllByRecursion (Tabled columns) (map marker ms)
  markers_have [] = tt
  markers_have (m ∷ ms) = (tt, markers_have ms)

  -- ---- merged

  raised_has : (other : Option Deletion) (f : Fragment) → Tabled columns f → Tabled columns (raised other f)
  raised_has other (fragment.Static cs) h = h
  raised_has other (fragment.Row r) h = h
  raised_has other (fragment.Marker cut d) h = tt

  all_have : (d : Draw) → Each (λ s. AllByRecursion (Tabled columns) s.fragments) d → AllByRecursion (Tabled columns) (joined_all d).fragments
  all_have nobody a = tt
  all_have (one s) a = a
  all_have (pair l r) a =
      woven_all by_place (Tabled columns) (λ s f h. raised_has s.right f h) (λ s g h. raised_has s.left g h) (λ s f g e h k. joined_has f g (twins f g e) h k) (forces None None)
      (joined_all l).fragments (joined_all r).fragments (all_have l a.0) (all_have r a.1)

  static_said : (cs : List RowColumn) (rest : List Fragment) → AreColumns is_static columns cs → AllByRecursion (IsFragment columns) rest
      → AllByRecursion (IsFragment columns) (cons_option (if_said (own (fragment.Static cs)) (fragment.Static cs)) rest)
  static_said cs rest a all =
      elim (own (fragment.Static cs)) as (λ l. own (fragment.Static cs) ≡ l → AllByRecursion (IsFragment columns) (cons_option (if_said l (fragment.Static cs)) rest)) [
        | [] ↦ λ e. all
        | x ∷ atoms ↦ λ e. ((a, subst IsThere (sym e) tt), all)
      ] refl

  row_said : (r : Row) (rest : List Fragment) → AreColumns is_regular columns r.columns → AllByRecursion (IsFragment columns) rest
      → AllByRecursion (IsFragment columns) (cons_option (if_said (own (fragment.Row r)) (fragment.Row r)) rest)
  row_said r rest a all =
      elim (own (fragment.Row r)) as (λ l. own (fragment.Row r) ≡ l → AllByRecursion (IsFragment columns) (cons_option (if_said l (fragment.Row r)) rest)) [
        | [] ↦ λ e. all
        | x ∷ atoms ↦ λ e. ((a, subst IsThere (sym e) tt), all)
      ] refl

  if_changed : (b : Bool) (cut : Cut) (d : Option Deletion) (rest : List Fragment) → AllByRecursion (IsFragment columns) rest → AllByRecursion (IsFragment columns) (cons_option (cond b None (Some (fragment.Marker cut d))) rest)
  if_changed true cut d rest all = all
  if_changed false cut d rest all = (tt, all)

  settled_fragments : (top now : Option Deletion) (fs : List Fragment) → AllByRecursion (Tabled columns) fs → AllByRecursion (IsFragment columns) (settled_from top now fs)
  settled_fragments top now [] h = tt
  settled_fragments top now (fragment.Static cs ∷ fs) h =
      static_said (bare_columns None top cs) (settled_from top now fs) (columns_left is_static columns None top cs h.0) (settled_fragments top now fs h.1)
  settled_fragments top now (fragment.Row r ∷ fs) h =
      let over : Option Deletion = greater deletion_cmp top now in
      row_said (bare_row over r) (settled_from top now fs) (columns_left is_regular columns (Some r.clustering) (greater deletion_cmp over r.deletion) r.columns h.0) (settled_fragments top now fs h.1)
  settled_fragments top now (fragment.Marker cut d ∷ fs) h = if_changed (same_force now d) cut d (settled_from top d fs) (settled_fragments top d fs h.1)

  -- ordered streams of the table's columns merge to a well-formed one, also where nothing is said of some
  pub merge_forms : (ss : List Stream) → AllByRecursion (λ s. IsOrdered (clustering_order columns) s.fragments) ss → AllByRecursion (λ s. AllByRecursion (Tabled columns) s.fragments) ss
      → WellFormed columns (merged ss).fragments
  merge_forms ss ordered tabled =
      let j : Stream = joined_all (draw ss) in
      record {
        ordered = merge_ordered (clustering_order columns) ss ordered;
        fragments = settled_fragments j.top None j.fragments (all_have (draw ss) (all_drawn (λ s. AllByRecursion (Tabled columns) s.fragments) ss tabled));
        markers = settled_differ j.top None j.fragments;
      }

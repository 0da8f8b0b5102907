-- The merge of well-formed streams is well formed.
use Rattle.std.proofs.Common.{◌≡◌, Bool, true, false, cond, Option, None, Some, List, [], ◌∷◌, refl, sym, subst}
use Rattle.std.specs.List.{AllByRecursion, cons_option}
use Rattle.cas_types.specs.Schemas.{is_static, is_regular}
use Rattle.cas_types.specs.declared.schema.Column.{Column}
use Rattle.cas_cell.specs.Deletions.{deletion_cmp}
use Rattle.cas_cell.specs.declared.deletion.Deletion.{Deletion}
use Rattle.cas_bounds.specs.declared.cuts.Cut.{Cut}
use Rattle.cas_bounds.specs.ClusteringOrder.{clustering_order}
use Rattle.cas_atoms.specs.Greatest.{greater}
use Rattle.cas_atoms.specs.declared.row.Row.{Row}
use Rattle.cas_atoms.specs.declared.row.RowColumn.{RowColumn}
use Rattle.cas_streams.specs.Flat.{own}
use Rattle.cas_streams.specs.Streams.{IsOrdered, IsThere, AreColumns, IsFragment, WellFormed}
use Rattle.cas_streams.specs.Joined.{Stream, raised, joined_fragment, by_place}
use Rattle.cas_streams.specs.Settled.{if_said, bare_columns, bare_row, same_force, settled_from}
use Rattle.cas_streams.specs.Merged.{Draw, nobody, one, pair, draw, joined_all}
use Rattle.cas_streams.specs.Laws.{MergeIsWellFormed}
use Rattle.cas_streams.specs.declared.fragment.Fragment.{Fragment}
use Rattle.cas_streams.specs.declared.fragment.Fragment.TheVariants as fragment
use Rattle.cas_streams.proofs.Weaves.{woven_all, all_so}
use Rattle.cas_streams.proofs.Twins.{Twins, twins}
use Rattle.cas_streams.proofs.Forces.{forces}
use Rattle.cas_streams.proofs.Columns.{AllOf, columns_of, joined_all_of, columns_left}
use Rattle.cas_streams.proofs.Settling.{settled_differ}
use Rattle.cas_streams.proofs.Merges.{Each, all_drawn, merge_ordered}

module _ (columns : List Column) where
  -- the columns of a fragment are the table's, whether or not something is said of them
  abbrev pub Tabled : Fragment → Type 0
  Tabled (fragment.Static cs) = AllOf is_static columns cs
  Tabled (fragment.Row r) = AllOf is_regular columns r.columns
  Tabled (fragment.Marker cut d) = Unit {0}

  has_columns : (f : Fragment) → IsFragment columns f → Tabled f
  has_columns (fragment.Static cs) i = columns_of is_static columns cs i.0
  has_columns (fragment.Row r) i = columns_of is_regular columns r.columns i.0
  has_columns (fragment.Marker cut d) i = tt

  raised_has : (other : Option Deletion) (f : Fragment) → Tabled f → Tabled (raised other f)
  raised_has other (fragment.Static cs) h = h
  raised_has other (fragment.Row r) h = h
  raised_has other (fragment.Marker cut d) h = tt

  joined_has : (f g : Fragment) → Twins f g → Tabled f → Tabled g → Tabled (joined_fragment f g)
  joined_has (fragment.Static cs) (fragment.Static ds) t h k = joined_all_of is_static columns cs ds h k
  joined_has (fragment.Row r) (fragment.Row s) t h k = joined_all_of is_regular columns r.columns s.columns h k
  joined_has (fragment.Marker cut d) (fragment.Marker other e) t h k = tt
  joined_has f g t h k = absurd t

  all_has : (d : Draw) → Each (λ s. AllByRecursion Tabled s.fragments) d → AllByRecursion Tabled (joined_all d).fragments
  all_has nobody a = tt
  all_has (one s) a = a
  all_has (pair l r) a =
      woven_all by_place Tabled (λ s f h. raised_has s.right f h) (λ s g h. raised_has s.left g h) (λ s f g e h k. joined_has f g (twins f g e) h k) (forces None None)
      (joined_all l).fragments (joined_all r).fragments (all_has l a.0) (all_has r a.1)

  static_said : (cs : List RowColumn) (rest : List Fragment) → AreColumns is_static columns cs → AllByRecursion (IsFragment columns) rest
      → AllByRecursion (IsFragment columns) (cons_option (if_said (own (fragment.Static cs)) (fragment.Static cs)) rest)
  static_said cs rest a all =
      elim (own (fragment.Static cs)) as (λ l. own (fragment.Static cs) ≡ l → AllByRecursion (IsFragment columns) (cons_option (if_said l (fragment.Static cs)) rest)) [
        | [] ↦ λ e. all
        | x ∷ atoms ↦ λ e. ((a, subst IsThere (sym e) tt), all)
      ] refl

  row_said : (r : Row) (rest : List Fragment) → AreColumns is_regular columns r.columns → AllByRecursion (IsFragment columns) rest
      → AllByRecursion (IsFragment columns) (cons_option (if_said (own (fragment.Row r)) (fragment.Row r)) rest)
  row_said r rest a all =
      elim (own (fragment.Row r)) as (λ l. own (fragment.Row r) ≡ l → AllByRecursion (IsFragment columns) (cons_option (if_said l (fragment.Row r)) rest)) [
        | [] ↦ λ e. all
        | x ∷ atoms ↦ λ e. ((a, subst IsThere (sym e) tt), all)
      ] refl

  marked : (b : Bool) (cut : Cut) (d : Option Deletion) (rest : List Fragment) → AllByRecursion (IsFragment columns) rest → AllByRecursion (IsFragment columns) (cons_option (cond b None (Some (fragment.Marker cut d))) rest)
  marked true cut d rest all = all
  marked false cut d rest all = (tt, all)

  settled_fragments : (top now : Option Deletion) (fs : List Fragment) → AllByRecursion Tabled fs → AllByRecursion (IsFragment columns) (settled_from top now fs)
  settled_fragments top now [] h = tt
  settled_fragments top now (fragment.Static cs ∷ fs) h =
      static_said (bare_columns None top cs) (settled_from top now fs) (columns_left is_static columns None top cs h.0) (settled_fragments top now fs h.1)
  settled_fragments top now (fragment.Row r ∷ fs) h =
      let over : Option Deletion = greater deletion_cmp top now in
      row_said (bare_row over r) (settled_from top now fs) (columns_left is_regular columns (Some r.clustering) (greater deletion_cmp over r.deletion) r.columns h.0) (settled_fragments top now fs h.1)
  settled_fragments top now (fragment.Marker cut d ∷ fs) h = marked (same_force now d) cut d (settled_from top d fs) (settled_fragments top d fs h.1)

pub merge_is_well_formed : MergeIsWellFormed
merge_is_well_formed columns ss all =
    let j : Stream = joined_all (draw ss) in
    record {
      ordered = merge_ordered (clustering_order columns) ss (all_so (λ s. WellFormed columns s.fragments) (λ s. IsOrdered (clustering_order columns) s.fragments) (λ s w. w.ordered) ss all);
      fragments = settled_fragments columns j.top None j.fragments
          (all_has columns (draw ss) (all_drawn (λ s. AllByRecursion (Tabled columns) s.fragments) ss
          (all_so (λ s. WellFormed columns s.fragments) (λ s. AllByRecursion (Tabled columns) s.fragments) (λ s w. all_so (IsFragment columns) (Tabled columns) (has_columns columns) s.fragments w.fragments) ss all)));
      markers = settled_differ j.top None j.fragments;
    }

-- Columns behind those of a table: the table's own keep their numbers, and its rows their order.
use Rattle.std.proofs.Common.{◌≡◌, ℕ, zero, suc, false, List, [], ◌∷◌, ◌++◌, None, Some, refl, sym, ap, subst, ◌∙◌}
use Rattle.std.specs.Prelude.{slice_get}
use Rattle.std.specs.List.{filter_map}
use Rattle.std.proofs.lemmas.List.{append-nil}
use Rattle.std.proofs.lemmas.List.Elements.{filter_map-append}
use Rattle.cas_types.specs.Schemas.{is_key}
use Rattle.cas_types.specs.declared.schema.Column.{Column}
use Rattle.cas_types.specs.declared.schema.Kind.{Kind}
use Rattle.cas_types.specs.declared.schema.Kind.TheVariants.{Partition, Ascending, Descending, Static, Regular}
use Rattle.cas_bounds.specs.ClusteringOrder.{ordered_by, clustering_order}
use Rattle.cas_bounds.specs.declared.cuts.Clustering.{Clustering}
use Rattle.cas_bounds.specs.declared.cuts.Cut.{Cut}
use Rattle.cas_bounds.specs.declared.order.Ordered.{Ordered}
use Rattle.cas_atoms.specs.Fits.{FitsClustering, FitsCut, FitsRange, Names}
use Rattle.cas_atoms.specs.declared.atom.ColumnRef.{ColumnRef}
use Rattle.cas_widened.specs.Laws.{AreAdded}

-- what stands at a place of a list stands there whatever is added behind it
still_there : {X : Type 0} (xs ys : List X) (i : ℕ) (x : X) → slice_get xs i ≡ Some x → slice_get (xs ++ ys) i ≡ Some x
still_there [] ys i x is = absurd cc
still_there (y ∷ xs) ys zero x is = is
still_there (y ∷ xs) ys (suc i) x is = still_there xs ys i x is

not_ordered : (c : Column) (k : Kind) → c.kind ≡ k → is_key c.kind ≡ false → ordered_by c ≡ None
not_ordered c Partition is bare = absurd cc
not_ordered c Ascending is bare = absurd cc
not_ordered c Descending is bare = absurd cc
not_ordered c Static is bare = rw is refl
not_ordered c Regular is bare = rw is refl

none_ordered : (columns : List Column) → AreAdded columns → filter_map ordered_by columns ≡ []
none_ordered [] added = refl
none_ordered (c ∷ columns) added =
    let first : ordered_by c ≡ None = not_ordered c c.kind refl added.0 in rw first (none_ordered columns added.1)

module _ (columns more : List Column) (added : AreAdded more) where
  pub same_order : clustering_order (columns ++ more) ≡ clustering_order columns
  unfolding clustering_order
  same_order =
      filter_map-append ordered_by columns more ∙ ap (λ (l : List Ordered). filter_map ordered_by columns ++ l) (none_ordered more added)
      ∙ append-nil (filter_map ordered_by columns)

  -- what is so of the order is so of that with the added columns
  pub ordered_still : (P : List Ordered → Type 0) → P (clustering_order columns) → P (clustering_order (columns ++ more))
  ordered_still P so = subst P (sym same_order) so

  pub clustering_fits : (c : Clustering) → FitsClustering (clustering_order columns) c → FitsClustering (clustering_order (columns ++ more)) c
  clustering_fits c fits = ordered_still (λ o. FitsClustering o c) fits

  pub cut_fits : (c : Cut) → FitsCut (clustering_order columns) c → FitsCut (clustering_order (columns ++ more)) c
  cut_fits c fits = ordered_still (λ o. FitsCut o c) fits

  pub range_fits : (lo hi : Cut) → FitsRange (clustering_order columns) lo hi → FitsRange (clustering_order (columns ++ more)) lo hi
  range_fits lo hi fits = ordered_still (λ o. FitsRange o lo hi) fits

-- a reference to a column of the table is one to the same column
pub names_still : (columns more : List Column) (ref : ColumnRef) (column : Column) → Names columns ref column → Names (columns ++ more) ref column
names_still columns more ref column names = record { there = still_there columns more ref.number column names.there; path = names.path }

-- A mutation that fits goes on fitting while tables are added, and columns behind those of a table.
use Rattle.std.proofs.Common.{◌≡◌, ℕ, zero, suc, Bool, true, false, cond, List, [], ◌∷◌, ◌++◌, map, Option, None, Some, refl, sym, ap, subst, ◌∙◌}
use Rattle.std.specs.Prelude.{◌&&◌, ◌||◌, not, slice_get, eqb}
use Rattle.std.specs.List.{All, AllByRecursion, filter_map}
use Rattle.std.proofs.lemmas.List.{append-nil}
use Rattle.std.specs.Option.{option_map}
use Rattle.std.proofs.lemmas.List.Elements.{filter_map-append, All-from_recursion, recursion_from_All}
use Rattle.std.proofs.lemmas.Option.{slice_get-map}
use Rattle.cas_types.specs.Schemas.{is_key}
use Rattle.cas_types.specs.declared.schema.Column.{Column}
use Rattle.cas_types.specs.declared.schema.Kind.{Kind}
use Rattle.cas_types.specs.declared.schema.Kind.TheVariants.{Partition, Ascending, Descending, Static, Regular}
use Rattle.cas_types.specs.declared.schema.TableSchema.{TableSchema}
use Rattle.cas_bounds.specs.ClusteringOrder.{ordered_by, clustering_order}
use Rattle.cas_bounds.specs.declared.order.Ordered.{Ordered}
use Rattle.cas_bounds.specs.declared.cuts.Clustering.{Clustering}
use Rattle.cas_bounds.specs.declared.cuts.Cut.{Cut}
use Rattle.cas_atoms.specs.declared.atom.Atom.{Atom}
use Rattle.cas_atoms.specs.declared.atom.Atom.TheVariants as atom
use Rattle.cas_atoms.specs.declared.atom.ColumnRef.{ColumnRef}
use Rattle.cas_atoms.specs.declared.atom.Mutation.{Mutation}
use Rattle.cas_atoms.specs.Fits.{Fits, FitsMutation, FitsWrite, FitsEmptied, FitsClustering, FitsRange, Names}
use Rattle.cas_mutations.specs.Allowed.{FitsRecord}
use Rattle.cas_schemas.specs.Each.{EachFits}
use Rattle.cas_schemas.specs.Columns.{FitsColumn, FitColumns, comes_after}
use Rattle.cas_changes.specs.declared.entry.Entry.{Entry}
use Rattle.cas_changes.specs.declared.entry.Entry.TheVariants as entry
use Rattle.cas_changes.specs.Saying.{Saying, after, with_columns}
use Rattle.cas_changes.specs.Allowed.{FitsEntry}
use Rattle.cas_journal.proofs.Lists.{all_mapped}

-- ---- places

pub still_there : {X : Type 0} (xs ys : List X) (i : ℕ) (x : X) → slice_get xs i ≡ Some x → slice_get (xs ++ ys) i ≡ Some x
still_there [] ys i x is = absurd cc
still_there (y ∷ xs) ys zero x is = is
still_there (y ∷ xs) ys (suc i) x is = still_there xs ys i x is

-- ---- columns behind those of a table

-- none of them is of the key
abbrev pub NoKeys : List Column → Type 0
NoKeys columns = AllByRecursion (λ c. is_key c.kind ≡ false) columns

no_key : (before : List Column) (k : Kind) (b : Bool) → comes_after before k ≡ b → (b && (false || not (is_key k))) ≡ true → is_key k ≡ false
no_key before Partition true e stands = absurd cc
no_key before Ascending true e stands = absurd cc
no_key before Descending true e stands = absurd cc
no_key before Static true e stands = refl
no_key before Regular true e stands = refl
no_key before k false e stands = absurd cc

pub no_keys : (before columns : List Column) → EachFits (FitsColumn false) before columns → NoKeys columns
no_keys before [] fit = tt
no_keys before (c ∷ columns) fit = (no_key before c.kind (comes_after before c.kind) refl fit.0.kind, no_keys (before ++ c ∷ []) columns fit.1)

not_ordered : (c : Column) → is_key c.kind ≡ false → ordered_by c ≡ None
not_ordered c bare = by_kind c c.kind refl bare
  where
    by_kind : (c : Column) (k : Kind) → c.kind ≡ k → is_key c.kind ≡ false → ordered_by c ≡ None
    by_kind c Partition is bare = absurd cc
    by_kind c Ascending is bare = absurd cc
    by_kind c Descending is bare = absurd cc
    by_kind c Static is bare = rw is refl
    by_kind c Regular is bare = rw is refl

none_ordered : (columns : List Column) → NoKeys columns → filter_map ordered_by columns ≡ []
none_ordered [] bare = refl
none_ordered (c ∷ columns) bare = let first : ordered_by c ≡ None = not_ordered c bare.0 in rw first (none_ordered columns bare.1)

pub same_order : (columns more : List Column) → NoKeys more → clustering_order (columns ++ more) ≡ clustering_order columns
unfolding clustering_order
same_order columns more bare =
    filter_map-append ordered_by columns more ∙ ap (λ (l : List Ordered). filter_map ordered_by columns ++ l) (none_ordered more bare) ∙ append-nil (filter_map ordered_by columns)

module _ (columns more : List Column) (bare : NoKeys more) where
  abbrev grown : List Column
  grown = columns ++ more

  clustering_fits : (c : Clustering) → FitsClustering (clustering_order columns) c → FitsClustering (clustering_order grown) c
  clustering_fits c fits = subst (λ (o : List Ordered). FitsClustering o c) (sym (same_order columns more bare)) fits

  range_fits : (lo hi : Cut) → FitsRange (clustering_order columns) lo hi → FitsRange (clustering_order grown) lo hi
  range_fits lo hi fits = subst (λ (o : List Ordered). FitsRange o lo hi) (sym (same_order columns more bare)) fits

  names_still : (ref : ColumnRef) (column : Column) → Names columns ref column → Names grown ref column
  names_still ref column names = record { there = still_there columns more ref.number column names.there; path = names.path }

  write_fits : (is_of : Kind → Bool) (ref : ColumnRef) (p : List ℕ) (v : _) → FitsWrite is_of columns ref p v → FitsWrite is_of grown ref p v
  write_fits is_of ref p v fits =
      record { column = fits.column; named = names_still ref fits.column fits.named; kind = fits.kind; path = fits.path; cell = fits.cell }

  emptied_fits : (is_of : Kind → Bool) (ref : ColumnRef) → FitsEmptied is_of columns ref → FitsEmptied is_of grown ref
  emptied_fits is_of ref fits =
      record { column = fits.column; named = names_still ref fits.column fits.named; kind = fits.kind; collection = fits.collection }

  pub atom_fits : (a : Atom) → Fits columns a → Fits grown a
  atom_fits (atom.PartitionDeletion d) fits = fits
  atom_fits (atom.RangeDeletion lo hi d) fits = (range_fits lo hi fits.0, fits.1)
  atom_fits (atom.RowDeletion c d) fits = (clustering_fits c fits.0, fits.1)
  atom_fits (atom.CollectionDeletion c ref d) fits = (clustering_fits c fits.0, emptied_fits _ ref fits.1, fits.2)
  atom_fits (atom.Live c l) fits = (clustering_fits c fits.0, fits.1)
  atom_fits (atom.Write c ref p v) fits = (clustering_fits c fits.0, write_fits _ ref p v fits.1)
  atom_fits (atom.StaticWrite ref p v) fits = write_fits _ ref p v fits
  atom_fits (atom.StaticCollectionDeletion ref d) fits = (emptied_fits _ ref fits.0, fits.1)

  pub atoms_fit : (atoms : List Atom) → All (Fits columns) atoms → All (Fits grown) atoms
  atoms_fit atoms all =
      All-from_recursion (Fits grown) atoms (all_mapped (Fits columns) (Fits grown) atom_fits atoms (recursion_from_All (Fits columns) atoms all))

-- ---- mutations

module _ (number : ℕ) (more : List Column) (bare : NoKeys more) (shards : ℕ) (m : Mutation) where
  with_more : (t : TableSchema) (b : Bool) → FitsMutation t shards m → FitsMutation (cond b (record t { columns = t.columns ++ more }) t) shards m
  with_more t true fits = record {
    of_table = fits.of_table;
    shard = fits.shard;
    number = fits.number;
    stamp = fits.stamp;
    moment = fits.moment;
    key = fits.key;
    atoms = atoms_fit t.columns more bare m.atoms fits.atoms;
  }
  with_more t false fits = fits

  pub columns_fit : (tables : List TableSchema) → FitsRecord tables shards m → FitsRecord (map (with_columns number more) tables) shards m
  columns_fit tables fits = record {
    table = with_columns number more fits.table;
    there = slice_get-map (with_columns number more) tables m.table ∙ ap (λ (o : Option TableSchema). option_map (with_columns number more) o) fits.there;
    fits = with_more fits.table (eqb fits.table.number number) fits.fits;
    spelled = fits.spelled;
  }

pub table_fits : (tables : List TableSchema) (t : TableSchema) (shards : ℕ) (m : Mutation) → FitsRecord tables shards m → FitsRecord (tables ++ t ∷ []) shards m
table_fits tables t shards m fits = record { table = fits.table; there = still_there tables (t ∷ []) m.table fits.table fits.there; fits = fits.fits; spelled = fits.spelled }

-- ---- entries that the journal appends

-- a definition, a change of table files, or the name of a segment
abbrev pub IsAppended : Entry → Type 0
IsAppended (entry.Schema t) = Unit {0}
IsAppended (entry.AddColumns table columns) = Unit {0}
IsAppended (entry.NewSegment n) = Unit {0}
IsAppended (entry.Change c) = Unit {0}
IsAppended _ = ⊥

keys_of : (t : TableSchema) (limit : ℕ) (columns : List Column) → FitColumns limit false t.columns columns → NoKeys columns
keys_of t limit columns fit = no_keys t.columns columns fit.2

pub goes_on_fitting : (s : Saying) (e : Entry) → IsAppended e → FitsEntry s e → (m : Mutation) → FitsRecord s.tables s.shards m → FitsRecord (after s e).tables (after s e).shards m
goes_on_fitting s (entry.Schema t) is may m fits = table_fits s.tables t s.shards m fits
goes_on_fitting s (entry.AddColumns table columns) is may m fits =
    columns_fit table columns (keys_of may.1 _ columns may.3) s.shards m s.tables fits
goes_on_fitting s (entry.NewSegment n) is may m fits = fits
goes_on_fitting s (entry.Store shards) is may m fits = absurd is
goes_on_fitting s (entry.DropSegment n) is may m fits = absurd is
goes_on_fitting s (entry.Change c) is may m fits = fits

-- Atoms are read exactly.
use Rattle.std.proofs.Common.{◌≡◌, ℕ, zero, suc, ◌<◌, ◌≤◌, ◌+◌, ◌^◌, leb, Bool, true, false, not, List, [], ◌∷◌, ◌++◌, length, take, Ok, refl, ap, subst, ◌∙◌, arith}
use Rattle.std.specs.Int.{is_in_range}
use Rattle.std.specs.List.{AllByRecursion}
use Rattle.std.specs.Ordering.{is_lt}
use Rattle.std.proofs.lemmas.Bool.{leb-true, and_parts, and_from}
use Rattle.std.proofs.lemmas.Option.{slice_get_within}
use Rattle.std.specs.declared.cmp.Ordering.{Ordering}
use Rattle.std.specs.declared.cmp.Ordering.TheVariants.{Less, Equal, Greater}
use Rattle.cas_types.specs.Limits.{IsNarrow}
use Rattle.cas_types.specs.Schemas.{is_regular, is_static, is_plain}
use Rattle.cas_types.specs.declared.limits.TheConstants.{COLUMN_LIMIT}
use Rattle.cas_types.specs.declared.schema.Kind.{Kind}
use Rattle.cas_types.specs.declared.schema.Column.{Column}
use Rattle.cas_codec.specs.Reading.{Left, checked, u8_at}
use Rattle.cas_codec.specs.Fields.{u8, u16, bytes16}
use Rattle.cas_codec.specs.Exact.{AreBytes, Begins, IsExact}
use Rattle.cas_codec.proofs.Exactness.{read_left, exact_then, exact_checked, exact_map}
use Rattle.cas_codec.proofs.FieldLaws.{u8_field}
use Rattle.cas_codec.proofs.Sequences.{exact_two, exact_three, exact_four}
use Rattle.cas_bounds.specs.ClusteringOrder.{clustering_order}
use Rattle.cas_bounds.specs.Cuts.{cut_cmp}
use Rattle.cas_bounds.specs.declared.order.Ordered.{Ordered}
use Rattle.cas_bounds.specs.declared.cuts.Clustering.{Clustering}
use Rattle.cas_bounds.specs.declared.cuts.Cut.{Cut}
use Rattle.cas_cell.specs.declared.deletion.Deletion.{Deletion}
use Rattle.cas_cell.specs.declared.liveness.Liveness.{Liveness}
use Rattle.cas_cell.specs.declared.cell.Cell.{Cell}
use Rattle.cas_cell.specs.declared.cell.Cell.TheVariants as cell
use Rattle.cas_cell.specs.Cells.{cell_value}
use Rattle.cas_atoms.specs.declared.atom.ColumnRef.{ColumnRef}
use Rattle.cas_atoms.specs.declared.atom.Atom.{Atom}
use Rattle.cas_atoms.specs.declared.atom.Atom.TheVariants.{PartitionDeletion, RangeDeletion, RowDeletion, CollectionDeletion, Live, Write, StaticWrite, StaticCollectionDeletion}
use Rattle.cas_atoms.specs.Fits.{FitsDeletion, FitsLive, FitsValues, FitsClustering, FitsCut, FitsRange, FitsPath, FitsCell, FitsWrite, FitsEmptied, Names, is_cell_value}
use Rattle.cas_records.specs.declared.columns.Wanted.{Wanted}
use Rattle.cas_records.specs.declared.columns.Wanted.TheVariants.{Regular, Static, RegularCollection, StaticCollection}
use Rattle.cas_records.specs.Spelling.{deletion_bytes, live_bytes, cell_bytes, clustering_bytes, cut_bytes}
use Rattle.cas_records.specs.Reading.{deletion_at, live_at, may_hold, cell_at, clustering_at, cut_at}
use Rattle.cas_records.specs.Columns.{is_wanted, column_at, path_at}
use Rattle.cas_records.specs.Allowed.{FitsCellOf, IsNamed}
use Rattle.cas_records.proofs.CellLaws.{deletion_exact, live_exact, cell_exact}
use Rattle.cas_records.proofs.BoundLaws.{clustering_exact, cut_exact, values_count}
use Rattle.cas_records.proofs.ColumnLaws.{column_exact, path_exact}
use Rattle.cas_mutations.specs.Spelling.{atom_bytes}
use Rattle.cas_mutations.specs.Allowed.{AreShort, FitsAtom}
use Rattle.cas_mutations.specs.Reading.{partition_deletion_at, above_at, range_deletion_at, row_deletion_at, collection_deletion_at, live_atom_at, write_at, static_write_at, static_collection_deletion_at, tagged_at, atom_at}

-- ---- what has room in its field

short_values : (order : List Ordered) (vs : List (List ℕ)) → FitsValues order vs → AllByRecursion (λ v. length v < 2 ^ 16) vs
short_values [] [] fit = tt
short_values [] (v ∷ vs) fit = absurd fit
short_values (o ∷ os) [] fit = absurd fit
short_values (o ∷ os) (v ∷ vs) fit = (fit.0.0, short_values os vs fit.1)

pub clustering_short : (order : List Ordered) (c : Clustering) → FitsClustering order c → AreShort c.values
clustering_short order c fit =
    let count : length c.values ≡ length order = values_count order c.values fit.1 in
    let few : length order < 2 ^ 8 = fit.2 in
    (omega arith, short_values order c.values fit.1)

pub cut_short : (order : List Ordered) (c : Cut) → FitsCut order c → AreShort c.prefix
cut_short order c fit = (fit.3, short_values (take (length c.prefix) order) c.prefix fit.1)

-- ---- columns and cells

abbrev IsPart : Wanted → List Column → ColumnRef × Column → Type 0
IsPart wanted columns p = IsNamed wanted columns p

few_columns : (columns : List Column) (ref : ColumnRef) (column : Column) → IsNarrow columns → Names columns ref column → ref.number < 2 ^ 16
few_columns columns ref column narrow named =
    let within = slice_get_within columns ref.number column named.there in
    let most : length columns ≤ COLUMN_LIMIT = narrow in
    omega arith

cell_of_exact : (column : Column) → IsExact (FitsCellOf column) cell_bytes (cell_at (may_hold column))
unfolding is_cell_value may_hold
cell_of_exact column = cell_exact (is_cell_value column)

not_plain : (b : Bool) → not b ≡ true → b ≡ false
not_plain true e = absurd cc
not_plain false e = refl

plain_not : (b : Bool) → b ≡ false → not b ≡ true
plain_not true e = absurd cc
plain_not false e = refl

-- a cell whose value is short, and is as it has to be
cell_both : (column : Column) (v : Cell) → FitsCellOf column v → FitsCell (λ bytes. is_cell_value column bytes ≡ true) v × (length (cell_value v) < 2 ^ 32)
cell_both column (cell.Plain at value) fit = ((fit.0, fit.1.1), fit.1.0)
cell_both column (cell.Expiring at expiry ttl value) fit = ((fit.0, fit.1, fit.2, fit.3.1), fit.3.0)
cell_both column (cell.Tombstone at second) fit = (fit, omega arith)

both_cell : (column : Column) (v : Cell) → FitsCell (λ bytes. is_cell_value column bytes ≡ true) v → length (cell_value v) < 2 ^ 32 → FitsCellOf column v
both_cell column (cell.Plain at value) fit short = (fit.0, (short, fit.1))
both_cell column (cell.Expiring at expiry ttl value) fit short = (fit.0, fit.1, fit.2, (short, fit.3))
both_cell column (cell.Tombstone at second) fit short = fit

-- ---- what follows each tag

abbrev atom_tag : Atom → ℕ
atom_tag (PartitionDeletion d) = 1
atom_tag (RangeDeletion lo hi d) = 2
atom_tag (RowDeletion c d) = 3
atom_tag (CollectionDeletion c column d) = 4
atom_tag (Live c l) = 5
atom_tag (Write c column p v) = 6
atom_tag (StaticWrite column p v) = 7
atom_tag (StaticCollectionDeletion column d) = 8

abbrev atom_tail : Atom → List ℕ
atom_tail (PartitionDeletion d) = deletion_bytes d
atom_tail (RangeDeletion lo hi d) = cut_bytes lo ++ (cut_bytes hi ++ deletion_bytes d)
atom_tail (RowDeletion c d) = clustering_bytes c ++ deletion_bytes d
atom_tail (CollectionDeletion c column d) = clustering_bytes c ++ (u16 column.number ++ deletion_bytes d)
atom_tail (Live c l) = clustering_bytes c ++ live_bytes l
atom_tail (Write c column p v) = clustering_bytes c ++ (u16 column.number ++ (bytes16 p ++ cell_bytes v))
atom_tail (StaticWrite column p v) = u16 column.number ++ (bytes16 p ++ cell_bytes v)
atom_tail (StaticCollectionDeletion column d) = u16 column.number ++ deletion_bytes d

abbrev IsPartitionDeletion : Atom → Type 0
IsPartitionDeletion a = (d : Deletion) × FitsDeletion d × (PartitionDeletion d ≡ a)

partition_deletion_exact : IsExact IsPartitionDeletion atom_tail partition_deletion_at
unfolding partition_deletion_at
partition_deletion_exact =
    exact_map FitsDeletion deletion_bytes deletion_at IsPartitionDeletion atom_tail (λ d. PartitionDeletion d) deletion_exact
    (λ d fit. ((d, fit, refl), refl)) (λ a fit. fit)

abbrev IsAbove : List Ordered → Cut → Cut → Type 0
IsAbove order lo hi = FitsCut order hi × (is_lt (cut_cmp lo hi) ≡ true)

above_exact : (order : List Ordered) (lo : Cut) → IsExact (IsAbove order lo) cut_bytes (above_at order lo)
unfolding above_at
above_exact order lo = exact_checked (FitsCut order) cut_bytes (cut_at order) (λ hi. is_lt (cut_cmp lo hi)) (cut_exact order)

abbrev IsRangeDeletion : List Ordered → Atom → Type 0
IsRangeDeletion order a = (lo : Cut) × (hi : Cut) × (d : Deletion) × FitsCut order lo × IsAbove order lo hi × FitsDeletion d × (RangeDeletion lo hi d ≡ a)

range_deletion_exact : (order : List Ordered) → IsExact (IsRangeDeletion order) atom_tail (range_deletion_at order)
unfolding range_deletion_at
range_deletion_exact order =
    exact_three (FitsCut order) cut_bytes (cut_at order) (λ lo hi. IsAbove order lo hi) cut_bytes (λ lo. above_at order lo) (λ lo hi d. FitsDeletion d) deletion_bytes
    (λ lo hi. deletion_at) (IsRangeDeletion order) atom_tail (λ lo hi d. RangeDeletion lo hi d)
    (cut_exact order) (λ lo fit. above_exact order lo) (λ lo hi fit-lo fit-hi. deletion_exact)
    (λ lo hi d fit-lo fit-hi fit-d. ((lo, hi, d, fit-lo, fit-hi, fit-d, refl), refl)) (λ a fit. fit)

abbrev IsRowDeletion : List Ordered → Atom → Type 0
IsRowDeletion order a = (c : Clustering) × (d : Deletion) × FitsClustering order c × FitsDeletion d × (RowDeletion c d ≡ a)

row_deletion_exact : (order : List Ordered) → IsExact (IsRowDeletion order) atom_tail (row_deletion_at order)
unfolding row_deletion_at
row_deletion_exact order =
    exact_two (FitsClustering order) clustering_bytes (clustering_at order) (λ c d. FitsDeletion d) deletion_bytes (λ c. deletion_at) (IsRowDeletion order) atom_tail
    (λ c d. RowDeletion c d) (clustering_exact order) (λ c fit. deletion_exact)
    (λ c d fit-c fit-d. ((c, d, fit-c, fit-d, refl), refl)) (λ a fit. fit)

abbrev IsCollectionDeletion : List Ordered → List Column → Atom → Type 0
IsCollectionDeletion order columns a =
    (c : Clustering) × (p : ColumnRef × Column) × (d : Deletion) × FitsClustering order c × IsPart RegularCollection columns p × FitsDeletion d × (CollectionDeletion c p.0 d ≡ a)

collection_deletion_exact : (order : List Ordered) (columns : List Column) → IsExact (IsCollectionDeletion order columns) atom_tail (collection_deletion_at order columns)
unfolding collection_deletion_at
collection_deletion_exact order columns =
    exact_three (FitsClustering order) clustering_bytes (clustering_at order) (λ c p. IsPart RegularCollection columns p) (λ p. u16 p.0.number)
    (λ c. column_at RegularCollection columns) (λ c p d. FitsDeletion d) deletion_bytes (λ c p. deletion_at) (IsCollectionDeletion order columns) atom_tail
    (λ c p d. CollectionDeletion c p.0 d)
    (clustering_exact order) (λ c fit. column_exact RegularCollection columns) (λ c p fit-c fit-p. deletion_exact)
    (λ c p d fit-c fit-p fit-d. ((c, p, d, fit-c, fit-p, fit-d, refl), refl)) (λ a fit. fit)

abbrev IsLiveAtom : List Ordered → Atom → Type 0
IsLiveAtom order a = (c : Clustering) × (l : Liveness) × FitsClustering order c × FitsLive l × (Live c l ≡ a)

live_atom_exact : (order : List Ordered) → IsExact (IsLiveAtom order) atom_tail (live_atom_at order)
unfolding live_atom_at
live_atom_exact order =
    exact_two (FitsClustering order) clustering_bytes (clustering_at order) (λ c l. FitsLive l) live_bytes (λ c. live_at) (IsLiveAtom order) atom_tail
    (λ c l. Live c l) (clustering_exact order) (λ c fit. live_exact)
    (λ c l fit-c fit-l. ((c, l, fit-c, fit-l, refl), refl)) (λ a fit. fit)

abbrev IsWriteAtom : List Ordered → List Column → Atom → Type 0
IsWriteAtom order columns a =
    (c : Clustering) × (p : ColumnRef × Column) × (path : List ℕ) × (v : Cell) × FitsClustering order c × IsPart Regular columns p × FitsPath p.1 path × FitsCellOf p.1 v
    × (Write c p.0 path v ≡ a)

write_exact : (order : List Ordered) (columns : List Column) → IsExact (IsWriteAtom order columns) atom_tail (write_at order columns)
unfolding write_at
write_exact order columns =
    exact_four (FitsClustering order) clustering_bytes (clustering_at order) (λ c p. IsPart Regular columns p) (λ p. u16 p.0.number) (λ c. column_at Regular columns)
    (λ c p path. FitsPath p.1 path) bytes16 (λ c p. path_at p.1) (λ c p path v. FitsCellOf p.1 v) cell_bytes (λ c p path. cell_at (may_hold p.1))
    (IsWriteAtom order columns) atom_tail (λ c p path v. Write c p.0 path v)
    (clustering_exact order) (λ c fit. column_exact Regular columns) (λ c p fit-c fit-p. path_exact p.1) (λ c p path fit-c fit-p fit-path. cell_of_exact p.1)
    (λ c p path v fit-c fit-p fit-path fit-v. ((c, p, path, v, fit-c, fit-p, fit-path, fit-v, refl), refl)) (λ a fit. fit)

abbrev IsStaticWrite : List Column → Atom → Type 0
IsStaticWrite columns a =
    (p : ColumnRef × Column) × (path : List ℕ) × (v : Cell) × IsPart Static columns p × FitsPath p.1 path × FitsCellOf p.1 v × (StaticWrite p.0 path v ≡ a)

static_write_exact : (columns : List Column) → IsExact (IsStaticWrite columns) atom_tail (static_write_at columns)
unfolding static_write_at
static_write_exact columns =
    exact_three (IsPart Static columns) (λ p. u16 p.0.number) (column_at Static columns) (λ p path. FitsPath p.1 path) bytes16 (λ p. path_at p.1)
    (λ p path v. FitsCellOf p.1 v) cell_bytes (λ p path. cell_at (may_hold p.1)) (IsStaticWrite columns) atom_tail (λ p path v. StaticWrite p.0 path v)
    (column_exact Static columns) (λ p fit. path_exact p.1) (λ p path fit-p fit-path. cell_of_exact p.1)
    (λ p path v fit-p fit-path fit-v. ((p, path, v, fit-p, fit-path, fit-v, refl), refl)) (λ a fit. fit)

abbrev IsStaticCollectionDeletion : List Column → Atom → Type 0
IsStaticCollectionDeletion columns a = (p : ColumnRef × Column) × (d : Deletion) × IsPart StaticCollection columns p × FitsDeletion d × (StaticCollectionDeletion p.0 d ≡ a)

static_collection_deletion_exact : (columns : List Column) → IsExact (IsStaticCollectionDeletion columns) atom_tail (static_collection_deletion_at columns)
unfolding static_collection_deletion_at
static_collection_deletion_exact columns =
    exact_two (IsPart StaticCollection columns) (λ p. u16 p.0.number) (column_at StaticCollection columns) (λ p d. FitsDeletion d) deletion_bytes (λ p. deletion_at)
    (IsStaticCollectionDeletion columns) atom_tail (λ p d. StaticCollectionDeletion p.0 d)
    (column_exact StaticCollection columns) (λ p fit. deletion_exact)
    (λ p d fit-p fit-d. ((p, d, fit-p, fit-d, refl), refl)) (λ a fit. fit)

-- ---- the tag

abbrev IsTagged : List Column → ℕ → Atom → Type 0
IsTagged columns n a = FitsAtom columns a × (atom_tag a ≡ n)

less_lt : (o : Ordering) → o ≡ Less → is_lt o ≡ true
less_lt o e = rw e refl

lt_less : (o : Ordering) → is_lt o ≡ true → o ≡ Less
lt_less Less e = refl
lt_less Equal e = absurd cc
lt_less Greater e = absurd cc

emptied : (is_of : Kind → Bool) (columns : List Column) (p : ColumnRef × Column) → Names columns p.0 p.1 → is_of p.1.kind ≡ true → not (is_plain p.1.shape) ≡ true
    → FitsEmptied is_of columns p.0
emptied is_of columns p named kind whole = record { column = p.1; named = named; kind = kind; collection = not_plain (is_plain p.1.shape) whole }

written : (is_of : Kind → Bool) (columns : List Column) (p : ColumnRef × Column) (path : List ℕ) (v : Cell) → Names columns p.0 p.1 → is_of p.1.kind ≡ true → FitsPath p.1 path
    → FitsCellOf p.1 v → FitsWrite is_of columns p.0 path v
written is_of columns p path v named kind fit-path fit-v =
    record { column = p.1; named = named; kind = kind; path = fit-path; cell = (cell_both p.1 v fit-v).0 }

-- what is read after a tag is an atom of that tag, which stands there
abbrev HasRead : List Column → ℕ → Left → Atom × Left → Type 0
HasRead columns n old y = IsTagged columns n y.0 × Begins (atom_tail y.0) old y.1

tag_above : (n : ℕ) → is_in_range 1 8 (suc (suc (suc (suc (suc (suc (suc (suc (suc n))))))))) ≡ true → ⊥
tag_above n within =
    let most : suc (suc (suc (suc (suc (suc (suc (suc (suc n)))))))) ≤ 8 =
    leb-true _ 8 (and_parts (leb 1 (suc (suc (suc (suc (suc (suc (suc (suc (suc n)))))))))) (leb (suc (suc (suc (suc (suc (suc (suc (suc (suc n))))))))) 8) within).1 in
    omega arith

tagged_found : (columns : List Column) (n : ℕ) (old new : Left) (a : Atom) → is_in_range 1 8 n ≡ true → AreBytes old.bytes
    → tagged_at (clustering_order columns) columns n old ≡ Ok (a, new) → HasRead columns n old (a, new)
tagged_found columns zero old new a within are e = absurd cc
tagged_found columns (suc zero) old new a within are e =
    let f = partition_deletion_exact.found old new a are e in
    (subst (λ (x : Atom). IsTagged columns 1 x) f.0.2 ((f.0.1, tt), refl), f.1)
tagged_found columns (suc (suc zero)) old new a within are e =
    let order = clustering_order columns in
    let f = (range_deletion_exact order).found old new a are e in
    let g = f.0 in
    let range : FitsRange order g.0 g.1 = (g.3, g.4.0, lt_less (cut_cmp g.0 g.1) g.4.1) in
    (subst (λ (x : Atom). IsTagged columns 2 x) g.6 (((range, g.5), (cut_short order g.0 g.3, cut_short order g.1 g.4.0)), refl), f.1)
tagged_found columns (suc (suc (suc zero))) old new a within are e =
    let order = clustering_order columns in
    let f = (row_deletion_exact order).found old new a are e in
    let g = f.0 in
    (subst (λ (x : Atom). IsTagged columns 3 x) g.4 (((g.2, g.3), clustering_short order g.0 g.2), refl), f.1)
tagged_found columns (suc (suc (suc (suc zero)))) old new a within are e =
    let order = clustering_order columns in
    let f = (collection_deletion_exact order columns).found old new a are e in
    let g = f.0 in
    let both = and_parts (is_regular g.1.1.kind) (not (is_plain g.1.1.shape)) g.4.2 in (
      subst (λ (x : Atom). IsTagged columns 4 x) g.6
          (((g.3, emptied is_regular columns g.1 g.4.0 both.0 both.1, g.5), clustering_short order g.0 g.3), refl),
      f.1,
    )
tagged_found columns (suc (suc (suc (suc (suc zero))))) old new a within are e =
    let order = clustering_order columns in
    let f = (live_atom_exact order).found old new a are e in
    let g = f.0 in
    (subst (λ (x : Atom). IsTagged columns 5 x) g.4 (((g.2, g.3), clustering_short order g.0 g.2), refl), f.1)
tagged_found columns (suc (suc (suc (suc (suc (suc zero)))))) old new a within are e =
    let order = clustering_order columns in
    let f = (write_exact order columns).found old new a are e in
    let g = f.0 in (
      subst (λ (x : Atom). IsTagged columns 6 x) g.8
          (((g.4, written is_regular columns g.1 g.2 g.3 g.5.0 g.5.2 g.6 g.7), (clustering_short order g.0 g.4, g.6.0, (cell_both g.1.1 g.3 g.7).1)), refl),
      f.1,
    )
tagged_found columns (suc (suc (suc (suc (suc (suc (suc zero))))))) old new a within are e =
    let f = (static_write_exact columns).found old new a are e in
    let g = f.0 in (
      subst (λ (x : Atom). IsTagged columns 7 x) g.6
          ((written is_static columns g.0 g.1 g.2 g.3.0 g.3.2 g.4 g.5, (g.4.0, (cell_both g.0.1 g.2 g.5).1)), refl),
      f.1,
    )
tagged_found columns (suc (suc (suc (suc (suc (suc (suc (suc zero)))))))) old new a within are e =
    let f = (static_collection_deletion_exact columns).found old new a are e in
    let g = f.0 in
    let both = and_parts (is_static g.0.1.kind) (not (is_plain g.0.1.shape)) g.2.2 in (
      subst (λ (x : Atom). IsTagged columns 8 x) g.4
          (((emptied is_static columns g.0 g.2.0 both.0 both.1, g.3), tt), refl),
      f.1,
    )
tagged_found columns (suc (suc (suc (suc (suc (suc (suc (suc (suc n))))))))) old new a within are e = absurd (tag_above n within)

-- a column that is named, as it was read
named_again : (is_of : Kind → Bool) (wanted : Wanted) (columns : List Column) (ref : ColumnRef) (column : Column) → IsNarrow columns → Names columns ref column
    → is_wanted wanted column ≡ true → IsPart wanted columns (ref, column)
named_again is_of wanted columns ref column narrow named want = (named, few_columns columns ref column narrow named, want)

tagged_again : (columns : List Column) → IsNarrow columns → (a : Atom) (rest : List ℕ) (at : ℕ) → FitsAtom columns a
    → tagged_at (clustering_order columns) columns (atom_tag a) (read_left (atom_tail a ++ rest) at) ≡ Ok (a, read_left rest (at + length (atom_tail a)))
tagged_again columns narrow (PartitionDeletion d) rest at fit = partition_deletion_exact.again (PartitionDeletion d) rest at (d, fit.0, refl)
tagged_again columns narrow (RangeDeletion lo hi d) rest at fit =
    let f = fit.0 in
    (range_deletion_exact (clustering_order columns)).again (RangeDeletion lo hi d) rest at
    (lo, hi, d, f.0.0, (f.0.1, less_lt (cut_cmp lo hi) f.0.2), f.1, refl)
tagged_again columns narrow (RowDeletion c d) rest at fit =
    (row_deletion_exact (clustering_order columns)).again (RowDeletion c d) rest at (c, d, fit.0.0, fit.0.1, refl)
tagged_again columns narrow (CollectionDeletion c ref d) rest at fit =
    let f = fit.0 in
    let column = f.1.column in
    let want = and_from (is_regular column.kind) (not (is_plain column.shape)) f.1.kind (plain_not (is_plain column.shape) f.1.collection) in
    (collection_deletion_exact (clustering_order columns) columns).again (CollectionDeletion c ref d) rest at
    (c, (ref, column), d, f.0, named_again is_regular RegularCollection columns ref column narrow f.1.named want, f.2, refl)
tagged_again columns narrow (Live c l) rest at fit =
    (live_atom_exact (clustering_order columns)).again (Live c l) rest at (c, l, fit.0.0, fit.0.1, refl)
tagged_again columns narrow (Write c ref path v) rest at fit =
    let f = fit.0.1 in
    (write_exact (clustering_order columns) columns).again (Write c ref path v) rest at
    (c, (ref, f.column), path, v, fit.0.0, named_again is_regular Regular columns ref f.column narrow f.named f.kind, f.path, both_cell f.column v f.cell fit.1.2, refl)
tagged_again columns narrow (StaticWrite ref path v) rest at fit =
    let f = fit.0 in
    (static_write_exact columns).again (StaticWrite ref path v) rest at
    ((ref, f.column), path, v, named_again is_static Static columns ref f.column narrow f.named f.kind, f.path, both_cell f.column v f.cell fit.1.1, refl)
tagged_again columns narrow (StaticCollectionDeletion ref d) rest at fit =
    let f = fit.0 in
    let column = f.0.column in
    let want = and_from (is_static column.kind) (not (is_plain column.shape)) f.0.kind (plain_not (is_plain column.shape) f.0.collection) in
    (static_collection_deletion_exact columns).again (StaticCollectionDeletion ref d) rest at
    ((ref, column), d, named_again is_static StaticCollection columns ref column narrow f.0.named want, f.1, refl)

tagged_exact : (columns : List Column) → IsNarrow columns → (n : ℕ) → is_in_range 1 8 n ≡ true
    → IsExact (IsTagged columns n) atom_tail (tagged_at (clustering_order columns) columns n)
tagged_exact columns narrow n within = record {
  found = λ old new a are e. tagged_found columns n old new a within are e;
  again = λ a rest at fit. subst (λ (m : ℕ). tagged_at (clustering_order columns) columns m (read_left (atom_tail a ++ rest) at)
      ≡ Ok (a, read_left rest (at + length (atom_tail a)))) fit.1 (tagged_again columns narrow a rest at fit.0);
}

abbrev IsTag : ℕ → Type 0
IsTag n = (n < 2 ^ 8) × (is_in_range 1 8 n ≡ true)

tag_fits : (a : Atom) → IsTag (atom_tag a)
tag_fits (PartitionDeletion d) = (omega arith, refl)
tag_fits (RangeDeletion lo hi d) = (omega arith, refl)
tag_fits (RowDeletion c d) = (omega arith, refl)
tag_fits (CollectionDeletion c column d) = (omega arith, refl)
tag_fits (Live c l) = (omega arith, refl)
tag_fits (Write c column p v) = (omega arith, refl)
tag_fits (StaticWrite column p v) = (omega arith, refl)
tag_fits (StaticCollectionDeletion column d) = (omega arith, refl)

atom_spelled : (a : Atom) → atom_bytes a ≡ u8 (atom_tag a) ++ atom_tail a
atom_spelled (PartitionDeletion d) = refl
atom_spelled (RangeDeletion lo hi d) = refl
atom_spelled (RowDeletion c d) = refl
atom_spelled (CollectionDeletion c column d) = refl
atom_spelled (Live c l) = refl
atom_spelled (Write c column p v) = refl
atom_spelled (StaticWrite column p v) = refl
atom_spelled (StaticCollectionDeletion column d) = refl

pub atom_exact : (columns : List Column) → IsNarrow columns → IsExact (FitsAtom columns) atom_bytes (atom_at (clustering_order columns) columns)
unfolding atom_at
atom_exact columns narrow =
    exact_then IsTag u8 (checked (is_in_range 1 8) u8_at) (FitsAtom columns) atom_bytes (λ n a. atom_tag a ≡ n) (λ n a. atom_tail a)
    (λ before n left. tagged_at (clustering_order columns) columns n left)
    (exact_checked (λ n. n < 2 ^ 8) u8 u8_at (is_in_range 1 8) u8_field.exact)
    (λ before n tag. tagged_exact columns narrow n tag.1)
    (λ a fit. (atom_tag a, tag_fits a, refl))
    (λ n a fit is. atom_spelled a ∙ ap (λ (m : ℕ). u8 m ++ atom_tail a) is)

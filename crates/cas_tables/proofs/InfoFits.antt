-- The filter, what is told and the footer of contents that a table may have are such as a table file may have.
use Rattle.std.proofs.Common.{ℤ, ◌≤◌, ◌++◌, Bool, List, [], ◌∷◌, map, length, Option, None, Some, inl, inr, subst, arith}
use Rattle.std.specs.Prelude.{IfSome, FitsSigned}
use Rattle.std.specs.Int.{w64}
use Rattle.std.specs.List.{AllByRecursion, flat_map}
use Rattle.cas_types.specs.Schemas.{is_static, is_regular}
use Rattle.cas_types.specs.declared.schema.Column.{Column}
use Rattle.cas_types.specs.declared.schema.Kind.{Kind}
use Rattle.cas_cell.specs.declared.cell.Cell.{Cell}
use Rattle.cas_cell.specs.declared.cell.Cell.TheVariants as cell
use Rattle.cas_cell.specs.declared.deletion.Deletion.{Deletion}
use Rattle.cas_cell.specs.declared.liveness.Liveness.{Liveness}
use Rattle.cas_cell.specs.declared.liveness.Liveness.TheVariants as live
use Rattle.cas_bounds.specs.declared.cuts.Clustering.{Clustering}
use Rattle.cas_atoms.specs.Coordinates.{atom_at}
use Rattle.cas_atoms.specs.Fits.{FitsKey, FitsTimestamp, FitsDeletion, FitsLive}
use Rattle.cas_atoms.specs.declared.atom.Atom.{Atom}
use Rattle.cas_atoms.specs.declared.atom.Atom.TheVariants.{PartitionDeletion, RangeDeletion, RowDeletion, Live, Write, StaticWrite}
use Rattle.cas_atoms.specs.declared.atom.ColumnRef.{ColumnRef}
use Rattle.cas_atoms.specs.declared.row.PathCell.{PathCell}
use Rattle.cas_atoms.specs.declared.row.RowColumn.{RowColumn}
use Rattle.cas_laws.specs.Given.{Has}
use Rattle.cas_purge.specs.Droppable.{atom_end}
use Rattle.cas_streams.specs.Flat.{Change, atom_of, writes, empties, of_column, own, changes, between, ranges_after, ranges}
use Rattle.cas_streams.specs.Merged.{flat_of, flats}
use Rattle.cas_streams.specs.declared.fragment.Fragment.{Fragment}
use Rattle.cas_streams.specs.declared.fragment.Fragment.TheVariants as fragment
use Rattle.cas_facts.specs.Facts.{IsLastEnd, AreFacts}
use Rattle.cas_facts.specs.declared.facts.Facts.{Facts}
use Rattle.cas_records.specs.Allowed.{FitsCellOf}
use Rattle.cas_fragments.specs.Allowed.{FitsPathCell, FitsColumn, FitsFragment}
use Rattle.cas_fragments.specs.Blocks.{statics_in, behind_statics}
use Rattle.cas_info.specs.Allowed.{FitsInfo}
use Rattle.cas_info.specs.declared.info.TheConstants.{FILE_LIMIT}
use Rattle.cas_filter.specs.Filters.{bits_for}
use Rattle.cas_filter.specs.Allowed.{FitsFilter}
use Rattle.cas_filter.proofs.FilterLaws.{length_of}
use Rattle.cas_index.specs.Allowed.{FitsFooter}
use Rattle.cas_tables.specs.Contents.{Partition, Contents, keys, atoms_of}
use Rattle.cas_tables.specs.Files.{key_filter, footer_of, first_key, last_key, info_of, table_bytes}
use Rattle.cas_tables.specs.Fitting.{FitsPartition, FitsContents}
use Rattle.cas_tables.proofs.Lengths.{tables_are_one, length_is_told, parts_long}

-- ---- the times of atoms

-- an atom has a timestamp that may be told, and an end, if it has one, that may be told too
abbrev FitsTimes : Atom → Type 0
FitsTimes a = FitsTimestamp (atom_at a) × IfSome (atom_end a) (FitsSigned w64)

both : (A B : List Atom) → AllByRecursion FitsTimes A → AllByRecursion FitsTimes B → AllByRecursion FitsTimes (A ++ B)
both [] B a b = b
both (x ∷ A) B a b = (a.0, both A B a.1 b)

written : (column : Column) (at : Option Clustering) (ref : ColumnRef) (p : PathCell) → FitsCellOf column p.cell → FitsTimes (writes at ref p)
written column None ref p fits = of_cell p.cell fits
  where
    of_cell : (v : Cell) → FitsCellOf column v → FitsTimes (StaticWrite ref p.path v)
    of_cell (cell.Plain t value) f = (f.0, tt)
    of_cell (cell.Expiring t expiry ttl value) f = (f.0, f.1)
    of_cell (cell.Tombstone t second) f = (f.0, f.1)
written column (Some c) ref p fits = of_cell p.cell fits
  where
    of_cell : (v : Cell) → FitsCellOf column v → FitsTimes (Write c ref p.path v)
    of_cell (cell.Plain t value) f = (f.0, tt)
    of_cell (cell.Expiring t expiry ttl value) f = (f.0, f.1)
    of_cell (cell.Tombstone t second) f = (f.0, f.1)

emptied : (at : Option Clustering) (ref : ColumnRef) (d : Option Deletion) → IfSome d FitsDeletion → AllByRecursion FitsTimes (atom_of (empties at ref) d)
emptied at ref None fits = tt
emptied None ref (Some d) fits = (fits, tt)
emptied (Some c) ref (Some d) fits = (fits, tt)

cells_times : (column : Column) (at : Option Clustering) (ref : ColumnRef) (cells : List PathCell) → AllByRecursion (FitsPathCell column) cells
    → AllByRecursion FitsTimes (map (writes at ref) cells)
cells_times column at ref [] fits = tt
cells_times column at ref (p ∷ cells) fits = (written column at ref p fits.0.1, cells_times column at ref cells fits.1)

columns_times : (is_of : Kind → Bool) (columns : List Column) (at : Option Clustering) (cs : List RowColumn) → AllByRecursion (FitsColumn is_of columns) cs
    → AllByRecursion FitsTimes (flat_map (of_column at) cs)
columns_times is_of columns at [] fits = tt
columns_times is_of columns at (c ∷ cs) fits =
    both (of_column at c) (flat_map (of_column at) cs)
    (both (atom_of (empties at c.column) c.deletion) (map (writes at c.column) c.cells) (emptied at c.column c.deletion fits.0.deletion)
    (cells_times fits.0.of.column at c.column c.cells fits.0.cells))
    (columns_times is_of columns at cs fits.1)

deleted : (make : Deletion → Atom) → ((d : Deletion) → FitsDeletion d → FitsTimes (make d)) → (d : Option Deletion) → IfSome d FitsDeletion
    → AllByRecursion FitsTimes (atom_of make d)
deleted make so None fits = tt
deleted make so (Some d) fits = (so d fits, tt)

lives : (c : Clustering) (l : Option Liveness) → IfSome l FitsLive → AllByRecursion FitsTimes (atom_of (Live c) l)
lives c None fits = tt
lives c (Some (live.Plain t)) fits = ((fits, tt), tt)
lives c (Some (live.Expiring t expiry ttl)) fits = ((fits.0, fits.1), tt)

-- what rows and markers say of their own rows
own_times : (columns : List Column) (f : Fragment) → FitsFragment columns f → AllByRecursion FitsTimes (own f)
own_times columns (fragment.Static cs) fits = absurd fits
own_times columns (fragment.Row r) fits =
    both (atom_of (RowDeletion r.clustering) r.deletion) (atom_of (Live r.clustering) r.live ++ flat_map (of_column (Some r.clustering)) r.columns)
    (deleted (RowDeletion r.clustering) (λ d f. f) r.deletion fits.deletion)
    (both (atom_of (Live r.clustering) r.live) (flat_map (of_column (Some r.clustering)) r.columns) (lives r.clustering r.live fits.live)
    (columns_times is_regular columns (Some r.clustering) r.columns fits.each.each))
own_times columns (fragment.Marker cut d) fits = tt

all_own : (columns : List Column) (fs : List Fragment) → AllByRecursion (FitsFragment columns) fs → AllByRecursion FitsTimes (flat_map own fs)
all_own columns [] fits = tt
all_own columns (f ∷ fs) fits = both (own f) (flat_map own fs) (own_times columns f fits.0) (all_own columns fs fits.1)

-- ---- range deletions

changes_fit : (columns : List Column) (fs : List Fragment) → AllByRecursion (FitsFragment columns) fs → AllByRecursion (λ m. IfSome m.to FitsDeletion) (changes fs)
changes_fit columns [] fits = tt
changes_fit columns (fragment.Static cs ∷ fs) fits = absurd fits.0
changes_fit columns (fragment.Row r ∷ fs) fits = changes_fit columns fs fits.1
changes_fit columns (fragment.Marker cut d ∷ fs) fits = (fits.0.1, changes_fit columns fs fits.1)

ranges_times : (m : Change) (ms : List Change) → AllByRecursion (λ m. IfSome m.to FitsDeletion) (m ∷ ms) → AllByRecursion FitsTimes (ranges_after m ms)
ranges_times m [] fits = tt
ranges_times m (n ∷ ms) fits =
    both (between m n) (ranges_after n ms) (deleted (RangeDeletion m.at n.at) (λ d f. f) m.to fits.0) (ranges_times n ms fits.1)

all_ranges : (ms : List Change) → AllByRecursion (λ m. IfSome m.to FitsDeletion) ms → AllByRecursion FitsTimes (ranges ms)
all_ranges [] fits = tt
all_ranges (m ∷ ms) fits = ranges_times m ms fits

-- ---- partitions

fragments_times : (columns : List Column) (fs : List Fragment) → AllByRecursion (FitsColumn is_static columns) (statics_in fs)
    → AllByRecursion (FitsFragment columns) (behind_statics fs) → AllByRecursion FitsTimes (ranges (changes fs)) × AllByRecursion FitsTimes (flat_map own fs)
fragments_times columns [] statics rest = (tt, tt)
fragments_times columns (fragment.Static cs ∷ fs) statics rest =
    (all_ranges (changes fs) (changes_fit columns fs rest), both (own (fragment.Static cs)) (flat_map own fs) (columns_times is_static columns None cs statics) (all_own columns fs rest))
fragments_times columns (fragment.Row r ∷ fs) statics rest =
    (all_ranges (changes fs) (changes_fit columns fs rest.1), all_own columns (fragment.Row r ∷ fs) rest)
fragments_times columns (fragment.Marker cut d ∷ fs) statics rest =
    (all_ranges (changes (fragment.Marker cut d ∷ fs)) (changes_fit columns (fragment.Marker cut d ∷ fs) rest), all_own columns (fragment.Marker cut d ∷ fs) rest)

partition_times : (columns : List Column) (p : Partition) → FitsPartition columns p → AllByRecursion FitsTimes (flat_of p.stream)
partition_times columns p fits =
    let (of_ranges, of_own) = fragments_times columns p.stream.fragments fits.statics.each fits.rest in
    both (atom_of PartitionDeletion p.stream.top) (ranges (changes p.stream.fragments) ++ flat_map own p.stream.fragments)
    (deleted PartitionDeletion (λ d f. f) p.stream.top fits.top)
    (both (ranges (changes p.stream.fragments)) (flat_map own p.stream.fragments) of_ranges of_own)

all_times : (columns : List Column) (ps : List Partition) → AllByRecursion (FitsPartition columns) ps → AllByRecursion FitsTimes (flats (map (λ p. p.stream) ps))
all_times columns [] fits = tt
all_times columns (p ∷ ps) fits = both (flat_of p.stream) (flats (map (λ p. p.stream) ps)) (partition_times columns p fits.0) (all_times columns ps fits.1)

-- ---- what is told

of_one : {K : Type 0} (f : Atom → K) (P : K → Type 0) → ((a : Atom) → FitsTimes a → P (f a)) → (A : List Atom) (k : K) → AllByRecursion FitsTimes A
    → Has (map f A) k → P k
of_one f P so [] k fits none = absurd none
of_one f P so (a ∷ A) k fits (inl e) = subst P e (so a fits.0)
of_one f P so (a ∷ A) k fits (inr h) = of_one f P so A k fits.1 h

dead_fits : (A : List Atom) (dead : Option ℤ) → AllByRecursion FitsTimes A → IsLastEnd (map atom_end A) dead → IfSome dead (FitsSigned w64)
dead_fits A None fits last = tt
dead_fits A (Some s) fits last = of_one atom_end (λ e. IfSome e (FitsSigned w64)) (λ a f. f.1) A (Some s) fits last.0

first_fits : (columns : List Column) (ps : List Partition) → 1 ≤ length ps → AllByRecursion (FitsPartition columns) ps → FitsKey (first_key (map (λ p. p.key) ps))
first_fits columns [] some fits = absurd (omega arith)
first_fits columns (p ∷ ps) some fits = fits.0.key

last_fits : (columns : List Column) (ps : List Partition) → 1 ≤ length ps → AllByRecursion (FitsPartition columns) ps → FitsKey (last_key (map (λ p. p.key) ps))
last_fits columns [] some fits = absurd (omega arith)
last_fits columns (p ∷ []) some fits = fits.0.key
last_fits columns (p ∷ q ∷ ps) some fits = last_fits columns (q ∷ ps) (omega arith) fits.1

pub info_fits : (columns : List Column) (c : Contents) (f : Facts) → FitsContents columns c → AreFacts (atoms_of c) f → FitsInfo (info_of c f)
info_fits columns c f fit are =
    let times : AllByRecursion FitsTimes (atoms_of c) = all_times columns c.partitions fit.each in
    record {
      number = fit.header.number;
      bytes = omega (arith, length_is_told c f, fit.short f are);
      first = first_fits columns c.partitions fit.few.0 fit.each;
      last = last_fits columns c.partitions fit.few.0 fit.each;
      least = of_one atom_at FitsTimestamp (λ a f. f.0) (atoms_of c) f.least times are.least.one;
      greatest = of_one atom_at FitsTimestamp (λ a f. f.0) (atoms_of c) f.greatest times are.greatest.one;
      dead = dead_fits (atoms_of c) f.dead times are.dead;
      level = fit.level;
      keys = fit.few;
    }

pub filter_fits : (columns : List Column) (c : Contents) → FitsContents columns c → FitsFilter (key_filter c)
filter_fits columns c fit =
    let long = length_of (bits_for (length c.partitions)) (keys c) in
    record { some = omega (arith, fit.few.0, fit.few.1); room = omega (arith, fit.few.0, fit.few.1) }

pub footer_fits : (columns : List Column) (c : Contents) → FitsContents columns c → FitsFooter (footer_of c)
footer_fits columns c fit =
    let (bytes, table) = tables_are_one.some columns c fit in
    let short : length (table_bytes c table.facts) ≤ FILE_LIMIT = fit.short table.facts table.of_atoms in
    let long = parts_long c table.facts in
    (omega arith, omega arith, omega arith)

-- What holds of each atom of streams, by its place, does of each of their merge; so that invents nothing.
use Rattle.std.proofs.Common.{◌≡◌, ℕ, ◌==◌, ◌&&◌, ℤ, Bool, true, false, cond, Option, None, Some, List, [], ◌∷◌, ◌++◌, map, inl, inr, refl, sym, ap, ◌∙◌, subst}
use Rattle.std.specs.Bool.{then_some}
use Rattle.std.specs.List.{AllByRecursion, flat_map}
use Rattle.std.specs.Ordering.{is_lt, nat_cmp}
use Rattle.std.specs.FinMap.{nat_cmp-IsAntisymmetric}
use Rattle.std.specs.declared.cmp.Ordering.{Ordering}
use Rattle.cas_types.specs.declared.tag.TypeTag.{TypeTag}
use Rattle.cas_cell.specs.Deletions.{deletion_cmp, covered}
use Rattle.cas_cell.specs.Lives.{live_at, live_cmp}
use Rattle.cas_cell.specs.Cells.{cell_at, cell_cmp}
use Rattle.cas_cell.specs.declared.deletion.Deletion.{Deletion}
use Rattle.cas_cell.specs.declared.liveness.Liveness.{Liveness}
use Rattle.cas_bounds.specs.declared.cuts.Clustering.{Clustering}
use Rattle.cas_bounds.specs.declared.cuts.Cut.{Cut}
use Rattle.cas_bounds.specs.declared.order.Ordered.{Ordered}
use Rattle.cas_atoms.specs.Greatest.{greater}
use Rattle.cas_atoms.specs.Coordinates.{Coordinate, RowKey, clustered, same_row, same_values, is_at, live_at_row, cell_at_path}
use Rattle.cas_atoms.specs.RowsAndPaths.{path_cmp}
use Rattle.cas_atoms.specs.Winners.{standing}
use Rattle.cas_atoms.specs.declared.atom.ColumnRef.{ColumnRef}
use Rattle.cas_atoms.specs.declared.atom.Atom.{Atom}
use Rattle.cas_atoms.specs.declared.atom.Atom.TheVariants.{PartitionDeletion, RangeDeletion, RowDeletion, Live}
use Rattle.cas_atoms.specs.declared.row.Row.{Row}
use Rattle.cas_atoms.specs.declared.row.RowColumn.{RowColumn}
use Rattle.cas_atoms.specs.declared.row.PathCell.{PathCell}
use Rattle.cas_laws.specs.Given.{Gives}
use Rattle.cas_laws.proofs.ShownProofs.{path_orders}
use Rattle.cas_streams.specs.Flat.{atom_of, writes, empties, of_column, own, Change, changes, between, ranges_after, ranges, at_end}
use Rattle.cas_streams.specs.Joined.{plainly, joined_cell, joined_cells, joined_column, joined_columns, joined_row, raised, opened, joined_fragment, by_place, Stream, joined}
use Rattle.cas_streams.specs.Settled.{is_bare, bare_column, bare_columns, bare_row, bare, settled}
use Rattle.cas_streams.specs.Merged.{Draw, nobody, one, pair, draw, joined_all, merged, flat_of, flats}
use Rattle.cas_streams.specs.NoMore.{Target, partition, range, one_row, one_column, deletion_of, SaysNoMore}
use Rattle.cas_streams.specs.Streams.{IsOrdered}
use Rattle.cas_streams.specs.declared.fragment.Fragment.{Fragment}
use Rattle.cas_streams.specs.declared.fragment.Fragment.TheVariants as fragment
use Rattle.cas_streams.proofs.OwnRows.{key_of}
use Rattle.cas_streams.proofs.Weaves.{all_so, all_and, all_of, all_filter, woven_all, woven_known}
use Rattle.cas_streams.proofs.Twins.{Twins, twins}
use Rattle.cas_streams.proofs.Bare.{columns_said}
use Rattle.cas_streams.proofs.Settling.{settled_all}
use Rattle.cas_streams.proofs.Merges.{Each, all_drawn}

-- a fact of atoms that goes by where they write and delete: the values of a row, the number of a column, the bytes of a path; not by a range's cuts
pub record ByPlace (Q : Atom → Type 0) : Type 0 where
  pub ranges : (lo hi k l : Cut) (d : Deletion) → Q (RangeDeletion lo hi d) → Q (RangeDeletion k l d)
  pub rows : (c e : Clustering) → c.values ≡ e.values → (d : Deletion) → Q (RowDeletion c d) → Q (RowDeletion e d)
  pub lives : (c e : Clustering) → c.values ≡ e.values → (l : Liveness) → Q (Live c l) → Q (Live e l)
  pub columns : (at by : Option Clustering) (m n : ColumnRef) → key_of at ≡ key_of by → m.number ≡ n.number → (d : Deletion) → Q (empties at m d) → Q (empties by n d)
  pub cells : (at by : Option Clustering) (m n : ColumnRef) → key_of at ≡ key_of by → m.number ≡ n.number → (p : PathCell) (path : List ℕ) → p.path ≡ path
      → Q (writes at m p) → Q (writes by n (record { path = path; cell = p.cell }))

module _ (Q : Atom → Type 0) (q : ByPlace Q) where
  abbrev pub All : List Atom → Type 0
  All atoms = AllByRecursion Q atoms

  pub all_flat : {X : Type 0} (own_of : X → List Atom) (xs : List X) → AllByRecursion (λ x. All (own_of x)) xs → All (flat_map own_of xs)
  all_flat own_of [] a = tt
  all_flat own_of (x ∷ xs) a = all_and Q (own_of x) (flat_map own_of xs) a.0 (all_flat own_of xs a.1)

  pub flat_all : {X : Type 0} (own_of : X → List Atom) (xs : List X) → All (flat_map own_of xs) → AllByRecursion (λ x. All (own_of x)) xs
  flat_all own_of [] a = tt
  flat_all own_of (x ∷ xs) a = let (b, c) = all_of Q (own_of x) (flat_map own_of xs) a in (b, flat_all own_of xs c)

  -- ---- the atom that is made of what is there

  -- the greater of two is one of them
  pub all_greater : {Y : Type 0} (cmp : Y → Y → Ordering) (make : Y → Atom) (d e : Option Y) → All (atom_of make d) → All (atom_of make e) → All (atom_of make (greater cmp d e))
  all_greater cmp make None e a b = b
  all_greater cmp make (Some d) None a b = a
  all_greater cmp make (Some d) (Some e) a b = chosen (is_lt (cmp d e))
    where
      chosen : (t : Bool) → All (atom_of make (Some (cond t e d)))
      chosen true = b
      chosen false = a

  pub moved : {Y : Type 0} (make other : Y → Atom) → ((y : Y) → Q (make y) → Q (other y)) → (d : Option Y) → All (atom_of make d) → All (atom_of other d)
  moved make other h None a = tt
  moved make other h (Some d) a = (h d a.0, tt)

  all_standing : {Y : Type 0} (at : Y → ℤ) (make : Y → Atom) (over : Option Deletion) (w : Option Y) → All (atom_of make w) → All (atom_of make (standing at over w))
  all_standing at make None w a = a
  all_standing at make (Some d) None a = tt
  all_standing at make (Some d) (Some y) a = bare_of (covered d (at y))
    where
      bare_of : (b : Bool) → All (atom_of make (cond b None (Some y)))
      bare_of true = tt
      bare_of false = a

  -- ---- columns

  -- the deletion of a column, and its cells
  abbrev pub Of : Option Clustering → ColumnRef → Option Deletion → List PathCell → Type 0
  Of at m d ps = All (atom_of (empties at m) d) × AllByRecursion (λ p. Q (writes at m p)) ps

  all_map : (make : PathCell → Atom) (ps : List PathCell) → AllByRecursion (λ p. Q (make p)) ps → All (map make ps)
  all_map make [] a = tt
  all_map make (p ∷ ps) a = (a.0, all_map make ps a.1)

  map_all : (make : PathCell → Atom) (ps : List PathCell) → All (map make ps) → AllByRecursion (λ p. Q (make p)) ps
  map_all make [] a = tt
  map_all make (p ∷ ps) a = (a.0, map_all make ps a.1)

  pub to_column : (at : Option Clustering) (c : RowColumn) → Of at c.column c.deletion c.cells → All (of_column at c)
  to_column at c a = all_and Q (atom_of (empties at c.column) c.deletion) (map (writes at c.column) c.cells) a.0 (all_map (writes at c.column) c.cells a.1)

  pub of_its : (at : Option Clustering) (c : RowColumn) → All (of_column at c) → Of at c.column c.deletion c.cells
  of_its at c a =
      let (b, w) = all_of Q (atom_of (empties at c.column) c.deletion) (map (writes at c.column) c.cells) a in (b, map_all (writes at c.column) c.cells w)

  -- the same at another clustering of the same values, and by another name with the same number
  pub of_moved : (at by : Option Clustering) (m n : ColumnRef) → key_of at ≡ key_of by → m.number ≡ n.number → (d : Option Deletion) (ps : List PathCell) → Of at m d ps → Of by n d ps
  of_moved at by m n key number d ps a =
      (moved (empties at m) (empties by n) (λ e. q.columns at by m n key number e) d a.0, all_so (λ p. Q (writes at m p)) (λ p. Q (writes by n p)) (λ p h. q.cells at by m n key number p p.path refl h) ps a.1)

  cells_joined : (at : Option Clustering) (m : ColumnRef) (tag : Option TypeTag) (ps rs : List PathCell) → AllByRecursion (λ p. Q (writes at m p)) ps → AllByRecursion (λ p. Q (writes at m p)) rs
      → AllByRecursion (λ p. Q (writes at m p)) (joined_cells tag ps rs)
  cells_joined at m tag ps rs a b =
      woven_all (plainly (λ p r. path_cmp tag p.path r.path) joined_cell) (λ p. Q (writes at m p)) (λ s p h. h) (λ s r h. h)
      (λ s p r e h k. chosen p r ((path_orders tag).ties p.path r.path e) h k (is_lt (cell_cmp p.cell r.cell))) tt ps rs a b
    where
      chosen : (p r : PathCell) → p.path ≡ r.path → Q (writes at m p) → Q (writes at m r) → (t : Bool) → Q (writes at m (record { path = p.path; cell = cond t r.cell p.cell }))
      chosen p r same h k true = q.cells at at m m refl refl r p.path (sym same) k
      chosen p r same h k false = h

  abbrev pub Columns : Option Clustering → List RowColumn → Type 0
  Columns at cs = AllByRecursion (λ c. All (of_column at c)) cs

  columns_joined : (at : Option Clustering) (cs ds : List RowColumn) → Columns at cs → Columns at ds → Columns at (joined_columns cs ds)
  columns_joined at cs ds a b =
      woven_all (plainly (λ c d. nat_cmp c.column.number d.column.number) joined_column) (λ c. All (of_column at c)) (λ s c h. h) (λ s d h. h)
      (λ s c d e h k. both c d (nat_cmp-IsAntisymmetric c.column.number d.column.number e) h k) tt cs ds a b
    where
      both : (c d : RowColumn) → c.column.number ≡ d.column.number → All (of_column at c) → All (of_column at d) → All (of_column at (joined_column c d))
      both c d same h k =
          let x : Of at c.column c.deletion c.cells = of_its at c h in
          let y : Of at c.column d.deletion d.cells = of_moved at at d.column c.column refl (sym same) d.deletion d.cells (of_its at d k) in
          to_column at (joined_column c d) (all_greater deletion_cmp (empties at c.column) c.deletion d.deletion x.0 y.0, cells_joined at c.column c.column.path c.cells d.cells x.1 y.1)

  columns_bare : (at : Option Clustering) (over : Option Deletion) (cs : List RowColumn) → Columns at cs → All (flat_map (of_column at) (bare_columns at over cs))
  columns_bare at over cs a =
      subst All (sym (columns_said at over cs)) (all_flat (of_column at) (map (bare_column over) cs) (each cs a))
    where
      each : (cs : List RowColumn) → Columns at cs → Columns at (map (bare_column over) cs)
      each [] a = tt
      each (c ∷ cs) a =
          let x : Of at c.column c.deletion c.cells = of_its at c a.0 in
          (to_column at (bare_column over c) (x.0, all_filter (λ p. Q (writes at c.column p)) (λ p. is_bare (greater deletion_cmp over c.deletion) (cell_at p.cell)) c.cells x.1), each cs a.1)

  columns_moved : (c e : Clustering) → c.values ≡ e.values → (cs : List RowColumn) → Columns (Some c) cs → Columns (Some e) cs
  columns_moved c e same cs a =
      all_so (λ d. All (of_column (Some c) d)) (λ d. All (of_column (Some e) d))
      (λ d h. to_column (Some e) d (of_moved (Some c) (Some e) d.column d.column (ap clustered same) refl d.deletion d.cells (of_its (Some c) d h))) cs a

  -- ---- rows

  pub row_all : (r : Row) → All (atom_of (RowDeletion r.clustering) r.deletion) → All (atom_of (Live r.clustering) r.live) → All (flat_map (of_column (Some r.clustering)) r.columns) → All (own (fragment.Row r))
  row_all r a l b =
      let rest : List Atom = flat_map (of_column (Some r.clustering)) r.columns in
      all_and Q (atom_of (RowDeletion r.clustering) r.deletion) (atom_of (Live r.clustering) r.live ++ rest) a (all_and Q (atom_of (Live r.clustering) r.live) rest l b)

  pub all_row : (r : Row) → All (own (fragment.Row r)) → All (atom_of (RowDeletion r.clustering) r.deletion) × All (atom_of (Live r.clustering) r.live) × Columns (Some r.clustering) r.columns
  all_row r a =
      let rest : List Atom = flat_map (of_column (Some r.clustering)) r.columns in
      let (b, c) = all_of Q (atom_of (RowDeletion r.clustering) r.deletion) (atom_of (Live r.clustering) r.live ++ rest) a in
      let (l, cs) = all_of Q (atom_of (Live r.clustering) r.live) rest c in
      (b, l, flat_all (of_column (Some r.clustering)) r.columns cs)

  -- ---- fragments

  -- a deletion in force, wherever its cuts stand
  abbrev pub Force : Option Deletion → Type 0
  Force d = (lo hi : Cut) → All (atom_of (RangeDeletion lo hi) d)

  abbrev pub Says : Fragment → Type 0
  Says (fragment.Static cs) = All (own (fragment.Static cs))
  Says (fragment.Row r) = All (own (fragment.Row r))
  Says (fragment.Marker k d) = Force d

  pub force_greater : (d e : Option Deletion) → Force d → Force e → Force (greater deletion_cmp d e)
  force_greater d e a b lo hi = all_greater deletion_cmp (RangeDeletion lo hi) d e (a lo hi) (b lo hi)

  pub raised_says : (other : Option Deletion) → Force other → (f : Fragment) → Says f → Says (raised other f)
  raised_says other o (fragment.Static cs) a = a
  raised_says other o (fragment.Row r) a = a
  raised_says other o (fragment.Marker k d) a = force_greater d other a o

  pub opened_says : (now : Option Deletion) → Force now → (f : Fragment) → Says f → Force (opened now f)
  opened_says now o (fragment.Static cs) a = o
  opened_says now o (fragment.Row r) a = o
  opened_says now o (fragment.Marker k d) a = a

  pub joined_says : (f g : Fragment) → Twins f g → Says f → Says g → Says (joined_fragment f g)
  joined_says (fragment.Static cs) (fragment.Static ds) t a b =
      all_flat (of_column None) (joined_columns cs ds) (columns_joined None cs ds (flat_all (of_column None) cs a) (flat_all (of_column None) ds b))
  joined_says (fragment.Row r) (fragment.Row s) t a b =
      let (d, l, cs) = all_row r a in
      let (e, m, ds) = all_row s b in
      row_all (joined_row r s)
      (all_greater deletion_cmp (RowDeletion r.clustering) r.deletion s.deletion d (moved (RowDeletion s.clustering) (RowDeletion r.clustering) (q.rows s.clustering r.clustering (sym t)) s.deletion e))
      (all_greater live_cmp (Live r.clustering) r.live s.live l (moved (Live s.clustering) (Live r.clustering) (q.lives s.clustering r.clustering (sym t)) s.live m))
      (all_flat (of_column (Some r.clustering)) (joined_columns r.columns s.columns) (columns_joined (Some r.clustering) r.columns s.columns cs (columns_moved s.clustering r.clustering (sym t) s.columns ds)))
  joined_says (fragment.Marker k d) (fragment.Marker l e) t a b = force_greater d e a b
  joined_says f g t a b = absurd t

  bare_says : (top now : Option Deletion) (f : Fragment) → Says f → Says (bare top now f)
  bare_says top now (fragment.Static cs) a = columns_bare None top cs (flat_all (of_column None) cs a)
  bare_says top now (fragment.Row r) a =
      let (d, l, cs) = all_row r a in
      let over : Option Deletion = greater deletion_cmp top now in
      row_all (bare_row over r) d (all_standing live_at (Live r.clustering) (greater deletion_cmp over r.deletion) r.live l) (columns_bare (Some r.clustering) (greater deletion_cmp over r.deletion) r.columns cs)
  bare_says top now (fragment.Marker k d) a = a

  -- ---- streams

  abbrev pub Holds : Stream → Type 0
  Holds s = All (atom_of PartitionDeletion s.top) × AllByRecursion Says s.fragments

  joined_holds : (a b : Stream) → Holds a → Holds b → Holds (joined a b)
  joined_holds a b g h = (
    all_greater deletion_cmp PartitionDeletion a.top b.top g.0 h.0,
    woven_known by_place (λ s. Force s.left × Force s.right) Says (λ s f i k. raised_says s.right i.1 f k) (λ s f i k. raised_says s.left i.0 f k) (λ s f f' e k l. joined_says f f' (twins f f' e) k l)
        (λ s f i k. (opened_says s.left i.0 f k, i.1)) (λ s f i k. (i.0, opened_says s.right i.1 f k))
        (record { left = None; right = None }) (λ lo hi. tt, λ lo hi. tt) a.fragments b.fragments g.1 h.1,
  )

  pub drawn_holds : (d : Draw) → Each Holds d → Holds (joined_all d)
  drawn_holds nobody a = (tt, tt)
  drawn_holds (one s) a = a
  drawn_holds (pair l r) a = joined_holds (joined_all l) (joined_all r) (drawn_holds l a.0) (drawn_holds r a.1)

  pub settled_holds : (s : Stream) → Holds s → Holds (settled s)
  settled_holds s a = (a.0, settled_all Says s.top None (bare_says s.top) s.fragments a.1)

  -- ---- from a stream's atoms, and back to them

  -- where nothing is in force at the end, what each change opens is a range's
  changes_after : (m : Change) (ms : List Change) → at_end m.to ms ≡ None → All (ranges_after m ms) → AllByRecursion (λ n. Force n.to) (m ∷ ms)
  changes_after m [] closed a = (λ lo hi. subst (λ d. All (atom_of (RangeDeletion lo hi) d)) (sym closed) tt, tt)
  changes_after m (n ∷ ms) closed a =
      let (b, c) = all_of Q (between m n) (ranges_after n ms) a in
      (λ lo hi. moved (RangeDeletion m.at n.at) (RangeDeletion lo hi) (q.ranges m.at n.at lo hi) m.to b, changes_after n ms closed c)

  pub all_changes : (ms : List Change) → at_end None ms ≡ None → All (ranges ms) → AllByRecursion (λ n. Force n.to) ms
  all_changes [] closed a = tt
  all_changes (m ∷ ms) closed a = changes_after m ms closed a

  pub all_ranges : (ms : List Change) → AllByRecursion (λ n. Force n.to) ms → All (ranges ms)
  all_ranges [] a = tt
  all_ranges (m ∷ ms) a = go m ms a
    where
      go : (m : Change) (ms : List Change) → AllByRecursion (λ n. Force n.to) (m ∷ ms) → All (ranges_after m ms)
      go m [] a = tt
      go m (n ∷ ms) a = all_and Q (between m n) (ranges_after n ms) (a.0 m.at n.at) (go n ms a.1)

  both_say : (fs : List Fragment) → AllByRecursion (λ n. Force n.to) (changes fs) → AllByRecursion (λ f. All (own f)) fs → AllByRecursion Says fs
  both_say [] a b = tt
  both_say (fragment.Static cs ∷ fs) a b = (b.0, both_say fs a b.1)
  both_say (fragment.Row r ∷ fs) a b = (b.0, both_say fs a b.1)
  both_say (fragment.Marker k d ∷ fs) a b = (a.0, both_say fs a.1 b.1)

  say_both : (fs : List Fragment) → AllByRecursion Says fs → AllByRecursion (λ n. Force n.to) (changes fs) × AllByRecursion (λ f. All (own f)) fs
  say_both [] a = (tt, tt)
  say_both (fragment.Static cs ∷ fs) a = let (b, c) = say_both fs a.1 in (b, (a.0, c))
  say_both (fragment.Row r ∷ fs) a = let (b, c) = say_both fs a.1 in (b, (a.0, c))
  say_both (fragment.Marker k d ∷ fs) a = let (b, c) = say_both fs a.1 in ((a.0, b), (tt, c))

  pub holds_all : (s : Stream) → Holds s → All (flat_of s)
  holds_all s a =
      let (b, c) = say_both s.fragments a.1 in
      all_and Q (atom_of PartitionDeletion s.top) (ranges (changes s.fragments) ++ flat_map own s.fragments) a.0
      (all_and Q (ranges (changes s.fragments)) (flat_map own s.fragments) (all_ranges (changes s.fragments) b) (all_flat own s.fragments c))

  pub all_holds : (order : List Ordered) (s : Stream) → IsOrdered order s.fragments → All (flat_of s) → Holds s
  all_holds order s o a =
      let (top, rest) = all_of Q (atom_of PartitionDeletion s.top) (ranges (changes s.fragments) ++ flat_map own s.fragments) a in
      let (b, c) = all_of Q (ranges (changes s.fragments)) (flat_map own s.fragments) rest in
      (top, both_say s.fragments (all_changes (changes s.fragments) o.closed b) (flat_all own s.fragments c))

  each_holds : (order : List Ordered) (ss : List Stream) → AllByRecursion (λ s. IsOrdered order s.fragments) ss → All (flats ss) → AllByRecursion Holds ss
  each_holds order [] o a = tt
  each_holds order (s ∷ ss) o a = let (b, c) = all_of Q (flat_of s) (flats ss) a in (all_holds order s o.0 b, each_holds order ss o.1 c)

  pub holds_merged : (ss : List Stream) → AllByRecursion Holds ss → All (flat_of (merged ss))
  holds_merged ss a = holds_all (merged ss) (settled_holds (joined_all (draw ss)) (drawn_holds (draw ss) (all_drawn Holds ss a)))

-- ---- what atoms give by place

-- so is what they give: a liveness, a cell, a deletion
pub record GivenByPlace {K : Type 0} (f : Atom → Option K) : Type 0 where
  pub ranges : (lo hi k l : Cut) (d : Deletion) → f (RangeDeletion k l d) ≡ f (RangeDeletion lo hi d)
  pub rows : (c e : Clustering) → c.values ≡ e.values → (d : Deletion) → f (RowDeletion e d) ≡ f (RowDeletion c d)
  pub lives : (c e : Clustering) → c.values ≡ e.values → (l : Liveness) → f (Live e l) ≡ f (Live c l)
  pub columns : (at by : Option Clustering) (m n : ColumnRef) → key_of at ≡ key_of by → m.number ≡ n.number → (d : Deletion) → f (empties by n d) ≡ f (empties at m d)
  pub cells : (at by : Option Clustering) (m n : ColumnRef) → key_of at ≡ key_of by → m.number ≡ n.number → (p : PathCell) (path : List ℕ) → p.path ≡ path
      → f (writes by n (record { path = path; cell = p.cell })) ≡ f (writes at m p)

module _ {K : Type 0} (f : Atom → Option K) (g : GivenByPlace f) (F : K → Type 0) where
  -- what the atom gives is one of those
  abbrev pub Given : Atom → Type 0
  Given a = (k : K) → f a ≡ Some k → F k

  likewise : (a b : Atom) → f b ≡ f a → Given a → Given b
  likewise a b e h k is = h k (sym e ∙ is)

  pub given_by_place : ByPlace Given
  given_by_place = record {
    ranges = λ lo hi k l d. likewise (RangeDeletion lo hi d) (RangeDeletion k l d) (g.ranges lo hi k l d);
    rows = λ c e same d. likewise (RowDeletion c d) (RowDeletion e d) (g.rows c e same d);
    lives = λ c e same l. likewise (Live c l) (Live e l) (g.lives c e same l);
    columns = λ at by m n key number d. likewise (empties at m d) (empties by n d) (g.columns at by m n key number d);
    cells = λ at by m n key number p path same. likewise (writes at m p) (writes by n (record { path = path; cell = p.cell })) (g.cells at by m n key number p path same);
  }

  pub each_given : (A : List Atom) → ((k : K) → Gives f A k → F k) → AllByRecursion Given A
  each_given [] h = tt
  each_given (a ∷ A) h = (λ k e. h k (inl e), each_given A (λ k is. h k (inr is)))

  pub given_each : (A : List Atom) → AllByRecursion Given A → (k : K) → Gives f A k → F k
  given_each [] a k is = absurd is
  given_each (x ∷ A) a k (inl e) = a.0 k e
  given_each (x ∷ A) a k (inr is) = given_each A a.1 k is

-- ---- deletions by their targets

deletion_by_place : (t : Target) → GivenByPlace (deletion_of t)
deletion_by_place t = record {
  ranges = any_cuts t;
  rows = same_clustering t;
  lives = λ c e same l. silent_live t e l ∙ sym (silent_live t c l);
  columns = λ at by m n key number d. is_emptied t by n d ∙ (λ i. emptied t (sym key i) (sym number i) d) ∙ sym (is_emptied t at m d);
  cells = λ at by m n key number p path same. silent_write t by n (record { path = path; cell = p.cell }) ∙ sym (silent_write t at m p);
}
  where
    silent_live : (t : Target) (c : Clustering) (l : Liveness) → deletion_of t (Live c l) ≡ None
    silent_live partition c l = refl
    silent_live range c l = refl
    silent_live (one_row r) c l = refl
    silent_live (one_column r n) c l = refl

    silent_write : (t : Target) (at : Option Clustering) (column : ColumnRef) (p : PathCell) → deletion_of t (writes at column p) ≡ None
    silent_write partition None column p = refl
    silent_write partition (Some c) column p = refl
    silent_write range None column p = refl
    silent_write range (Some c) column p = refl
    silent_write (one_row r) None column p = refl
    silent_write (one_row r) (Some c) column p = refl
    silent_write (one_column r n) None column p = refl
    silent_write (one_column r n) (Some c) column p = refl

    any_cuts : (t : Target) (lo hi k l : Cut) (d : Deletion) → deletion_of t (RangeDeletion k l d) ≡ deletion_of t (RangeDeletion lo hi d)
    any_cuts partition lo hi k l d = refl
    any_cuts range lo hi k l d = refl
    any_cuts (one_row r) lo hi k l d = refl
    any_cuts (one_column r n) lo hi k l d = refl

    same_clustering : (t : Target) (c e : Clustering) → c.values ≡ e.values → (d : Deletion) → deletion_of t (RowDeletion e d) ≡ deletion_of t (RowDeletion c d)
    same_clustering partition c e same d = refl
    same_clustering range c e same d = refl
    same_clustering (one_row r) c e same d = ap (λ v. then_some (same_values v r) d) (sym same)
    same_clustering (one_column r n) c e same d = refl

    emptied : Target → RowKey → ℕ → Deletion → Option Deletion
    emptied (one_column r n) key m d = then_some (same_row key r && (m == n)) d
    emptied partition key m d = None
    emptied range key m d = None
    emptied (one_row r) key m d = None

    is_emptied : (t : Target) (at : Option Clustering) (column : ColumnRef) (d : Deletion) → deletion_of t (empties at column d) ≡ emptied t (key_of at) column.number d
    is_emptied partition None column d = refl
    is_emptied partition (Some c) column d = refl
    is_emptied range None column d = refl
    is_emptied range (Some c) column d = refl
    is_emptied (one_row r) None column d = refl
    is_emptied (one_row r) (Some c) column d = refl
    is_emptied (one_column r n) None column d = refl
    is_emptied (one_column r n) (Some c) column d = refl

-- ---- livenesses and cells

live_by_place : (r : List (List ℕ)) → GivenByPlace (live_at_row r)
live_by_place r = record {
  ranges = λ lo hi k l d. refl;
  rows = λ c e same d. refl;
  lives = λ c e same l. ap (λ v. then_some (same_values v r) l) (sym same);
  columns = λ at by m n key number d. no_emptied by n d ∙ sym (no_emptied at m d);
  cells = λ at by m n key number p path same. no_write by n (record { path = path; cell = p.cell }) ∙ sym (no_write at m p);
}
  where
    no_emptied : (at : Option Clustering) (m : ColumnRef) (d : Deletion) → live_at_row r (empties at m d) ≡ None
    no_emptied None m d = refl
    no_emptied (Some c) m d = refl

    no_write : (at : Option Clustering) (m : ColumnRef) (p : PathCell) → live_at_row r (writes at m p) ≡ None
    no_write None m p = refl
    no_write (Some c) m p = refl

cell_by_place : (x : Coordinate) → GivenByPlace (cell_at_path x)
cell_by_place x = record {
  ranges = λ lo hi k l d. refl;
  rows = λ c e same d. refl;
  lives = λ c e same l. refl;
  columns = λ at by m n key number d. no_emptied by n d ∙ sym (no_emptied at m d);
  cells = λ at by m n key number p path same.
      is_written by n (record { path = path; cell = p.cell }) ∙ (λ i. then_some (is_at (sym key i) (sym number i) (sym same i) x) p.cell) ∙ sym (is_written at m p);
}
  where
    no_emptied : (at : Option Clustering) (m : ColumnRef) (d : Deletion) → cell_at_path x (empties at m d) ≡ None
    no_emptied None m d = refl
    no_emptied (Some c) m d = refl

    is_written : (at : Option Clustering) (m : ColumnRef) (p : PathCell) → cell_at_path x (writes at m p) ≡ then_some (is_at (key_of at) m.number p.path x) p.cell
    is_written None m p = refl
    is_written (Some c) m p = refl

-- ---- lists of atoms

-- where each fact of that kind goes over from one list to another, that says no more
pub says_no_more : (A B : List Atom) → ((Q : Atom → Type 0) → ByPlace Q → AllByRecursion Q B → AllByRecursion Q A) → SaysNoMore A B
says_no_more A B h = record {
  lives = λ r. over (live_at_row r) (live_by_place r);
  cells = λ x. over (cell_at_path x) (cell_by_place x);
  deletions = λ t. over (deletion_of t) (deletion_by_place t);
}
  where
    over : {K : Type 0} (f : Atom → Option K) → GivenByPlace f → (k : K) → Gives f A k → Gives f B k
    over f g = given_each f g (Gives f B) A (h (Given f g (Gives f B)) (given_by_place f g (Gives f B)) (each_given f g (Gives f B) B (λ k is. is)))

pub no_more_itself : (A : List Atom) → SaysNoMore A A
no_more_itself A = record { lives = λ r l h. h; cells = λ x v h. h; deletions = λ t d h. h }

pub no_more_then : (A B C : List Atom) → SaysNoMore A B → SaysNoMore B C → SaysNoMore A C
no_more_then A B C a b = record {
  lives = λ r l h. b.lives r l (a.lives r l h);
  cells = λ x v h. b.cells x v (a.cells x v h);
  deletions = λ t d h. b.deletions t d (a.deletions t d h);
}

-- the same list behind both
pub no_more_kept : (A B C : List Atom) → SaysNoMore A B → SaysNoMore (A ++ C) (B ++ C)
no_more_kept A B C a = record {
  lives = λ r. behind (live_at_row r) (a.lives r);
  cells = λ x. behind (cell_at_path x) (a.cells x);
  deletions = λ t. behind (deletion_of t) (a.deletions t);
}
  where
    first : {K : Type 0} (f : Atom → Option K) (k : K) (A : List Atom) → Gives f A k → Gives f (A ++ C) k
    first f k [] h = absurd h
    first f k (x ∷ A) (inl e) = inl e
    first f k (x ∷ A) (inr h) = inr (first f k A h)

    last : {K : Type 0} (f : Atom → Option K) (k : K) (A : List Atom) → Gives f C k → Gives f (A ++ C) k
    last f k [] h = h
    last f k (x ∷ A) h = inr (last f k A h)

    either : {K : Type 0} (f : Atom → Option K) (k : K) (A : List Atom) (G : Type 0) → (Gives f A k → G) → (Gives f C k → G) → Gives f (A ++ C) k → G
    either f k [] G l r h = r h
    either f k (x ∷ A) G l r (inl e) = l (inl e)
    either f k (x ∷ A) G l r (inr h) = either f k A G (λ g. l (inr g)) r h

    behind : {K : Type 0} (f : Atom → Option K) → ((k : K) → Gives f A k → Gives f B k) → (k : K) → Gives f (A ++ C) k → Gives f (B ++ C) k
    behind f h k g = either f k A (Gives f (B ++ C) k) (λ l. first f k B (h k l)) (λ r. last f k B r) g

pub merge_says_no_more : (order : List Ordered) (ss : List Stream) → AllByRecursion (λ s. IsOrdered order s.fragments) ss → SaysNoMore (flat_of (merged ss)) (flats ss)
merge_says_no_more order ss o = says_no_more (flat_of (merged ss)) (flats ss) (λ Q q a. holds_merged Q q ss (each_holds Q q order ss o a))

-- What stays of a well-formed stream is well formed.
use Rattle.std.proofs.Common.{◌≡◌, ℤ, Bool, true, false, cond, not, ◌||◌, Option, None, Some, is_some, List, [], ◌∷◌, ◌++◌, map, filter, refl, sym, ap, ◌∙◌, subst}
use Rattle.std.specs.List.{AllByRecursion, cons_option}
use Rattle.std.specs.Ordering.{nat_cmp}
use Rattle.std.specs.declared.cmp.Ordering.{Ordering}
use Rattle.std.specs.declared.cmp.Ordering.TheVariants.{Less}
use Rattle.cas_types.specs.Schemas.{is_static, is_regular, path_type}
use Rattle.cas_types.specs.declared.tag.TypeTag.{TypeTag}
use Rattle.cas_types.specs.declared.schema.Column.{Column}
use Rattle.cas_types.specs.declared.schema.Kind.{Kind}
use Rattle.cas_cell.specs.declared.deletion.Deletion.{Deletion}
use Rattle.cas_bounds.specs.ClusteringOrder.{clustering_order}
use Rattle.cas_bounds.specs.Points.{row_point, cut_point}
use Rattle.cas_bounds.specs.declared.order.Ordered.{Ordered}
use Rattle.cas_bounds.specs.declared.cuts.Cut.{Cut}
use Rattle.cas_bounds.specs.declared.cuts.Clustering.{Clustering}
use Rattle.cas_atoms.specs.Fits.{is_path}
use Rattle.cas_atoms.specs.RowsAndPaths.{path_cmp}
use Rattle.cas_atoms.specs.declared.atom.Atom.{Atom}
use Rattle.cas_atoms.specs.declared.row.Row.{Row}
use Rattle.cas_atoms.specs.declared.row.RowColumn.{RowColumn}
use Rattle.cas_atoms.specs.declared.row.PathCell.{PathCell}
use Rattle.cas_laws.proofs.GreatestProofs.{no_none}
use Rattle.cas_streams.specs.Places.{Place, place_of, place_cmp}
use Rattle.cas_streams.specs.Flat.{atom_of, empties, writes, of_column, own, Change, changes, at_end}
use Rattle.cas_streams.specs.Streams.{IsOf, IsOrdered, IsThere, IsColumn, AreColumns, IsFragment, Differ}
use Rattle.cas_streams.specs.Settled.{if_said}
use Rattle.cas_streams.specs.declared.fragment.Fragment.{Fragment}
use Rattle.cas_streams.specs.declared.fragment.Fragment.TheVariants as fragment
use Rattle.cas_streams.proofs.Weaves.{Ascend, keys_ascend, ascend_by_keys}
use Rattle.cas_purge.specs.Purged.{unless, deletion_goes, cell_goes, purged_column, purged_columns, purged_row, purged_from}
use Rattle.cas_purge.specs.Laws.{PurgeIsWellFormed}
use Rattle.cas_purge.proofs.Dropping.{kept_changes, changes_kept}

-- ---- lists of which a test leaves some

each_kept : {X : Type 0} (P : X → Type 0) (t : X → Bool) (xs : List X) → AllByRecursion P xs → AllByRecursion P (filter t xs)
each_kept P t [] a = tt
each_kept P t (x ∷ xs) a = by_test (t x) (each_kept P t xs a.1)
  where
    by_test : (b : Bool) → AllByRecursion P (filter t xs) → AllByRecursion P (cond b (x ∷ filter t xs) (filter t xs))
    by_test true later = (a.0, later)
    by_test false later = later

rising_kept : {X K : Type 0} (R : K → K → Ordering) (key : X → K) (t : X → Bool) (xs : List X) → Ascend R key xs → Ascend R key (filter t xs)
rising_kept R key t [] a = tt
rising_kept R key t (x ∷ xs) a = by_test (t x) (rising_kept R key t xs a.1)
  where
    by_test : (b : Bool) → Ascend R key (filter t xs) → Ascend R key (cond b (x ∷ filter t xs) (filter t xs))
    by_test true later = (each_kept (λ y. R (key x) (key y) ≡ Less) t xs a.0, later)
    by_test false later = later

-- what stays was there
was_there : {X : Type 0} (goes : X → Bool) (w : Option X) (x : X) → unless goes w ≡ Some x → w ≡ Some x
was_there goes None x e = no_none x e
was_there goes (Some y) x e = by_test (goes y) e
  where
    by_test : (b : Bool) → cond b None (Some y) ≡ Some x → Some y ≡ Some x
    by_test true f = no_none x f
    by_test false f = f

-- ---- columns

cells_there : (at : Option Clustering) (c : RowColumn) → IsThere (of_column at c) → c.deletion ≡ None → IsThere c.cells
cells_there at c h none = made c.cells (subst (λ d. IsThere (atom_of (empties at c.column) d ++ map (writes at c.column) c.cells)) none h)
  where
    made : (ps : List PathCell) → IsThere (map (writes at c.column) ps) → IsThere ps
    made [] no_cell = no_cell
    made (p ∷ ps) cell = tt

module _ (before limit : ℤ) where
  module _ (is_of : Kind → Bool) (columns : List Column) (at : Option Clustering) where
    column_stays : (c : RowColumn) → IsColumn is_of columns c → IsThere (of_column at (purged_column before limit c)) → IsColumn is_of columns (purged_column before limit c)
    column_stays c i some =
        let tag : Option TypeTag = path_type i.column.shape i.column.tag in
        let t = λ (p : PathCell). not (cell_goes before limit p.cell) in
        record {
          column = i.column;
          named = i.named;
          kind = i.kind;
          ascend = keys_ascend (path_cmp tag) (λ p. p.path) (filter t c.cells) (rising_kept (path_cmp tag) (λ p. p.path) t c.cells (ascend_by_keys (path_cmp tag) (λ p. p.path) c.cells i.ascend));
          paths = each_kept (λ p. is_path i.column p.path ≡ true) t c.cells i.paths;
          collection = λ d e. i.collection d (was_there (deletion_goes before limit) c.deletion d e);
          said = cells_there at (purged_column before limit c) some;
        }

    each_column : (P Q : RowColumn → Type 0) → ((c : RowColumn) → P c → IsThere (of_column at (purged_column before limit c)) → Q (purged_column before limit c))
        → (cs : List RowColumn) → AllByRecursion P cs → AllByRecursion Q (purged_columns before limit at cs)
    each_column P Q h [] a = tt
    each_column P Q h (c ∷ cs) a = by_atoms (of_column at (purged_column before limit c)) refl (each_column P Q h cs a.1)
      where
        by_atoms : (atoms : List Atom) → of_column at (purged_column before limit c) ≡ atoms → AllByRecursion Q (purged_columns before limit at cs)
            → AllByRecursion Q (cons_option (if_said atoms (purged_column before limit c)) (purged_columns before limit at cs))
        by_atoms [] e later = later
        by_atoms (x ∷ atoms) e later = (h c a.0 (subst IsThere (sym e) tt), later)

    columns_rise : (cs : List RowColumn) → Ascend nat_cmp (λ c. c.column.number) cs → Ascend nat_cmp (λ c. c.column.number) (purged_columns before limit at cs)
    columns_rise [] a = tt
    columns_rise (c ∷ cs) a =
        by_atoms (of_column at (purged_column before limit c))
        (each_column (λ d. nat_cmp c.column.number d.column.number ≡ Less) (λ d. nat_cmp c.column.number d.column.number ≡ Less) (λ d less some. less) cs a.0)
        (columns_rise cs a.1)
      where
        by_atoms : (atoms : List Atom) → AllByRecursion (λ d. nat_cmp c.column.number d.column.number ≡ Less) (purged_columns before limit at cs)
            → Ascend nat_cmp (λ d. d.column.number) (purged_columns before limit at cs)
            → Ascend nat_cmp (λ d. d.column.number) (cons_option (if_said atoms (purged_column before limit c)) (purged_columns before limit at cs))
        by_atoms [] above later = later
        by_atoms (x ∷ atoms) above later = (above, later)

    columns_stay : (cs : List RowColumn) → AreColumns is_of columns cs → AreColumns is_of columns (purged_columns before limit at cs)
    columns_stay cs a = record {
      ascend = keys_ascend nat_cmp (λ c. c.column.number) (purged_columns before limit at cs) (columns_rise cs (ascend_by_keys nat_cmp (λ c. c.column.number) cs a.ascend));
      each = each_column (IsColumn is_of columns) (IsColumn is_of columns) column_stays cs a.each;
    }

  -- ---- a fact of each fragment

  module _ (P Q : Fragment → Type 0) (static : (cs : List RowColumn) → P (fragment.Static cs) → IsThere (own (fragment.Static (purged_columns before limit None cs))) → Q (fragment.Static (purged_columns before limit None cs)))
      (row : (r : Row) → P (fragment.Row r) → IsThere (own (fragment.Row (purged_row before limit r))) → Q (fragment.Row (purged_row before limit r)))
      (marker : (cut : Cut) (d e : Option Deletion) → P (fragment.Marker cut d) → Q (fragment.Marker cut e)) where
    where_said : (atoms : List Atom) (f : Fragment) (rest : List Fragment) → own f ≡ atoms → (IsThere (own f) → Q f) → AllByRecursion Q rest → AllByRecursion Q (cons_option (if_said atoms f) rest)
    where_said [] f rest e q all = all
    where_said (a ∷ atoms) f rest e q all = (q (subst IsThere (sym e) tt), all)

    where_marked : (b : Bool) (f : Fragment) (rest : List Fragment) → Q f → AllByRecursion Q rest → AllByRecursion Q (cons_option (cond b (Some f) None) rest)
    where_marked true f rest q all = (q, all)
    where_marked false f rest q all = all

    each_left : (now : Bool) (fs : List Fragment) → AllByRecursion P fs → AllByRecursion Q (purged_from before limit now fs)
    each_left now [] a = tt
    each_left now (fragment.Static cs ∷ fs) a =
        let f : Fragment = fragment.Static (purged_columns before limit None cs) in
        where_said (own f) f (purged_from before limit now fs) refl (static cs a.0) (each_left now fs a.1)
    each_left now (fragment.Row r ∷ fs) a =
        let f : Fragment = fragment.Row (purged_row before limit r) in
        where_said (own f) f (purged_from before limit now fs) refl (row r a.0) (each_left now fs a.1)
    each_left now (fragment.Marker cut d ∷ fs) a =
        let kept : Option Deletion = unless (deletion_goes before limit) d in
        where_marked (now || is_some kept) (fragment.Marker cut kept) (purged_from before limit (is_some kept) fs) (marker cut d kept a.0) (each_left (is_some kept) fs a.1)

  -- ---- order

  module _ (order : List Ordered) where
    behind : (p : Place) (now : Bool) (fs : List Fragment) → AllByRecursion (λ f. place_cmp order p (place_of f) ≡ Less) fs
        → AllByRecursion (λ f. place_cmp order p (place_of f) ≡ Less) (purged_from before limit now fs)
    behind p = each_left (λ f. place_cmp order p (place_of f) ≡ Less) (λ f. place_cmp order p (place_of f) ≡ Less) (λ cs e some. e) (λ r e some. e) (λ cut d kept e. e)

    rise_said : (atoms : List Atom) (f : Fragment) (rest : List Fragment) → AllByRecursion (λ g. place_cmp order (place_of f) (place_of g) ≡ Less) rest → Ascend (place_cmp order) place_of rest
        → Ascend (place_cmp order) place_of (cons_option (if_said atoms f) rest)
    rise_said [] f rest b a = a
    rise_said (x ∷ atoms) f rest b a = (b, a)

    rise_marked : (t : Bool) (f : Fragment) (rest : List Fragment) → AllByRecursion (λ g. place_cmp order (place_of f) (place_of g) ≡ Less) rest → Ascend (place_cmp order) place_of rest
        → Ascend (place_cmp order) place_of (cons_option (cond t (Some f) None) rest)
    rise_marked true f rest b a = (b, a)
    rise_marked false f rest b a = a

    fragments_rise : (now : Bool) (fs : List Fragment) → Ascend (place_cmp order) place_of fs → Ascend (place_cmp order) place_of (purged_from before limit now fs)
    fragments_rise now [] a = tt
    fragments_rise now (fragment.Static cs ∷ fs) a =
        let f : Fragment = fragment.Static (purged_columns before limit None cs) in
        rise_said (own f) f (purged_from before limit now fs) (behind None now fs a.0) (fragments_rise now fs a.1)
    fragments_rise now (fragment.Row r ∷ fs) a =
        let f : Fragment = fragment.Row (purged_row before limit r) in
        rise_said (own f) f (purged_from before limit now fs) (behind (Some (row_point r.clustering.values)) now fs a.0) (fragments_rise now fs a.1)
    fragments_rise now (fragment.Marker cut d ∷ fs) a =
        let kept : Option Deletion = unless (deletion_goes before limit) d in
        rise_marked (now || is_some kept) (fragment.Marker cut kept) (purged_from before limit (is_some kept) fs) (behind (Some (cut_point cut)) (is_some kept) fs a.0) (fragments_rise (is_some kept) fs a.1)

  -- ---- what is in force

  passed_end : (d e : Option Deletion) (cut : Cut) (rest : List Change) → at_end d (cond (is_some d || is_some e) (record { at = cut; to = e } ∷ rest) rest) ≡ at_end e rest
  passed_end (Some c) e cut rest = refl
  passed_end None (Some c) cut rest = refl
  passed_end None None cut rest = refl

  end_kept : (now : Option Deletion) (ms : List Change)
      → at_end (unless (deletion_goes before limit) now) (kept_changes before limit (is_some (unless (deletion_goes before limit) now)) ms) ≡ unless (deletion_goes before limit) (at_end now ms)
  end_kept now [] = refl
  end_kept now (m ∷ ms) =
      let to : Option Deletion = unless (deletion_goes before limit) m.to in
      passed_end (unless (deletion_goes before limit) now) to m.at (kept_changes before limit (is_some to) ms) ∙ end_kept m.to ms

  -- deletions that differ, and of which one stays, still differ
  passed_differ : (now to d e : Option Deletion) (cut : Cut) (rest : List Change) → (now ≡ to → ⊥) → unless (deletion_goes before limit) now ≡ d → unless (deletion_goes before limit) to ≡ e
      → Differ e rest → Differ d (cond (is_some d || is_some e) (record { at = cut; to = e } ∷ rest) rest)
  passed_differ now to (Some c) e cut rest differ f g h = (
    λ same. differ (was_there (deletion_goes before limit) now c f ∙ sym (was_there (deletion_goes before limit) to c (g ∙ sym same))),
    h,
  )
  passed_differ now to None (Some c) cut rest differ f g h = (λ same. no_none c same, h)
  passed_differ now to None None cut rest differ f g h = h

  differ_kept : (now : Option Deletion) (ms : List Change) → Differ now ms
      → Differ (unless (deletion_goes before limit) now) (kept_changes before limit (is_some (unless (deletion_goes before limit) now)) ms)
  differ_kept now [] h = tt
  differ_kept now (m ∷ ms) h =
      let to : Option Deletion = unless (deletion_goes before limit) m.to in
      passed_differ now m.to (unless (deletion_goes before limit) now) to m.at (kept_changes before limit (is_some to) ms) h.0 refl refl (differ_kept m.to ms h.1)

pub purge_is_well_formed : PurgeIsWellFormed
purge_is_well_formed before limit columns s w =
    let order : List Ordered = clustering_order columns in
    let o : IsOrdered order s.fragments = w.ordered in
    let left : List Fragment = purged_from before limit false s.fragments in
    record {
      ordered = record {
        places = keys_ascend (place_cmp order) place_of left (fragments_rise before limit order false s.fragments (ascend_by_keys (place_cmp order) place_of s.fragments o.places));
        of = each_left before limit (IsOf order) (IsOf order) (λ cs of some. tt) (λ r of some. of) (λ cut d kept of. of) false s.fragments o.of;
        closed = ap (at_end None) (changes_kept before limit false s.fragments) ∙ end_kept before limit None (changes s.fragments) ∙ ap (unless (deletion_goes before limit)) o.closed;
      };
      fragments = each_left before limit (IsFragment columns) (IsFragment columns)
          (λ cs is some. (columns_stay before limit is_static columns None cs is.0, some))
          (λ r is some. (columns_stay before limit is_regular columns (Some r.clustering) r.columns is.0, some))
          (λ cut d kept is. tt) false s.fragments w.fragments;
      markers = subst (Differ None) (sym (changes_kept before limit false s.fragments)) (differ_kept before limit None (changes s.fragments) w.markers);
    }

-- A row, and the static row, are the same in a stream as in the row's view.
use Rattle.std.proofs.Common.{◌≡◌, ℕ, ℤ, Bool, true, false, Option, None, Some, List, [], ◌∷◌, ◌++◌, append_assoc, map, filter, cond, inl, inr, refl, sym, ap, ◌∙◌, subst}
use Rattle.std.proofs.lemmas.Bool.{true≢false}
use Rattle.std.proofs.lemmas.Cmp.{tied_itself}
use Rattle.std.proofs.lemmas.List.{append-nil}
use Rattle.std.specs.Bool.{then_some}
use Rattle.std.specs.List.{AllByRecursion, flat_map}
use Rattle.std.specs.List.Sorted.{IsStrictlySortedBy}
use Rattle.std.specs.Cmp.Lexicographic.{lists_total}
use Rattle.std.specs.Ordering.{is_lt, is_eq}
use Rattle.cas_types.proofs.OrderLaws.{bytes_orders}
use Rattle.std.specs.declared.cmp.Ordering.{Ordering}
use Rattle.std.specs.declared.cmp.Ordering.TheVariants.{Less}
use Rattle.cas_types.specs.Orders.{Orders}
use Rattle.cas_cell.specs.Deletions.{deletion_cmp}
use Rattle.cas_cell.specs.Laws.{ByTime}
use Rattle.cas_cell.specs.declared.deletion.Deletion.{Deletion}
use Rattle.cas_cell.proofs.OrderLaws.{deletion_laws, live_laws, cell_laws}
use Rattle.cas_bounds.specs.Points.{point_cmp, row_point}
use Rattle.cas_bounds.specs.declared.cuts.Clustering.{Clustering}
use Rattle.cas_bounds.specs.declared.order.Ordered.{Ordered}
use Rattle.cas_bounds.proofs.CutLaws.{point_laws}
use Rattle.cas_atoms.specs.Greatest.{greater, greatest}
use Rattle.cas_atoms.specs.Coordinates.{Coordinate, RowKey, row, clustered, static_row, row_of, same_row, same_values, deletion_at, live_at_row, cell_at_path}
use Rattle.cas_atoms.specs.Winners.{cover, standing}
use Rattle.cas_atoms.specs.Picks.{living}
use Rattle.cas_atoms.specs.Answers.{is_living}
use Rattle.cas_atoms.specs.declared.atom.Atom.{Atom}
use Rattle.cas_atoms.specs.declared.atom.Atom.TheVariants.{PartitionDeletion, RowDeletion}
use Rattle.cas_atoms.specs.declared.row.Row.{Row}
use Rattle.cas_laws.specs.Given.{Has}
use Rattle.cas_laws.specs.Inside.{SameWhere, AliveWhere}
use Rattle.cas_laws.proofs.JoinProofs.{winner_is, same_where_joins}
use Rattle.cas_laws.proofs.ShownProofs.{equal_rows, equal_values}
use Rattle.cas_streams.specs.Places.{place_of, place_cmp, row_in}
use Rattle.cas_streams.specs.Flat.{atom_of, own, in_force, flat}
use Rattle.cas_streams.specs.Streams.{IsOrdered}
use Rattle.cas_streams.specs.Laws.{is_row, row_says}
use Rattle.cas_streams.specs.declared.fragment.Fragment.{Fragment}
use Rattle.cas_streams.specs.declared.fragment.Fragment.TheVariants as fragment
use Rattle.cas_streams.proofs.OwnRows.{none_given, not_of_row}
use Rattle.cas_streams.proofs.Rows.{rows_say_all}
use Rattle.cas_live.specs.Views.{shared, row_view}

-- ---- the same in some rows

module _ {inside : RowKey → Bool} where
  unchanged : (A : List Atom) → SameWhere inside A A
  unchanged A = record { covers = λ x e. refl; lives = λ c e. refl; cells = λ x e. refl }

  backwards : {A B : List Atom} → SameWhere inside A B → SameWhere inside B A
  backwards s = record { covers = λ x e. sym (s.covers x e); lives = λ c e. sym (s.lives c e); cells = λ x e. sym (s.cells x e) }

  onwards : {A B C : List Atom} → SameWhere inside A B → SameWhere inside B C → SameWhere inside A C
  onwards s t = record { covers = λ x e. s.covers x e ∙ t.covers x e; lives = λ c e. s.lives c e ∙ t.lives c e; cells = λ x e. s.cells x e ∙ t.cells x e }

  pub at_moment : {A B : List Atom} (now : ℤ) → SameWhere inside A B → AliveWhere inside now A B
  at_moment now s = record { lives = λ c e. ap (is_living now) (s.lives c e); cells = λ x e. ap (living now) (s.cells x e) }

-- ---- where nothing is said

nothing_stands : {Y : Type 0} (at : Y → ℤ) (d : Option Deletion) → standing at d None ≡ None
nothing_stands at None = refl
nothing_stands at (Some d) = refl

-- nothing wins where nothing is written
none_wins : {Y : Type 0} {cmp : Y → Y → Ordering} {at : Y → ℤ} (o : Orders cmp) (t : ByTime cmp at) (given : Atom → Option Y) (x : Coordinate) (A : List Atom)
    → greatest cmp given A ≡ None → greatest cmp (λ a. standing at (cover A x) (given a)) A ≡ None
none_wins {at = at} o t given x A e = winner_is o t given x A ∙ ap (standing at (cover A x)) e ∙ nothing_stands at (cover A x)

-- a fragment says nothing of another row
other_row : (f : Fragment) (s : RowKey) → is_row s (row_in f) ≡ false → SameWhere (same_row s) (own f) []
other_row f s apart =
    let (r, only, e) = not_of_row f s apart in
    record {
      covers = λ x i. none_given deletion_laws.orders (deletion_at x) (row_of x) (λ q a o. o.deletes x) r (own f) only (ap (same_row r) (sym (equal_rows s (row_of x) i)) ∙ e);
      lives = λ c i.
          none_wins live_laws.orders live_laws.by_time (live_at_row c) (row c) (own f)
          (none_given live_laws.orders (live_at_row c) (clustered c) (λ q a o. o.lives c) r (own f) only (ap (same_row r) (sym (equal_rows s (clustered c) i)) ∙ e));
      cells = λ x i.
          none_wins cell_laws.orders cell_laws.by_time (cell_at_path x) x (own f)
          (none_given cell_laws.orders (cell_at_path x) (row_of x) (λ q a o. o.cells x) r (own f) only (ap (same_row r) (sym (equal_rows s (row_of x) i)) ∙ e));
    }

-- nor does the static row say anything of rows
static_elsewhere : (c : List (List ℕ)) (fs : List Fragment) → SameWhere (same_row (clustered c)) (flat_map own (filter (λ f. is_row static_row (row_in f)) fs)) []
static_elsewhere c [] = unchanged []
static_elsewhere c (fragment.Static cs ∷ fs) =
    same_where_joins (same_row (clustered c)) (own (fragment.Static cs)) [] (flat_map own (filter (λ f. is_row static_row (row_in f)) fs)) []
    (other_row (fragment.Static cs) (clustered c) refl) (static_elsewhere c fs)
static_elsewhere c (fragment.Row r ∷ fs) = static_elsewhere c fs
static_elsewhere c (fragment.Marker cut d ∷ fs) = static_elsewhere c fs

-- ---- a deletion of the row

deletes_row : (c : Clustering) (d : Option Deletion) → SameWhere (same_row (clustered c.values)) (atom_of PartitionDeletion d) (atom_of (RowDeletion c) d)
deletes_row c None = unchanged []
deletes_row c (Some d) = record {
  covers = λ x e. ap (λ b. greater deletion_cmp (then_some b d) None) (sym e);
  lives = λ r e.
      none_wins live_laws.orders live_laws.by_time (live_at_row r) (row r) (PartitionDeletion d ∷ []) refl
      ∙ sym (none_wins live_laws.orders live_laws.by_time (live_at_row r) (row r) (RowDeletion c d ∷ []) refl);
  cells = λ x e.
      none_wins cell_laws.orders cell_laws.by_time (cell_at_path x) x (PartitionDeletion d ∷ []) refl
      ∙ sym (none_wins cell_laws.orders cell_laws.by_time (cell_at_path x) x (RowDeletion c d ∷ []) refl);
}

not_static : (c : Clustering) (d : Option Deletion) → SameWhere (same_row static_row) (atom_of (RowDeletion c) d) []
not_static c None = unchanged []
not_static c (Some d) = record {
  covers = λ x e. ap (λ r. greater deletion_cmp (then_some (same_row (clustered c.values) r) d) None) (sym (equal_rows static_row (row_of x) e));
  lives = λ r e. none_wins live_laws.orders live_laws.by_time (live_at_row r) (row r) (RowDeletion c d ∷ []) refl;
  cells = λ x e. none_wins cell_laws.orders cell_laws.by_time (cell_at_path x) x (RowDeletion c d ∷ []) refl;
}

-- of the static row a row's view says what all rows share
pub static_view : (all : List Atom) (force : Option Deletion) (r : Row) → SameWhere (same_row static_row) all (row_view all force r)
static_view all force r =
    let deletion : List Atom = atom_of (RowDeletion r.clustering) force in
    subst (λ A. SameWhere (same_row static_row) A (all ++ (deletion ++ own (fragment.Row r)))) (append-nil all)
    (same_where_joins (same_row static_row) all all [] (deletion ++ own (fragment.Row r)) (unchanged all)
    (backwards (same_where_joins (same_row static_row) deletion [] (own (fragment.Row r)) [] (not_static r.clustering force) (other_row (fragment.Row r) static_row refl))))

-- ---- one row of a stream

pub same_itself : (c : List (List ℕ)) → same_values c c ≡ true
same_itself c = ap is_eq (tied_itself (lists_total bytes_orders.total) c)

module _ (order : List Ordered) where
  not_itself : (c d : List (List ℕ)) → point_cmp order (row_point c) (row_point d) ≡ Less → same_values d c ≡ true → ⊥
  not_itself c d less same =
      let there : row_point d ≡ row_point c = ap row_point (equal_values d c same) in
      true≢false (sym (ap is_lt less) ∙ ap (λ p. is_lt (point_cmp order (row_point c) p)) there ∙ ap is_lt (tied_itself (point_laws.orders order).total (row_point c)))

  is_false : (b : Bool) → (b ≡ true → ⊥) → b ≡ false
  is_false true h = absurd (h refl)
  is_false false h = refl

  none_behind : (c : List (List ℕ)) (fs : List Fragment) → AllByRecursion (λ p. place_cmp order (Some (row_point c)) p ≡ Less) (map place_of fs)
      → filter (λ f. is_row (clustered c) (row_in f)) fs ≡ []
  none_behind c [] a = refl
  none_behind c (fragment.Static cs ∷ fs) a = none_behind c fs a.1
  none_behind c (fragment.Row r ∷ fs) a =
      ap (λ b. cond b (fragment.Row r ∷ filter (λ f. is_row (clustered c) (row_in f)) fs) (filter (λ f. is_row (clustered c) (row_in f)) fs))
      (is_false (same_values r.clustering.values c) (not_itself c r.clustering.values a.0)) ∙ none_behind c fs a.1
  none_behind c (fragment.Marker cut d ∷ fs) a = none_behind c fs a.1

  reached : (p : List (List ℕ)) (r : Row) (fs : List Fragment) → AllByRecursion (λ q. place_cmp order (Some (row_point p)) q ≡ Less) (map place_of fs) → Has fs (fragment.Row r)
      → point_cmp order (row_point p) (row_point r.clustering.values) ≡ Less
  reached p r [] a none = absurd none
  reached p r (f ∷ fs) a (inl e) = subst (λ g. place_cmp order (Some (row_point p)) (place_of g) ≡ Less) e a.0
  reached p r (f ∷ fs) a (inr has) = reached p r fs a.1 has

  -- the fragments of a row are that row alone
  one_row : (fs : List Fragment) (r : Row) → IsStrictlySortedBy (place_cmp order) (map place_of fs) → Has fs (fragment.Row r)
      → filter (λ f. is_row (clustered r.clustering.values) (row_in f)) fs ≡ fragment.Row r ∷ []
  unfolding IsStrictlySortedBy
  one_row [] r s none = absurd none
  one_row (f ∷ fs) r s (inl e) =
      subst (λ g. filter (λ f. is_row (clustered r.clustering.values) (row_in f)) (g ∷ fs) ≡ fragment.Row r ∷ []) (sym e)
      (ap (λ b. cond b (fragment.Row r ∷ filter (λ f. is_row (clustered r.clustering.values) (row_in f)) fs) (filter (λ f. is_row (clustered r.clustering.values) (row_in f)) fs)) (same_itself r.clustering.values)
      ∙ ap (λ rest. fragment.Row r ∷ rest) (none_behind r.clustering.values fs (subst (λ g. AllByRecursion (λ q. place_cmp order (place_of g) q ≡ Less) (map place_of fs)) e s.0)))
  one_row (fragment.Static cs ∷ fs) r s (inr has) = one_row fs r s.1 has
  one_row (fragment.Row p ∷ fs) r s (inr has) =
      ap (λ b. cond b (fragment.Row p ∷ filter (λ f. is_row (clustered r.clustering.values) (row_in f)) fs) (filter (λ f. is_row (clustered r.clustering.values) (row_in f)) fs))
      (is_false (same_values p.clustering.values r.clustering.values) (λ e. not_itself p.clustering.values r.clustering.values (reached p.clustering.values r fs s.0 has) (turned_values e)))
      ∙ one_row fs r s.1 has
    where
      turned_values : same_values p.clustering.values r.clustering.values ≡ true → same_values r.clustering.values p.clustering.values ≡ true
      turned_values e = ap (λ c. same_values c p.clustering.values) (sym (equal_values p.clustering.values r.clustering.values e)) ∙ same_itself p.clustering.values
  one_row (fragment.Marker cut d ∷ fs) r s (inr has) = one_row fs r s.1 has

-- ---- the view

-- a row and the static row
abbrev pub sees : List (List ℕ) → RowKey → Bool
sees c static_row = true
sees c (clustered d) = same_values c d

-- what holds of both
of_both : {G : Type 0} (c : List (List ℕ)) (s : RowKey) → sees c s ≡ true → (same_row static_row s ≡ true → G) → (same_row (clustered c) s ≡ true → G) → G
of_both c static_row e f g = f refl
of_both c (clustered d) e f g = g e

module _ {order : List Ordered} (top : Option Deletion) (fs : List Fragment) (ordered : IsOrdered order fs) (r : Row) (has : Has fs (fragment.Row r)) where
  abbrev key : RowKey
  key = clustered r.clustering.values

  abbrev deletion : List Atom
  deletion = atom_of (RowDeletion r.clustering) (in_force fs key)

  abbrev static : List Atom
  static = flat_map own (filter (λ f. is_row static_row (row_in f)) fs)

  in_static : SameWhere (same_row static_row) (flat top fs) (row_view (shared top fs) (in_force fs key) r)
  in_static = onwards (rows_say_all order top fs ordered static_row) (static_view (shared top fs) (in_force fs key) r)

  own_says : SameWhere (same_row key) (row_says top fs key) (atom_of PartitionDeletion top ++ (static ++ (deletion ++ own (fragment.Row r))))
  own_says =
      let over : List Atom = atom_of PartitionDeletion (in_force fs key) in
      let said : List Atom = flat_map own (filter (λ f. is_row key (row_in f)) fs) in
      let here : said ≡ own (fragment.Row r) = ap (flat_map own) (one_row order fs r ordered.places has) ∙ append-nil (own (fragment.Row r)) in
      same_where_joins (same_row key) (atom_of PartitionDeletion top) (atom_of PartitionDeletion top) (over ++ said) (static ++ (deletion ++ own (fragment.Row r))) (unchanged (atom_of PartitionDeletion top))
      (onwards
      (same_where_joins (same_row key) over deletion said (own (fragment.Row r)) (deletes_row r.clustering (in_force fs key)) (subst (λ A. SameWhere (same_row key) said A) here (unchanged said)))
      (same_where_joins (same_row key) [] static (deletion ++ own (fragment.Row r)) (deletion ++ own (fragment.Row r)) (backwards (static_elsewhere r.clustering.values fs)) (unchanged (deletion ++ own (fragment.Row r)))))

  in_row : SameWhere (same_row key) (flat top fs) (row_view (shared top fs) (in_force fs key) r)
  in_row =
      onwards (rows_say_all order top fs ordered key)
      (subst (λ A. SameWhere (same_row key) (row_says top fs key) A) (sym (append_assoc (atom_of PartitionDeletion top) static (deletion ++ own (fragment.Row r)))) own_says)

  pub same_view : SameWhere (sees r.clustering.values) (flat top fs) (row_view (shared top fs) (in_force fs (clustered r.clustering.values)) r)
  same_view = record {
    covers = λ x e. of_both r.clustering.values (row_of x) e (in_static.covers x) (in_row.covers x);
    lives = λ c e. of_both r.clustering.values (clustered c) e (in_static.lives c) (in_row.lives c);
    cells = λ x e. of_both r.clustering.values (row_of x) e (in_static.cells x) (in_row.cells x);
  }

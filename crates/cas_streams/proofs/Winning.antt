-- In the merge, each write wins where it is written.
use Rattle.std.proofs.Common.{◌≡◌, ℕ, ◌==◌, ℤ, Bool, true, false, cond, not, ◌&&◌, Option, None, Some, List, [], ◌∷◌, filter, ◌⊎◌, inl, inr, refl, sym, ap, ◌∙◌, subst, arith}
use Rattle.std.proofs.lemmas.Bool.{true≢false}
use Rattle.std.proofs.lemmas.Bool.Decides.{nat_tests}
use Rattle.std.specs.Bool.{then_some}
use Rattle.std.specs.List.{AllByRecursion, flat_map, cons_option}
use Rattle.std.specs.Cmp.Lexicographic.{lists_total}
use Rattle.std.specs.Ordering.{is_lt, is_eq, nat_cmp}
use Rattle.std.specs.declared.cmp.Ordering.{Ordering}
use Rattle.std.specs.declared.cmp.Ordering.TheVariants.{Less, Equal}
use Rattle.std.proofs.lemmas.Cmp.{tied_itself, nat_cmp_total}
use Rattle.cas_types.specs.Orders.{Orders}
use Rattle.cas_types.specs.declared.tag.TypeTag.{TypeTag}
use Rattle.cas_types.proofs.OrderLaws.{bytes_orders}
use Rattle.cas_cell.specs.Deletions.{deletion_cmp, covered}
use Rattle.cas_cell.specs.Lives.{live_at}
use Rattle.cas_cell.specs.Cells.{cell_at, cell_cmp}
use Rattle.cas_cell.specs.declared.deletion.Deletion.{Deletion}
use Rattle.cas_cell.specs.declared.liveness.Liveness.{Liveness}
use Rattle.cas_cell.specs.declared.cell.Cell.{Cell}
use Rattle.cas_cell.proofs.OrderLaws.{deletion_laws, live_laws, cell_laws}
use Rattle.cas_bounds.specs.Points.{Point, row_point}
use Rattle.cas_bounds.proofs.CutLaws.{point_laws}
use Rattle.cas_bounds.specs.Cuts.{is_past}
use Rattle.cas_bounds.specs.declared.order.Ordered.{Ordered}
use Rattle.cas_bounds.specs.declared.cuts.Clustering.{Clustering}
use Rattle.cas_atoms.specs.Greatest.{greater, greatest}
use Rattle.cas_atoms.specs.Coordinates.{Coordinate, RowKey, row, path, clustered, static_row, same_row, same_bytes, is_in_column, deletion_at, live_at_row, cell_at_path}
use Rattle.cas_atoms.specs.Winners.{cover, standing, live_winner, cell_winner}
use Rattle.cas_atoms.specs.RowsAndPaths.{path_cmp}
use Rattle.cas_atoms.specs.declared.atom.Atom.{Atom}
use Rattle.cas_atoms.specs.declared.row.Row.{Row}
use Rattle.cas_atoms.specs.declared.row.RowColumn.{RowColumn}
use Rattle.cas_atoms.specs.declared.row.PathCell.{PathCell}
use Rattle.cas_atoms.proofs.GreatestLemmas.{greater_none, greater_assoc, greater_self}
use Rattle.cas_laws.specs.Given.{Has}
use Rattle.cas_laws.proofs.JoinProofs.{winner_is}
use Rattle.cas_laws.proofs.ShownProofs.{equal_rows, equal_bytes, path_orders}
use Rattle.cas_streams.specs.Places.{place_cmp, place_of, row_in}
use Rattle.cas_streams.specs.Flat.{changes, after, reaching, in_force, of_column, own, flat}
use Rattle.cas_streams.specs.Streams.{IsOrdered}
use Rattle.cas_streams.specs.Laws.{is_row}
use Rattle.cas_streams.specs.Joined.{opened}
use Rattle.cas_streams.specs.Settled.{is_bare, if_said, bare_column, bare_columns, bare, same_force, settled_from}
use Rattle.cas_streams.specs.declared.fragment.Fragment.{Fragment}
use Rattle.cas_streams.specs.declared.fragment.Fragment.TheVariants as fragment
use Rattle.cas_streams.proofs.OwnRows.{Only, not_of_row, none_given}
use Rattle.cas_streams.proofs.Rows.{stream_covers, stream_gives}
use Rattle.cas_streams.proofs.Weaves.{Ascend}
use Rattle.cas_streams.proofs.Parts.{greatest_of_each, gives_none, deletes_in, writes_in, cells_in, columns_delete, columns_write, row_deletes, row_lives, row_writes}
use Rattle.cas_streams.proofs.Forces.{InOrder, later, Behind, stopped}
use Rattle.cas_streams.proofs.Bare.{dropped, no_cells}
use Rattle.cas_streams.proofs.Settling.{same_force_is, stopped_by_row, past_cut}
use Rattle.cas_streams.proofs.Joining.{in_order}
use Rattle.cas_streams.proofs.Single.{single}

-- ---- nothing of it is covered

abbrev pub CleanColumn : Option Deletion → RowColumn → Type 0
CleanColumn over c = AllByRecursion (λ p. is_bare (greater deletion_cmp over c.deletion) (cell_at p.cell) ≡ true) c.cells

abbrev pub Clean : Option Deletion → Option Deletion → Fragment → Type 0
Clean top now (fragment.Static cs) = AllByRecursion (CleanColumn top) cs
Clean top now (fragment.Row r) =
    let d : Option Deletion = greater deletion_cmp (greater deletion_cmp top now) r.deletion in
    (standing live_at d r.live ≡ r.live) × AllByRecursion (CleanColumn d) r.columns
Clean top now (fragment.Marker cut d) = Unit {0}

passes : {X : Type 0} (t : X → Bool) (xs : List X) → AllByRecursion (λ x. t x ≡ true) (filter t xs)
passes t [] = tt
passes t (x ∷ xs) =
    elim (t x) as (λ b. t x ≡ b → AllByRecursion (λ y. t y ≡ true) (cond b (x ∷ filter t xs) (filter t xs))) [
      | true ↦ λ e. (e, passes t xs)
      | false ↦ λ e. passes t xs
    ] refl

clean_columns : (at : Option Clustering) (over : Option Deletion) (cs : List RowColumn) → AllByRecursion (CleanColumn over) (bare_columns at over cs)
clean_columns at over [] = tt
clean_columns at over (c ∷ cs) =
    elim (of_column at (bare_column over c)) as (λ l. AllByRecursion (CleanColumn over) (cons_option (if_said l (bare_column over c)) (bare_columns at over cs))) [
      | [] ↦ clean_columns at over cs
      | x ∷ atoms ↦ (passes (λ p. is_bare (greater deletion_cmp over c.deletion) (cell_at p.cell)) c.cells, clean_columns at over cs)
    ]

-- so it is with each fragment, by what is in force where it comes
abbrev pub AllClean : Option Deletion → Option Deletion → List Fragment → Type 0
AllClean top now [] = Unit {0}
AllClean top now (f ∷ fs) = Clean top now f × AllClean top (opened now f) fs

clean_said : (top now : Option Deletion) (atoms : List Atom) (f : Fragment) (rest : List Fragment) → opened now f ≡ now → Clean top now f → AllClean top now rest → AllClean top now (cons_option (if_said atoms f) rest)
clean_said top now [] f rest e c all = all
clean_said top now (a ∷ atoms) f rest e c all = (c, subst (λ d. AllClean top d rest) (sym e) all)

pub settled_clean : (top now : Option Deletion) (fs : List Fragment) → AllClean top now (settled_from top now fs)
settled_clean top now [] = tt
settled_clean top now (fragment.Static cs ∷ fs) =
    clean_said top now (own (bare top now (fragment.Static cs))) (bare top now (fragment.Static cs)) (settled_from top now fs) refl (clean_columns None top cs) (settled_clean top now fs)
settled_clean top now (fragment.Row r ∷ fs) =
    let d : Option Deletion = greater deletion_cmp (greater deletion_cmp top now) r.deletion in
    clean_said top now (own (bare top now (fragment.Row r))) (bare top now (fragment.Row r)) (settled_from top now fs) refl
    (dropped live_at d d r.live (greater_self deletion_laws.orders d), clean_columns (Some r.clustering) d r.columns) (settled_clean top now fs)
settled_clean top now (fragment.Marker cut d ∷ fs) =
    elim (same_force now d) as (λ b. same_force now d ≡ b → AllClean top now (cons_option (cond b None (Some (fragment.Marker cut d))) (settled_from top d fs))) [
      | true ↦ λ e. subst (λ w. AllClean top w (settled_from top d fs)) (sym (same_force_is now d e)) (settled_clean top d fs)
      | false ↦ λ e. (tt, settled_clean top d fs)
    ] refl

pub clean_row : (order : List Ordered) (top now : Option Deletion) (fs : List Fragment) (r : Row) → InOrder order fs → AllClean top now fs → Has fs (fragment.Row r)
    → Clean top (reaching now (changes fs) r.clustering.values) (fragment.Row r)
clean_row order top now [] r i a none = absurd none
clean_row order top now (fragment.Static cs ∷ fs) r i a (inl e) = cc
clean_row order top now (fragment.Static cs ∷ fs) r i a (inr has) = clean_row order top now fs r (later i) a.1 has
clean_row order top now (fragment.Row s ∷ fs) r i a (inl e) =
    subst (λ d. Clean top d (fragment.Row r)) (sym (stopped (λ k. is_past k r.clustering.values) now fs (stopped_by_row order r.clustering.values fs i.of.1 (subst (λ f. Behind order (place_of f) fs) e i.ascend.0))))
    (subst (Clean top now) e a.0)
clean_row order top now (fragment.Row s ∷ fs) r i a (inr has) = clean_row order top now fs r (later i) a.1 has
clean_row order top now (fragment.Marker cut d ∷ fs) r i a (inl e) = cc
clean_row order top now (fragment.Marker cut d ∷ fs) r i a (inr has) =
    subst (λ b. Clean top (after (λ k. is_past k r.clustering.values) (cond b d now) (changes fs)) (fragment.Row r)) (sym (past_cut order cut fs r i.of.0 i.ascend.0 has)) (clean_row order top d fs r (later i) a.1 has)

pub clean_static : (top now : Option Deletion) (fs : List Fragment) (cs : List RowColumn) → AllClean top now fs → Has fs (fragment.Static cs) → AllByRecursion (CleanColumn top) cs
clean_static top now [] cs a none = absurd none
clean_static top now (f ∷ fs) cs a (inl e) = subst (Clean top now) e a.0
clean_static top now (f ∷ fs) cs a (inr has) = clean_static top (opened now f) fs cs a.1 has

pub all_have : {X : Type 0} (P : X → Type 0) (xs : List X) (x : X) → AllByRecursion P xs → Has xs x → P x
all_have P [] x a none = absurd none
all_have P (y ∷ ys) x a (inl e) = subst P e a.0
all_have P (y ∷ ys) x a (inr has) = all_have P ys x a.1 has

-- what isn't covered stands
stands : {Y : Type 0} (at : Y → ℤ) (d : Option Deletion) (y : Y) → is_bare d (at y) ≡ true → standing at d (Some y) ≡ Some y
stands at None y e = refl
stands at (Some d) y e = bare_stays (covered d (at y)) e
  where
    bare_stays : (b : Bool) → not b ≡ true → cond b None (Some y) ≡ Some y
    bare_stays true f = absurd (true≢false (sym f))
    bare_stays false f = refl

-- ---- one column, one path

same_itself : (k : RowKey) → same_row k k ≡ true
same_itself static_row = refl
same_itself (clustered c) = ap is_eq (tied_itself (lists_total bytes_orders.total) c)

bytes_itself : (p : List ℕ) → same_bytes p p ≡ true
bytes_itself p = ap is_eq (tied_itself bytes_orders.total p)

unequal : (R : ℕ → ℕ → Ordering) (m n : ℕ) → ((k : ℕ) → R k k ≡ Equal) → R m n ≡ Less → (m == n) ≡ false
unequal R m n itself less =
    elim (m == n) as (λ b. (m == n) ≡ b → b ≡ false) [
      | true ↦ λ e. absurd (true≢false (ap is_lt (sym less ∙ ap (λ k. R k n) (same e) ∙ itself n)))
      | false ↦ λ e. refl
    ] refl
  where
    same : (m == n) ≡ true → m ≡ n
    same e = grind (arith, nat_tests)

equal_itself : (n : ℕ) → (n == n) ≡ true
equal_itself n = grind (arith, nat_tests)

less_one_way : {K : Type 0} {R : K → K → Ordering} (o : Orders R) (x y : K) → R x y ≡ Less → x ≡ y → ⊥
less_one_way {R = R} o x y less e = true≢false (ap is_lt (sym less ∙ ap (R x) (sym e) ∙ tied_itself o.total x))

module _ (key : RowKey) (k : RowColumn) (p : List ℕ) where
  at_path : Coordinate
  at_path = path key k.column.number p

  there_itself : (b : Bool) (n : ℕ) → b ≡ true → (b && (n == n)) ≡ true
  there_itself b n e = (λ i. e i && equal_itself n i)

  other_column : (c : RowColumn) → (c.column.number == k.column.number) ≡ false → is_in_column key c.column.number at_path ≡ false
  unfolding at_path
  other_column c e = ap (λ b. same_row key key && b) e ∙ and_false (same_row key key)
    where
      and_false : (b : Bool) → (b && false) ≡ false
      and_false true = refl
      and_false false = refl

  apart_left : (c : RowColumn) → nat_cmp c.column.number k.column.number ≡ Less → (c.column.number == k.column.number) ≡ false
  apart_left c e = unequal nat_cmp c.column.number k.column.number (tied_itself nat_cmp_total) e

  apart_right : (c : RowColumn) → nat_cmp k.column.number c.column.number ≡ Less → (c.column.number == k.column.number) ≡ false
  apart_right c e = turn (unequal nat_cmp k.column.number c.column.number (tied_itself nat_cmp_total) e)
    where
      turn : (k.column.number == c.column.number) ≡ false → (c.column.number == k.column.number) ≡ false
      turn f = grind (arith, nat_tests)

  module _ (cs : List RowColumn) (ascend : Ascend nat_cmp (λ c. c.column.number) cs) (has : Has cs k) where
    one_deletion : greatest deletion_cmp (deletes_in key at_path) cs ≡ k.deletion
    unfolding at_path
    one_deletion =
        single nat_cmp (λ c. c.column.number) deletion_laws.orders (deletes_in key at_path) k
        (λ c e. ap (λ b. cond b c.deletion None) (other_column c (apart_left c e))) (λ c e. ap (λ b. cond b c.deletion None) (other_column c (apart_right c e))) cs ascend has
        ∙ ap (λ b. cond b k.deletion None) (there_itself (same_row key key) k.column.number (same_itself key))

    one_cell : (tag : Option TypeTag) (q : PathCell) → Ascend (path_cmp tag) (λ c. c.path) k.cells → Has k.cells q → q.path ≡ p → greatest cell_cmp (cells_in key at_path) cs ≡ Some q.cell
    unfolding at_path
    one_cell tag q paths there e =
        single nat_cmp (λ c. c.column.number) cell_laws.orders (cells_in key at_path) k
        (λ c f. no_cells key None at_path c (other_column c (apart_left c f)) c.cells) (λ c f. no_cells key None at_path c (other_column c (apart_right c f)) c.cells) cs ascend has
        ∙ single (path_cmp tag) (λ c. c.path) cell_laws.orders (writes_in key k.column.number at_path) q
        (λ c f. elsewhere_path c (λ same. less_one_way (path_orders tag) c.path q.path f (same ∙ sym e))) (λ c f. elsewhere_path c (λ same. less_one_way (path_orders tag) q.path c.path f (e ∙ sym same))) k.cells paths there
        ∙ ap (λ b. then_some b q.cell) (λ i. same_itself key i && (equal_itself k.column.number i && (ap (λ r. same_bytes r p) e ∙ bytes_itself p) i))
      where
        elsewhere_path : (c : PathCell) → (c.path ≡ p → ⊥) → writes_in key k.column.number (path key k.column.number p) c ≡ None
        elsewhere_path c apart =
            elim (same_bytes c.path p) as (λ b. same_bytes c.path p ≡ b → then_some (same_row key key && ((k.column.number == k.column.number) && b)) c.cell ≡ None) [
              | true ↦ λ f. absurd (apart (equal_bytes c.path p f))
              | false ↦ λ f. nothing (same_row key key) (k.column.number == k.column.number) c.cell
            ] refl
          where
            nothing : (a b : Bool) (v : Cell) → then_some (a && (b && false)) v ≡ None
            nothing true true v = refl
            nothing true false v = refl
            nothing false b v = refl

-- ---- one row

apart_row : (order : List Ordered) (c : List (List ℕ)) (f : Fragment) → (place_cmp order (place_of f) (Some (row_point c)) ≡ Less) ⊎ (place_cmp order (Some (row_point c)) (place_of f) ≡ Less) → is_row (clustered c) (row_in f) ≡ false
apart_row order c (fragment.Static cs) e = refl
apart_row order c (fragment.Row r) e =
    elim (same_row (clustered r.clustering.values) (clustered c)) as (λ b. same_row (clustered r.clustering.values) (clustered c) ≡ b → b ≡ false) [
      | true ↦ λ t.
          let same : row_point r.clustering.values ≡ row_point c = ap point_of (equal_rows (clustered r.clustering.values) (clustered c) t) in
          absurd (elim (e) [
            | inl less ↦ less_one_way (point_laws.orders order) (row_point r.clustering.values) (row_point c) less same
            | inr less ↦ less_one_way (point_laws.orders order) (row_point c) (row_point r.clustering.values) less (sym same)
          ])
      | false ↦ λ t. refl
    ] refl
  where
    point_of : RowKey → Point
    point_of static_row = row_point []
    point_of (clustered d) = row_point d
apart_row order c (fragment.Marker k d) e = refl

apart_static : (order : List Ordered) (f : Fragment) → (place_cmp order (place_of f) None ≡ Less) ⊎ (place_cmp order None (place_of f) ≡ Less) → is_row static_row (row_in f) ≡ false
apart_static order (fragment.Static cs) (inl e) = absurd (true≢false (sym (ap is_lt e)))
apart_static order (fragment.Static cs) (inr e) = absurd (true≢false (sym (ap is_lt e)))
apart_static order (fragment.Row r) e = refl
apart_static order (fragment.Marker k d) e = refl

module _ {order : List Ordered} (fs : List Fragment) (i : InOrder order fs) {Y : Type 0} {cmp : Y → Y → Ordering} (o : Orders cmp) (given : Atom → Option Y) where
  own_of_row : (r : Row) → Has fs (fragment.Row r) → ((s : RowKey) (a : Atom) → Only s a → same_row s (clustered r.clustering.values) ≡ false → given a ≡ None)
      → greatest cmp given (flat_map own fs) ≡ greatest cmp given (own (fragment.Row r))
  own_of_row r has silent =
      greatest_of_each o given own fs
      ∙ single (place_cmp order) place_of o (λ f. greatest cmp given (own f)) (fragment.Row r) (λ f e. quiet f (apart_row order r.clustering.values f (inl e))) (λ f e. quiet f (apart_row order r.clustering.values f (inr e))) fs i.ascend has
    where
      quiet : (f : Fragment) → is_row (clustered r.clustering.values) (row_in f) ≡ false → greatest cmp given (own f) ≡ None
      quiet f e = let (s, only, apart) = not_of_row f (clustered r.clustering.values) e in none_given o given (clustered r.clustering.values) silent s (own f) only apart

  own_of_static : (cs : List RowColumn) → Has fs (fragment.Static cs) → ((s : RowKey) (a : Atom) → Only s a → same_row s static_row ≡ false → given a ≡ None)
      → greatest cmp given (flat_map own fs) ≡ greatest cmp given (own (fragment.Static cs))
  own_of_static cs has silent =
      greatest_of_each o given own fs
      ∙ single (place_cmp order) place_of o (λ f. greatest cmp given (own f)) (fragment.Static cs) (λ f e. quiet f (apart_static order f (inl e))) (λ f e. quiet f (apart_static order f (inr e))) fs i.ascend has
    where
      quiet : (f : Fragment) → is_row static_row (row_in f) ≡ false → greatest cmp given (own f) ≡ None
      quiet f e = let (s, only, apart) = not_of_row f static_row e in none_given o given static_row silent s (own f) only apart

-- ---- in a clean stream each write wins

module _ {order : List Ordered} (top : Option Deletion) (fs : List Fragment) (ordered : IsOrdered order fs) (clean : AllClean top None fs) where
  pub row_wins : (r : Row) (l : Liveness) → Has fs (fragment.Row r) → r.live ≡ Some l → live_winner (flat top fs) r.clustering.values ≡ Some l
  row_wins r l has e =
      let c : List (List ℕ) = r.clustering.values in
      let force : Option Deletion = in_force fs (clustered c) in
      let own_cover : cover (own (fragment.Row r)) (row c) ≡ r.deletion =
      row_deletes r (row c)
      ∙ (λ i. greater deletion_cmp (cond (same_itself (clustered c) i) r.deletion None) (gives_none deletion_cmp (deletes_in (clustered c) (row c)) (λ k. refl) r.columns i))
      ∙ greater_none deletion_laws.orders r.deletion in
      winner_is live_laws.orders live_laws.by_time (live_at_row c) (row c) (flat top fs)
      ∙ (λ i. standing live_at
      ((stream_covers top ordered (row c)
      ∙ ap (λ d. greater deletion_cmp top (greater deletion_cmp force d)) (own_of_row fs (in_order ordered) deletion_laws.orders (deletion_at (row c)) r has (λ s a only f. only.deletes (row c) f) ∙ own_cover)
      ∙ sym (greater_assoc deletion_laws.orders top force r.deletion)) i)
      ((stream_gives live_laws.orders (live_at_row c) (λ d. refl) (λ lo hi d. refl) top fs
      ∙ own_of_row fs (in_order ordered) live_laws.orders (live_at_row c) r has (λ s a only f. only.lives c f)
      ∙ row_lives r c ∙ ap (λ b. cond b r.live None) (same_itself (clustered c))) i))
      ∙ (clean_row order top None fs r (in_order ordered) clean has).0 ∙ e

  pub cell_wins : (r : Row) (k : RowColumn) (tag : Option TypeTag) (q : PathCell) → Has fs (fragment.Row r) → Ascend nat_cmp (λ c. c.column.number) r.columns → Has r.columns k
      → Ascend (path_cmp tag) (λ c. c.path) k.cells → Has k.cells q → cell_winner (flat top fs) (path (clustered r.clustering.values) k.column.number q.path) ≡ Some q.cell
  unfolding at_path
  cell_wins r k tag q has numbers column paths there =
      let key : RowKey = clustered r.clustering.values in
      let x : Coordinate = path key k.column.number q.path in
      let force : Option Deletion = in_force fs key in
      winner_is cell_laws.orders cell_laws.by_time (cell_at_path x) x (flat top fs)
      ∙ (λ i. standing cell_at
      ((stream_covers top ordered x
      ∙ ap (λ d. greater deletion_cmp top (greater deletion_cmp force d))
      (own_of_row fs (in_order ordered) deletion_laws.orders (deletion_at x) r has (λ s a only f. only.deletes x f)
      ∙ row_deletes r x
      ∙ (λ i. greater deletion_cmp (cond (same_itself key i) r.deletion None) (one_deletion key k q.path r.columns numbers column i)))
      ∙ sym (greater_assoc deletion_laws.orders top force (greater deletion_cmp r.deletion k.deletion))
      ∙ sym (greater_assoc deletion_laws.orders (greater deletion_cmp top force) r.deletion k.deletion)) i)
      ((stream_gives cell_laws.orders (cell_at_path x) (λ d. refl) (λ lo hi d. refl) top fs
      ∙ own_of_row fs (in_order ordered) cell_laws.orders (cell_at_path x) r has (λ s a only f. only.cells x f)
      ∙ row_writes r x ∙ one_cell key k q.path r.columns numbers column tag q paths there refl) i))
      ∙ stands cell_at (greater deletion_cmp (greater deletion_cmp (greater deletion_cmp top force) r.deletion) k.deletion) q.cell
      (all_have (λ p. is_bare (greater deletion_cmp (greater deletion_cmp (greater deletion_cmp top force) r.deletion) k.deletion) (cell_at p.cell) ≡ true) k.cells q
      (all_have (CleanColumn (greater deletion_cmp (greater deletion_cmp top force) r.deletion)) r.columns k (clean_row order top None fs r (in_order ordered) clean has).1 column) there)

  pub static_wins : (cs : List RowColumn) (k : RowColumn) (tag : Option TypeTag) (q : PathCell) → Has fs (fragment.Static cs) → Ascend nat_cmp (λ c. c.column.number) cs → Has cs k
      → Ascend (path_cmp tag) (λ c. c.path) k.cells → Has k.cells q → cell_winner (flat top fs) (path static_row k.column.number q.path) ≡ Some q.cell
  unfolding at_path
  static_wins cs k tag q has numbers column paths there =
      let x : Coordinate = path static_row k.column.number q.path in
      winner_is cell_laws.orders cell_laws.by_time (cell_at_path x) x (flat top fs)
      ∙ (λ i. standing cell_at
      ((stream_covers top ordered x
      ∙ ap (greater deletion_cmp top)
      (own_of_static fs (in_order ordered) deletion_laws.orders (deletion_at x) cs has (λ s a only f. only.deletes x f)
      ∙ columns_delete None x cs ∙ one_deletion static_row k q.path cs numbers column)) i)
      ((stream_gives cell_laws.orders (cell_at_path x) (λ d. refl) (λ lo hi d. refl) top fs
      ∙ own_of_static fs (in_order ordered) cell_laws.orders (cell_at_path x) cs has (λ s a only f. only.cells x f)
      ∙ columns_write None x cs ∙ one_cell static_row k q.path cs numbers column tag q paths there refl) i))
      ∙ stands cell_at (greater deletion_cmp top k.deletion) q.cell
      (all_have (λ p. is_bare (greater deletion_cmp top k.deletion) (cell_at p.cell) ≡ true) k.cells q
      (all_have (CleanColumn top) cs k (clean_static top None fs cs clean has) column) there)

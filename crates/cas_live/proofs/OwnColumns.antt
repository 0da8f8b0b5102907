-- The columns and cells of a row in order: each number and each path is there once.
use Rattle.std.proofs.Common.{◌≡◌, ℕ, nat_lt, ◌<◌, ◌≤◌, ℤ, Bool, true, false, cond, not, ◌&&◌, ◌||◌, ◌==◌, Option, None, Some, List, [], ◌∷◌, map, slice_get, ◌↔◌, inl, inr, refl, sym, ap, ◌∙◌, subst, arith}
use Rattle.std.proofs.lemmas.Bool.{true≢false, and_parts, ltb-true, lt-ltb, le-ltb, eq-eqb, ne_eqb, cases_order, false_from_ne_true}
use Rattle.std.proofs.lemmas.Cmp.{tied_itself}
use Rattle.std.specs.Bool.{then_some}
use Rattle.std.specs.List.{AllByRecursion, flat_map}
use Rattle.std.specs.List.Sorted.{IsStrictlySortedBy}
use Rattle.std.specs.Ordering.{is_lt, is_eq}
use Rattle.std.specs.declared.cmp.Ordering.{Ordering}
use Rattle.std.specs.declared.cmp.Ordering.TheVariants.{Less, Equal, Greater}
use Rattle.cas_types.proofs.OrderLaws.{bytes_orders}
use Rattle.cas_types.specs.Orders.{Orders}
use Rattle.cas_types.specs.Schemas.{path_type}
use Rattle.cas_types.specs.declared.schema.Column.{Column}
use Rattle.cas_types.specs.declared.tag.TypeTag.{TypeTag}
use Rattle.cas_cell.specs.Cells.{cell_at, cell_cmp}
use Rattle.cas_cell.specs.Deletions.{covered}
use Rattle.cas_cell.specs.declared.cell.Cell.{Cell}
use Rattle.cas_cell.specs.declared.deletion.Deletion.{Deletion}
use Rattle.cas_bounds.specs.declared.cuts.Clustering.{Clustering}
use Rattle.cas_atoms.specs.Greatest.{greater, greatest}
use Rattle.cas_atoms.specs.Coordinates.{clustered, path, same_bytes, cell_at_path}
use Rattle.cas_atoms.specs.Winners.{standing}
use Rattle.cas_atoms.specs.RowsAndPaths.{path_cmp, is_alive}
use Rattle.cas_atoms.specs.Picks.{living}
use Rattle.cas_atoms.specs.Answers.{is_empty}
use Rattle.cas_atoms.specs.declared.atom.Atom.{Atom}
use Rattle.cas_atoms.specs.declared.atom.ColumnRef.{ColumnRef}
use Rattle.cas_atoms.specs.declared.row.PathCell.{PathCell}
use Rattle.cas_atoms.specs.declared.row.RowColumn.{RowColumn}
use Rattle.cas_atoms.proofs.GreatestLemmas.{greater_none, greatest-append}
use Rattle.cas_laws.specs.Given.{Has}
use Rattle.cas_laws.proofs.ShownProofs.{equal_bytes, path_orders}
use Rattle.cas_streams.specs.Flat.{writes, of_column}
use Rattle.cas_live.specs.Inner.InOrder.{is_before, ascend, ascend_in, is_below, are_in_order}
use Rattle.cas_live.specs.Inner.OwnRow.{columns_from, front_of, cells_in, cell_of, shows, some_shows, shown_cells}
use Rattle.cas_live.proofs.RowViews.{same_itself}

-- ---- numbers

pub columns_twice : (m n : ℕ) (cs : List RowColumn) → m ≤ n → columns_from n (columns_from m cs) ≡ columns_from n cs
columns_twice m n [] h = refl
columns_twice m n (c ∷ cs) h =
    elim (nat_lt c.column.number m) as (λ b. nat_lt c.column.number m ≡ b → columns_from n (cond b (columns_from m cs) (c ∷ cs)) ≡ columns_from n (c ∷ cs)) [
      | true ↦ λ e. let less : c.column.number < m = ltb-true c.column.number m e in
          columns_twice m n cs h ∙ sym (ap (λ b. cond b (columns_from n cs) (c ∷ cs)) (lt-ltb c.column.number n (omega arith)))
      | false ↦ λ e. refl
    ] refl

-- from number 0 on are all
pub from_none : (cs : List RowColumn) → columns_from 0 cs ≡ cs
from_none [] = refl
from_none (c ∷ cs) = ap (λ b. cond b (columns_from 0 cs) (c ∷ cs)) (le-ltb c.column.number 0 (omega arith))

-- the column of that number
abbrev pub column_of : ℕ → List RowColumn → Option RowColumn
column_of n cs = front_of n (columns_from n cs)

none_below : (n m : ℕ) (cs : List RowColumn) → n ≤ m → is_below m cs ≡ true → column_of n cs ≡ None
none_below n m [] h b = refl
none_below n m (c ∷ cs) h b =
    let above : m < c.column.number = ltb-true m c.column.number b in
    ap (λ t. front_of n (cond t (columns_from n cs) (c ∷ cs))) (le-ltb c.column.number n (omega arith))
    ∙ ap (λ t. then_some t c) (ne_eqb c.column.number n (λ e. omega arith))

is_here : (n : ℕ) (c : RowColumn) (cs : List RowColumn) → c.column.number ≡ n → column_of n (c ∷ cs) ≡ Some c
is_here n c cs e =
    ap (λ t. front_of n (cond t (columns_from n cs) (c ∷ cs))) (le-ltb c.column.number n (omega arith))
    ∙ ap (λ t. then_some t c) (eq-eqb c.column.number n e)

is_later : (n : ℕ) (c : RowColumn) (cs : List RowColumn) → c.column.number < n → column_of n (c ∷ cs) ≡ column_of n cs
is_later n c cs less = ap (λ t. front_of n (cond t (columns_from n cs) (c ∷ cs))) (lt-ltb c.column.number n less)

is_none : (n : ℕ) (c : RowColumn) (cs : List RowColumn) → n < c.column.number → column_of n (c ∷ cs) ≡ None
is_none n c cs more =
    ap (λ t. front_of n (cond t (columns_from n cs) (c ∷ cs))) (le-ltb c.column.number n (omega arith))
    ∙ ap (λ t. then_some t c) (ne_eqb c.column.number n (λ e. omega arith))

abbrev pub value_in : {Y : Type 0} → (RowColumn → Option Y) → Option RowColumn → Option Y
value_in g None = None
value_in g (Some c) = g c

-- the greatest that columns in order give is what the one of that number gives
module _ {Y : Type 0} {cmp : Y → Y → Ordering} (o : Orders cmp) (f : Atom → Option Y) (g : RowColumn → Option Y) (columns : List Column) (at : Clustering) (n : ℕ)
    (here : (c : RowColumn) → ascend_in (slice_get columns c.column.number) c.cells ≡ true → c.column.number ≡ n → greatest cmp f (of_column (Some at) c) ≡ g c)
    (there : (c : RowColumn) → (c.column.number == n) ≡ false → greatest cmp f (of_column (Some at) c) ≡ None) where
  pub in_columns : (cs : List RowColumn) → are_in_order columns cs ≡ true → greatest cmp f (flat_map (of_column (Some at)) cs) ≡ value_in g (column_of n cs)
  in_columns [] e = refl
  in_columns (c ∷ cs) e =
      let (first, others) = and_parts (is_below c.column.number cs && ascend_in (slice_get columns c.column.number) c.cells) (are_in_order columns cs) e in
      let (below, ascends) = and_parts (is_below c.column.number cs) (ascend_in (slice_get columns c.column.number) c.cells) first in
      let rest : greatest cmp f (flat_map (of_column (Some at)) cs) ≡ value_in g (column_of n cs) = in_columns cs others in
      greatest-append o f (of_column (Some at) c) (flat_map (of_column (Some at)) cs)
      ∙ elim (cases_order c.column.number n) as (λ _. greater cmp (greatest cmp f (of_column (Some at) c)) (greatest cmp f (flat_map (of_column (Some at)) cs)) ≡ value_in g (column_of n (c ∷ cs))) [
        | inl same ↦
            (λ i. greater cmp (here c ascends same i) ((rest ∙ ap (value_in g) (none_below n c.column.number cs (omega arith) below)) i))
            ∙ greater_none o (g c) ∙ sym (ap (value_in g) (is_here n c cs same))
        | inr (inl less) ↦
            (λ i. greater cmp (there c (ne_eqb c.column.number n (λ e. omega arith)) i) (rest i))
            ∙ sym (ap (value_in g) (is_later n c cs less))
        | inr (inr more) ↦
            (λ i. greater cmp (there c (ne_eqb c.column.number n (λ e. omega arith)) i) ((rest ∙ ap (value_in g) (none_below n c.column.number cs (omega arith) below)) i))
            ∙ sym (ap (value_in g) (is_none n c cs more))
      ]

-- the paths of the column of that number ascend
pub found_ascends : (columns : List Column) (n : ℕ) (column : Column) → slice_get columns n ≡ Some column → (cs : List RowColumn) → are_in_order columns cs ≡ true
    → ascend (path_type column.shape column.tag) (cells_in (column_of n cs)) ≡ true
found_ascends columns n column is [] e = refl
found_ascends columns n column is (c ∷ cs) e =
    let (first, others) = and_parts (is_below c.column.number cs && ascend_in (slice_get columns c.column.number) c.cells) (are_in_order columns cs) e in
    let (below, ascends) = and_parts (is_below c.column.number cs) (ascend_in (slice_get columns c.column.number) c.cells) first in
    let tag : Option TypeTag = path_type column.shape column.tag in
    elim (cases_order c.column.number n) as (λ _. ascend tag (cells_in (column_of n (c ∷ cs))) ≡ true) [
      | inl same ↦
          ap (λ m. ascend tag (cells_in m)) (is_here n c cs same)
          ∙ ap (λ k. ascend_in k c.cells) (sym is ∙ ap (slice_get columns) (sym same)) ∙ ascends
      | inr (inl less) ↦ ap (λ m. ascend tag (cells_in m)) (is_later n c cs less) ∙ found_ascends columns n column is cs others
      | inr (inr more) ↦ ap (λ m. ascend tag (cells_in m)) (is_none n c cs more)
    ]

-- ---- paths

abbrev pub paths : List PathCell → List (List ℕ)
paths cells = map (λ c. c.path) cells

less_is : (o : Ordering) → is_lt o ≡ true → o ≡ Less
less_is Less e = refl
less_is Equal e = absurd (true≢false (sym e))
less_is Greater e = absurd (true≢false (sym e))

pub same_bytes_itself : (p : List ℕ) → same_bytes p p ≡ true
same_bytes_itself p = ap is_eq (tied_itself bytes_orders.total p)

none_alive : (now : ℤ) (over : Option Deletion) → is_alive now (standing cell_at over None) ≡ false
none_alive now None = refl
none_alive now (Some d) = refl

kept : (b : Bool) (p : List ℕ) (c : PathCell) (cs : List PathCell) → Has (paths cs) p → Has (paths (cond b (c ∷ cs) cs)) p
kept true p c cs h = inr h
kept false p c cs h = h

of_path : (P : List ℕ → Type 0) (c : PathCell) (cs : List PathCell) → AllByRecursion P (paths cs) → Has cs c → P c.path
of_path P c [] a none = absurd none
of_path P c (d ∷ cs) a (inl e) = subst (λ f. P f.path) e a.0
of_path P c (d ∷ cs) a (inr has) = of_path P c cs a.1 has

module _ (tag : Option TypeTag) where
  all_behind : (p q : List ℕ) (ks : List (List ℕ)) → path_cmp tag p q ≡ Less → AllByRecursion (λ k. path_cmp tag q k ≡ Less) ks → AllByRecursion (λ k. path_cmp tag p k ≡ Less) ks
  all_behind p q [] e a = tt
  all_behind p q (k ∷ ks) e a = ((path_orders tag).total.trans p q k e a.0, all_behind p q ks e a.1)

  behind : (p : List ℕ) (cs : List PathCell) → is_before tag p cs ≡ true → IsStrictlySortedBy (path_cmp tag) (paths cs) → AllByRecursion (λ k. path_cmp tag p k ≡ Less) (paths cs)
  unfolding IsStrictlySortedBy
  behind p [] b s = tt
  behind p (c ∷ cs) b s =
      let less : path_cmp tag p c.path ≡ Less = less_is (path_cmp tag p c.path) b in
      (less, all_behind p c.path (paths cs) less s.0)

  pub ascend_sorted : (cs : List PathCell) → ascend tag cs ≡ true → IsStrictlySortedBy (path_cmp tag) (paths cs)
  unfolding IsStrictlySortedBy
  ascend_sorted [] e = tt
  ascend_sorted (c ∷ cs) e =
      let (before, others) = and_parts (is_before tag c.path cs) (ascend tag cs) e in
      let sorted : IsStrictlySortedBy (path_cmp tag) (paths cs) = ascend_sorted cs others in
      (behind c.path cs before sorted, sorted)

  apart : (p q : List ℕ) → path_cmp tag p q ≡ Less → q ≡ p → ⊥
  apart p q less e =
      let tied : path_cmp tag p p ≡ Equal = tied_itself (path_orders tag).total p in
      true≢false (sym (ap is_lt less) ∙ ap (λ k. is_lt (path_cmp tag p k)) e ∙ ap is_lt tied)

  -- a path before all of them is none of theirs
  absent : (p : List ℕ) (cs : List PathCell) → AllByRecursion (λ k. path_cmp tag p k ≡ Less) (paths cs) → cell_of p cs ≡ None
  absent p [] a = refl
  absent p (c ∷ cs) a = ap (λ b. cond b (Some c.cell) (cell_of p cs)) (false_from_ne_true (same_bytes c.path p) (λ e. apart p c.path a.0 (equal_bytes c.path p e))) ∙ absent p cs a.1

  absent_again : (c : PathCell) (p : List ℕ) (cs : List PathCell) → AllByRecursion (λ k. path_cmp tag c.path k ≡ Less) (paths cs) → same_bytes c.path p ≡ true → cell_of p cs ≡ None
  absent_again c p cs a e = ap (λ q. cell_of q cs) (sym (equal_bytes c.path p e)) ∙ absent c.path cs a

  -- ---- the greatest cell at a path is the one that is found

  module _ (at : Clustering) (n : ℕ) (p : List ℕ) (column : ColumnRef) (same : column.number ≡ n) where
    abbrev given : List PathCell → Option Cell
    given cs = greatest cell_cmp (cell_at_path (path (clustered at.values) n p)) (map (writes (Some at) column) cs)

    pub found_is_greatest : (cs : List PathCell) → IsStrictlySortedBy (path_cmp tag) (paths cs) → given cs ≡ cell_of p cs
    unfolding IsStrictlySortedBy
    found_is_greatest [] s = refl
    found_is_greatest (c ∷ cs) s =
        (λ i. greater cell_cmp (then_some (same_itself at.values i && (eq-eqb column.number n same i && same_bytes c.path p)) c.cell) (found_is_greatest cs s.1 i))
        ∙ elim (same_bytes c.path p) as (λ b. same_bytes c.path p ≡ b → greater cell_cmp (then_some b c.cell) (cell_of p cs) ≡ cond b (Some c.cell) (cell_of p cs)) [
          | true ↦ λ e. ap (greater cell_cmp (Some c.cell)) (absent_again c p cs s.0 e)
          | false ↦ λ e. refl
        ] refl

  -- ---- cells that show

  module _ (now : ℤ) (over : Option Deletion) where
    all_shown : (P : List ℕ → Type 0) (cs : List PathCell) → AllByRecursion P (paths cs) → AllByRecursion P (paths (shown_cells now over cs))
    all_shown P [] a = tt
    all_shown P (c ∷ cs) a =
        elim (shows now over c) as (λ b. AllByRecursion P (paths (cond b (c ∷ shown_cells now over cs) (shown_cells now over cs)))) [
          | true ↦ (a.0, all_shown P cs a.1)
          | false ↦ all_shown P cs a.1
        ]

    pub shown_sorted : (cs : List PathCell) → IsStrictlySortedBy (path_cmp tag) (paths cs) → IsStrictlySortedBy (path_cmp tag) (paths (shown_cells now over cs))
    unfolding IsStrictlySortedBy
    shown_sorted [] s = tt
    shown_sorted (c ∷ cs) s =
        elim (shows now over c) as (λ b. IsStrictlySortedBy (path_cmp tag) (paths (cond b (c ∷ shown_cells now over cs) (shown_cells now over cs)))) [
          | true ↦ (all_shown (λ k. path_cmp tag c.path k ≡ Less) cs s.0, shown_sorted cs s.1)
          | false ↦ shown_sorted cs s.1
        ]

    -- a path shows where the cell that is found there is alive
    pub has_shown : (p : List ℕ) (cs : List PathCell) → IsStrictlySortedBy (path_cmp tag) (paths cs)
        → Has (paths (shown_cells now over cs)) p ↔ (is_alive now (standing cell_at over (cell_of p cs)) ≡ true)
    unfolding IsStrictlySortedBy
    has_shown p [] s = (λ none. absurd none, λ e. absurd (true≢false (sym e ∙ none_alive now over)))
    has_shown p (c ∷ cs) s =
        let shown : List PathCell = shown_cells now over cs in
        let rest : Has (paths shown) p ↔ (is_alive now (standing cell_at over (cell_of p cs)) ≡ true) = has_shown p cs s.1 in
        let found : Bool → Type 0 = λ b. is_alive now (standing cell_at over (cond b (Some c.cell) (cell_of p cs))) ≡ true in
        let there : is_alive now (standing cell_at over (cell_of p cs)) ≡ true → found (same_bytes c.path p) = λ alive.
        elim (same_bytes c.path p) as (λ b. same_bytes c.path p ≡ b → found b) [
          | true ↦ λ e. absurd (true≢false (sym alive ∙ ap (λ m. is_alive now (standing cell_at over m)) (absent_again c p cs s.0 e) ∙ none_alive now over))
          | false ↦ λ e. alive
        ] refl in (
          λ has. elim (shows now over c) as (λ b. shows now over c ≡ b → Has (paths (cond b (c ∷ shown) shown)) p → found (same_bytes c.path p)) [
            | true ↦ λ t h. elim (h) as (λ _. found (same_bytes c.path p)) [
              | inl same ↦ subst found (sym (ap (λ q. same_bytes q p) same ∙ same_bytes_itself p)) t
              | inr later ↦ there (rest.0 later)
            ]
            | false ↦ λ t h. there (rest.0 h)
          ] refl has,
          λ alive. elim (same_bytes c.path p) as (λ b. same_bytes c.path p ≡ b → found b → Has (paths (cond (shows now over c) (c ∷ shown) shown)) p) [
            | true ↦ λ e t. subst (λ b. Has (paths (cond b (c ∷ shown) shown)) p) (sym t) (inl (equal_bytes c.path p e))
            | false ↦ λ e t. kept (shows now over c) p c shown (rest.1 t)
          ] refl alive,
        )

    -- a cell is found at its own path
    pub found_own : (c : PathCell) (cs : List PathCell) → IsStrictlySortedBy (path_cmp tag) (paths cs) → Has cs c → cell_of c.path cs ≡ Some c.cell
    unfolding IsStrictlySortedBy
    found_own c [] s none = absurd none
    found_own c (d ∷ cs) s (inl e) = subst (λ f. cell_of c.path (f ∷ cs) ≡ Some c.cell) (sym e) (ap (λ b. cond b (Some c.cell) (cell_of c.path cs)) (same_bytes_itself c.path))
    found_own c (d ∷ cs) s (inr has) =
        ap (λ b. cond b (Some d.cell) (cell_of c.path cs))
        (false_from_ne_true (same_bytes d.path c.path) (λ e. apart d.path c.path (of_path (λ k. path_cmp tag d.path k ≡ Less) c cs s.0 has) (sym (equal_bytes d.path c.path e))))
        ∙ found_own c cs s.1 has

-- what shows is alive
pub shows_alive : (now : ℤ) (over : Option Deletion) (c : PathCell) → shows now over c ≡ true → living now (standing cell_at over (Some c.cell)) ≡ Some c.cell
shows_alive now None c e = ap (λ b. then_some b c.cell) e
shows_alive now (Some d) c e =
    elim (covered d (cell_at c.cell)) as (λ b. is_alive now (cond b None (Some c.cell)) ≡ true → living now (cond b None (Some c.cell)) ≡ Some c.cell) [
      | true ↦ λ t. absurd (true≢false (sym t))
      | false ↦ λ t. ap (λ b. then_some b c.cell) t
    ] e

pub some_shown : (now : ℤ) (over : Option Deletion) (cs : List PathCell) → not (is_empty (paths (shown_cells now over cs))) ≡ some_shows now over cs
some_shown now over [] = refl
some_shown now over (c ∷ cs) =
    elim (shows now over c) as (λ b. not (is_empty (paths (cond b (c ∷ shown_cells now over cs) (shown_cells now over cs)))) ≡ (b || some_shows now over cs)) [
      | true ↦ refl
      | false ↦ some_shown now over cs
    ]

-- What is left of rows and fragments covers the same, and under what covers them it writes the same.
use Rattle.std.proofs.Common.{◌≡◌, ℕ, ◌==◌, ℤ, Bool, true, false, cond, not, ◌&&◌, Option, None, Some, List, [], ◌∷◌, ◌++◌, map, filter, refl, sym, ap, ◌∙◌}
use Rattle.std.specs.Bool.{then_some}
use Rattle.std.proofs.lemmas.Bool.{true≢false}
use Rattle.std.specs.List.{flat_map, cons_option}
use Rattle.std.specs.declared.cmp.Ordering.{Ordering}
use Rattle.cas_cell.specs.Deletions.{deletion_cmp, covered}
use Rattle.cas_cell.specs.Lives.{live_at, live_cmp}
use Rattle.cas_cell.specs.Cells.{cell_at, cell_cmp}
use Rattle.cas_cell.specs.declared.deletion.Deletion.{Deletion}
use Rattle.cas_cell.proofs.OrderLaws.{deletion_laws, live_laws, cell_laws}
use Rattle.cas_bounds.specs.declared.cuts.Clustering.{Clustering}
use Rattle.cas_atoms.specs.Greatest.{greater, greatest}
use Rattle.cas_atoms.specs.Coordinates.{Coordinate, RowKey, row, path, clustered, row_of, same_row, same_values, same_bytes, is_at, is_in_column, live_at_row, cell_at_path}
use Rattle.cas_atoms.specs.Winners.{cover, standing}
use Rattle.cas_atoms.specs.declared.atom.Atom.{Atom}
use Rattle.cas_atoms.specs.declared.row.Row.{Row}
use Rattle.cas_atoms.specs.declared.row.RowColumn.{RowColumn}
use Rattle.cas_atoms.specs.declared.row.PathCell.{PathCell}
use Rattle.cas_atoms.proofs.GreatestLemmas.{greater_assoc, greater_comm, greater_self, greatest-append}
use Rattle.cas_laws.proofs.JoinProofs.{cover_joins, standing-greater, greatest-standing, standing_both}
use Rattle.cas_laws.proofs.ShownProofs.{both_hold}
use Rattle.cas_streams.specs.Flat.{of_column, own}
use Rattle.cas_streams.specs.Settled.{is_bare, if_said, bare_column, bare_columns, bare_row, bare}
use Rattle.cas_streams.specs.declared.fragment.Fragment.TheVariants as fragment
use Rattle.cas_streams.proofs.OwnRows.{key_of}
use Rattle.cas_streams.proofs.Parts.{deletes_in, writes_in, cells_in, columns_delete, columns_live, columns_write, row_deletes, row_lives, row_writes, alike_each, cond_same}

-- ---- under a deletion

-- the first is none above the second
abbrev pub Below : Option Deletion → Option Deletion → Type 0
Below d e = greater deletion_cmp d e ≡ e

pub below_left : (a b e : Option Deletion) → Below (greater deletion_cmp a b) e → Below a e
below_left a b e h =
    ap (greater deletion_cmp a) (sym h) ∙ sym (greater_assoc deletion_laws.orders a (greater deletion_cmp a b) e)
    ∙ ap (λ d. greater deletion_cmp d e) (sym (greater_assoc deletion_laws.orders a a b) ∙ ap (λ d. greater deletion_cmp d b) (greater_self deletion_laws.orders a)) ∙ h

pub below_right : (a b e : Option Deletion) → Below (greater deletion_cmp a b) e → Below b e
below_right a b e h = below_left b a e (ap (λ d. greater deletion_cmp d e) (greater_comm deletion_laws.orders b a) ∙ h)

pub below_both : (a b e : Option Deletion) → Below a e → Below b e → Below (greater deletion_cmp a b) e
below_both a b e h k = greater_assoc deletion_laws.orders a b e ∙ ap (greater deletion_cmp a) k ∙ h

-- what a deletion below covers may be dropped
pub dropped : {Y : Type 0} (at : Y → ℤ) (d e : Option Deletion) (w : Option Y) → Below d e → standing at e (standing at d w) ≡ standing at e w
dropped at d e w h = sym (standing_both at d e w) ∙ ap (λ f. standing at f w) h

-- two lists cover the same, and under D they write the same
pub record Under (D : Coordinate → Option Deletion) (A B : List Atom) : Type 0 where
  pub covers : (x : Coordinate) → cover A x ≡ cover B x
  pub lives : (c : List (List ℕ)) → standing live_at (D (row c)) (greatest live_cmp (live_at_row c) A) ≡ standing live_at (D (row c)) (greatest live_cmp (live_at_row c) B)
  pub cells : (x : Coordinate) → standing cell_at (D x) (greatest cell_cmp (cell_at_path x) A) ≡ standing cell_at (D x) (greatest cell_cmp (cell_at_path x) B)

pub under_both : (D : Coordinate → Option Deletion) (A B C E : List Atom) → Under D A B → Under D C E → Under D (A ++ C) (B ++ E)
under_both D A B C E u v = record {
  covers = λ x. cover_joins A C x ∙ (λ i. greater deletion_cmp (u.covers x i) (v.covers x i)) ∙ sym (cover_joins B E x);
  lives = λ c.
      ap (standing live_at (D (row c))) (greatest-append live_laws.orders (live_at_row c) A C) ∙ standing-greater live_laws.orders live_laws.by_time (D (row c)) _ _
      ∙ (λ i. greater live_cmp (u.lives c i) (v.lives c i))
      ∙ sym (ap (standing live_at (D (row c))) (greatest-append live_laws.orders (live_at_row c) B E) ∙ standing-greater live_laws.orders live_laws.by_time (D (row c)) _ _);
  cells = λ x.
      ap (standing cell_at (D x)) (greatest-append cell_laws.orders (cell_at_path x) A C) ∙ standing-greater cell_laws.orders cell_laws.by_time (D x) _ _
      ∙ (λ i. greater cell_cmp (u.cells x i) (v.cells x i))
      ∙ sym (ap (standing cell_at (D x)) (greatest-append cell_laws.orders (cell_at_path x) B E) ∙ standing-greater cell_laws.orders cell_laws.by_time (D x) _ _);
}

-- what says nothing may be left out
pub said : {X : Type 0} (own_of : X → List Atom) (x : X) (rest : List X) → flat_map own_of (cons_option (if_said (own_of x) x) rest) ≡ own_of x ++ flat_map own_of rest
said own_of x rest =
    elim (own_of x) as (λ atoms. own_of x ≡ atoms → flat_map own_of (cons_option (if_said atoms x) rest) ≡ atoms ++ flat_map own_of rest) [
      | [] ↦ λ e. refl
      | a ∷ atoms ↦ λ e. ap (λ l. l ++ flat_map own_of rest) e
    ] refl

-- ---- columns

if_bare : {Y : Type 0} (at : Y → ℤ) (d : Option Deletion) (b : Bool) (y : Y) → cond (is_bare d (at y)) (then_some b y) None ≡ standing at d (then_some b y)
if_bare at None b y = refl
if_bare at (Some d) false y = cond_same None (not (covered d (at y)))
if_bare at (Some d) true y = turned (covered d (at y))
  where
    turned : (c : Bool) → cond (not c) (Some y) None ≡ cond c None (Some y)
    turned true = refl
    turned false = refl

greatest_filtered : {X Y : Type 0} (cmp : Y → Y → Ordering) (v : X → Option Y) (t : X → Bool) (xs : List X) → greatest cmp v (filter t xs) ≡ greatest cmp (λ x. cond (t x) (v x) None) xs
greatest_filtered cmp v t [] = refl
greatest_filtered cmp v t (x ∷ xs) =
    elim (t x) as (λ b. greatest cmp v (cond b (x ∷ filter t xs) (filter t xs)) ≡ greater cmp (cond b (v x) None) (greatest cmp (λ z. cond (t z) (v z) None) xs)) [
      | true ↦ ap (greater cmp (v x)) (greatest_filtered cmp v t xs)
      | false ↦ greatest_filtered cmp v t xs
    ]

not_both : (a b c : Bool) → (a && b) ≡ false → (a && (b && c)) ≡ false
not_both true true c e = absurd (true≢false e)
not_both true false c e = refl
not_both false b c e = refl

pub elsewhere : (key : RowKey) (n : ℕ) (p : List ℕ) (x : Coordinate) → is_in_column key n x ≡ false → is_at key n p x ≡ false
elsewhere key n p (row c) e = refl
elsewhere key n p (path s m q) e = not_both (same_row key s) (n == m) (same_bytes p q) e

in_its_row : (key : RowKey) (n : ℕ) (x : Coordinate) → is_in_column key n x ≡ true → same_row key (row_of x) ≡ true
in_its_row key n (row c) e = absurd (true≢false (sym e))
in_its_row key n (path s m q) e = (both_hold (same_row key s) (n == m) e).0

module _ (key : RowKey) (over : Option Deletion) (x : Coordinate) where
  cells_left : (c : RowColumn) → cells_in key x (bare_column over c) ≡ standing cell_at (greater deletion_cmp over c.deletion) (cells_in key x c)
  cells_left c =
      let d : Option Deletion = greater deletion_cmp over c.deletion in
      greatest_filtered cell_cmp (writes_in key c.column.number x) (λ p. is_bare d (cell_at p.cell)) c.cells
      ∙ alike_each cell_cmp (λ p. cond (is_bare d (cell_at p.cell)) (writes_in key c.column.number x p) None) (λ p. standing cell_at d (writes_in key c.column.number x p))
      (λ p. if_bare cell_at d (is_at key c.column.number p.path x) p.cell) c.cells
      ∙ greatest-standing cell_laws.orders cell_laws.by_time (writes_in key c.column.number x) d c.cells

  pub no_cells : (c : RowColumn) → is_in_column key c.column.number x ≡ false → (ps : List PathCell) → greatest cell_cmp (writes_in key c.column.number x) ps ≡ None
  no_cells c e [] = refl
  no_cells c e (p ∷ ps) = λ i. greater cell_cmp (then_some (elsewhere key c.column.number p.path x e i) p.cell) (no_cells c e ps i)

  pub bare_delete : (cs : List RowColumn) → greatest deletion_cmp (deletes_in key x) (map (bare_column over) cs) ≡ greatest deletion_cmp (deletes_in key x) cs
  bare_delete [] = refl
  bare_delete (c ∷ cs) = ap (greater deletion_cmp (deletes_in key x c)) (bare_delete cs)

  module _ (e : Option Deletion) (above : same_row key (row_of x) ≡ true → Below over e) where
    column_left : (c : RowColumn) → Below (deletes_in key x c) e → standing cell_at e (cells_in key x (bare_column over c)) ≡ standing cell_at e (cells_in key x c)
    column_left c own_below =
        ap (standing cell_at e) (cells_left c)
        ∙ elim (is_in_column key c.column.number x) as (λ b. is_in_column key c.column.number x ≡ b → Below (cond b c.deletion None) e
        → standing cell_at e (standing cell_at (greater deletion_cmp over c.deletion) (cells_in key x c)) ≡ standing cell_at e (cells_in key x c)) [
          | true ↦ λ i h. dropped cell_at (greater deletion_cmp over c.deletion) e (cells_in key x c) (below_both over c.deletion e (above (in_its_row key c.column.number x i)) h)
          | false ↦ λ i h. ap (λ w. standing cell_at e w) (ap (standing cell_at (greater deletion_cmp over c.deletion)) (no_cells c i c.cells) ∙ stands_none (greater deletion_cmp over c.deletion) ∙ sym (no_cells c i c.cells))
        ] refl own_below
      where
        stands_none : (d : Option Deletion) → standing cell_at d None ≡ None
        stands_none None = refl
        stands_none (Some d) = refl

    pub bare_write : (cs : List RowColumn) → Below (greatest deletion_cmp (deletes_in key x) cs) e
        → standing cell_at e (greatest cell_cmp (cells_in key x) (map (bare_column over) cs)) ≡ standing cell_at e (greatest cell_cmp (cells_in key x) cs)
    bare_write [] h = refl
    bare_write (c ∷ cs) h =
        let first : Option Deletion = deletes_in key x c in
        let others : Option Deletion = greatest deletion_cmp (deletes_in key x) cs in
        standing-greater cell_laws.orders cell_laws.by_time e (cells_in key x (bare_column over c)) (greatest cell_cmp (cells_in key x) (map (bare_column over) cs))
        ∙ (λ i. greater cell_cmp (column_left c (below_left first others e h) i) (bare_write cs (below_right first others e h) i))
        ∙ sym (standing-greater cell_laws.orders cell_laws.by_time e (cells_in key x c) (greatest cell_cmp (cells_in key x) cs))

module _ (at : Option Clustering) (over : Option Deletion) where
  pub columns_said : (cs : List RowColumn) → flat_map (of_column at) (bare_columns at over cs) ≡ flat_map (of_column at) (map (bare_column over) cs)
  columns_said [] = refl
  columns_said (c ∷ cs) = said (of_column at) (bare_column over c) (bare_columns at over cs) ∙ ap (λ l. of_column at (bare_column over c) ++ l) (columns_said cs)

  pub columns_left_delete : (x : Coordinate) (cs : List RowColumn) → cover (flat_map (of_column at) (bare_columns at over cs)) x ≡ greatest deletion_cmp (deletes_in (key_of at) x) cs
  columns_left_delete x cs = ap (λ l. cover l x) (columns_said cs) ∙ columns_delete at x (map (bare_column over) cs) ∙ bare_delete (key_of at) over x cs

  pub columns_left_write : (x : Coordinate) (e : Option Deletion) → (same_row (key_of at) (row_of x) ≡ true → Below over e) → (cs : List RowColumn) → Below (greatest deletion_cmp (deletes_in (key_of at) x) cs) e
      → standing cell_at e (greatest cell_cmp (cell_at_path x) (flat_map (of_column at) (bare_columns at over cs))) ≡ standing cell_at e (greatest cell_cmp (cells_in (key_of at) x) cs)
  columns_left_write x e above cs h =
      ap (λ l. standing cell_at e (greatest cell_cmp (cell_at_path x) l)) (columns_said cs) ∙ ap (standing cell_at e) (columns_write at x (map (bare_column over) cs)) ∙ bare_write (key_of at) over x e above cs h

-- ---- fragments

module _ (D : Coordinate → Option Deletion) (top : Option Deletion) (over_top : (x : Coordinate) → Below top (D x)) where
  pub static_left : (now : Option Deletion) (cs : List RowColumn) → ((x : Coordinate) → Below (cover (own (fragment.Static cs)) x) (D x)) → Under D (own (bare top now (fragment.Static cs))) (own (fragment.Static cs))
  static_left now cs h = record {
    covers = λ x. columns_left_delete None top x cs ∙ sym (columns_delete None x cs);
    lives = λ c. ap (standing live_at (D (row c))) (columns_live None c (bare_columns None top cs) ∙ sym (columns_live None c cs));
    cells = λ x.
        columns_left_write None top x (D x) (λ e. over_top x) cs (ap (λ d. greater deletion_cmp d (D x)) (sym (columns_delete None x cs)) ∙ h x)
        ∙ ap (standing cell_at (D x)) (sym (columns_write None x cs));
  }

  pub row_left : (now : Option Deletion) (r : Row) → ((x : Coordinate) → same_row (clustered r.clustering.values) (row_of x) ≡ true → Below now (D x))
      → ((x : Coordinate) → Below (cover (own (fragment.Row r)) x) (D x)) → Under D (own (bare top now (fragment.Row r))) (own (fragment.Row r))
  row_left now r over_now h =
      let at : Option Clustering = Some r.clustering in
      let key : RowKey = clustered r.clustering.values in
      let over : Option Deletion = greater deletion_cmp top now in
      let d : Option Deletion = greater deletion_cmp over r.deletion in
      let less : Row = bare_row over r in
      let both : (x : Coordinate) → Below (greater deletion_cmp (cond (same_row key (row_of x)) r.deletion None) (greatest deletion_cmp (deletes_in key x) r.columns)) (D x) =
      λ x. ap (λ e. greater deletion_cmp e (D x)) (sym (row_deletes r x)) ∙ h x in
      let above : (x : Coordinate) → same_row key (row_of x) ≡ true → Below d (D x) =
      λ x e. below_both over r.deletion (D x) (below_both top now (D x) (over_top x) (over_now x e))
      (ap (λ b. greater deletion_cmp (cond b r.deletion None) (D x)) (sym e) ∙ below_left (cond (same_row key (row_of x)) r.deletion None) (greatest deletion_cmp (deletes_in key x) r.columns) (D x) (both x)) in
      record {
        covers = λ x.
            row_deletes less x
            ∙ ap (greater deletion_cmp (cond (same_row key (row_of x)) r.deletion None)) (sym (columns_delete at x less.columns) ∙ columns_left_delete at d x r.columns)
            ∙ sym (row_deletes r x);
        lives = λ c.
            ap (standing live_at (D (row c))) (row_lives less c)
            ∙ elim (same_values r.clustering.values c) as (λ b. same_values r.clustering.values c ≡ b
            → standing live_at (D (row c)) (cond b (standing live_at d r.live) None) ≡ standing live_at (D (row c)) (cond b r.live None)) [
              | true ↦ λ e. dropped live_at d (D (row c)) r.live (above (row c) e)
              | false ↦ λ e. refl
            ] refl
            ∙ ap (standing live_at (D (row c))) (sym (row_lives r c));
        cells = λ x.
            ap (standing cell_at (D x)) (row_writes less x ∙ sym (columns_write at x less.columns))
            ∙ columns_left_write at d x (D x) (above x) r.columns (below_right (cond (same_row key (row_of x)) r.deletion None) (greatest deletion_cmp (deletes_in key x) r.columns) (D x) (both x))
            ∙ ap (standing cell_at (D x)) (sym (row_writes r x));
      }

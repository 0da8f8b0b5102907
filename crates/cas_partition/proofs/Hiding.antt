-- A row of which nothing is left.
use Rattle.std.proofs.Common.{◌≡◌, ℕ, Bool, true, false, cond, not, is_none, is_some, ◌&&◌, Option, None, Some, List, [], ◌∷◌, ◌++◌, map, filter, fold, refl, sym, ap, ◌∙◌}
use Rattle.std.proofs.lemmas.Bool.{true≢false}
use Rattle.std.specs.List.{AllByRecursion, cons_option, flat_map}
use Rattle.std.specs.Ordering.{nat_cmp, is_lt}
use Rattle.cas_cell.specs.Deletions.{deletion_cmp}
use Rattle.cas_cell.specs.Lives.{live_at, live_cmp}
use Rattle.cas_cell.specs.Cells.{cell_at, cell_cmp}
use Rattle.cas_cell.specs.declared.cell.Cell.{Cell}
use Rattle.cas_cell.specs.declared.deletion.Deletion.{Deletion}
use Rattle.cas_cell.proofs.OrderLaws.{deletion_laws, live_laws}
use Rattle.cas_bounds.specs.declared.cuts.Clustering.{Clustering}
use Rattle.cas_bounds.specs.declared.map_key.MapKey.{MapKey}
use Rattle.cas_atoms.specs.Greatest.{greater}
use Rattle.cas_atoms.specs.RowsAndPaths.{path_cmp}
use Rattle.cas_atoms.specs.Winners.{standing}
use Rattle.cas_atoms.specs.declared.atom.Atom.TheVariants.{RowDeletion, Live}
use Rattle.cas_atoms.specs.declared.row.Row.{Row}
use Rattle.cas_atoms.specs.declared.row.RowColumn.{RowColumn}
use Rattle.cas_atoms.specs.declared.row.PathCell.{PathCell}
use Rattle.cas_atoms.proofs.GreatestLemmas.{greater_none}
use Rattle.cas_laws.proofs.JoinProofs.{standing-greater}
use Rattle.cas_streams.specs.Flat.{atom_of, empties, writes, of_column, own}
use Rattle.cas_streams.specs.Joined.{plainly, joined_cell, joined_column, joined_fragment}
use Rattle.cas_streams.specs.Settled.{is_bare, if_said, bare_column, bare_columns, bare_row, left_of}
use Rattle.cas_streams.specs.declared.fragment.Fragment.{Fragment}
use Rattle.cas_streams.specs.declared.fragment.Fragment.TheVariants as fragment
use Rattle.cas_streams.proofs.Weaves.{woven_all}
use Rattle.cas_partition.specs.Spots.{cells_at, piece}
use Rattle.cas_partition.specs.Inner.Rows.{Said}
use Rattle.cas_partition.specs.Inner.Pieces.{said_in, joined_pieces, joined_both, fragment_of}
use Rattle.cas_partition.specs.Inner.Passing.{is_cell_hidden, is_hidden, all_hidden, left_in}
use Rattle.cas_partition.specs.declared.spot.Content.{Content}
use Rattle.cas_partition.proofs.RowFragments.{in_fragment}
use Rattle.cas_partition.proofs.Taking.{both_true}

none_is : {X : Type 0} (o : Option X) → is_none o ≡ true → o ≡ None
none_is None e = refl
none_is (Some x) e = absurd (true≢false (sym e))

not_true : (b : Bool) → not b ≡ true → b ≡ false
not_true true e = absurd (true≢false (sym e))
not_true false e = refl

module _ (over : Option Deletion) where
  abbrev IsCovered : PathCell → Type 0
  IsCovered p = is_bare over (cell_at p.cell) ≡ false

  abbrev IsBlank : RowColumn → Type 0
  IsBlank c = (c.deletion ≡ None) × AllByRecursion IsCovered c.cells

  -- a row without deletions of its own, all of whose writes are covered
  abbrev IsBlankRow : Row → Type 0
  IsBlankRow r = (r.deletion ≡ None) × (standing live_at over r.live ≡ None) × AllByRecursion IsBlank r.columns

  -- if it is a row
  abbrev MayBeBlank : Fragment → Type 0
  MayBeBlank (fragment.Static cs) = Unit {0}
  MayBeBlank (fragment.Row r) = IsBlankRow r
  MayBeBlank (fragment.Marker cut d) = Unit {0}

  -- it is one
  abbrev IsBlankIn : Fragment → Type 0
  IsBlankIn (fragment.Static cs) = ⊥
  IsBlankIn (fragment.Row r) = IsBlankRow r
  IsBlankIn (fragment.Marker cut d) = ⊥

  -- ---- pieces

  cells_covered : (path : Option (List ℕ)) (cell : Option Cell) → is_cell_hidden over cell ≡ true → AllByRecursion IsCovered (cells_at path cell)
  cells_covered None cell e = tt
  cells_covered (Some p) None e = tt
  cells_covered (Some p) (Some c) e = (not_true (is_bare over (cell_at c)) e, tt)

  none_stands : (d : Option Deletion) → standing live_at d None ≡ None
  none_stands None = refl
  none_stands (Some d) = refl

  piece_blank : (k : MapKey) (column : Option ℕ) (path : Option (List ℕ)) (c : Content) → is_hidden over c ≡ true → IsBlankIn (piece (Some k) column path c)
  piece_blank k column path c e =
      let (deletion, others) = both_true (is_none c.deletion) (is_none (standing live_at over c.live) && is_cell_hidden over c.cell) e in
      let (live, cell) = both_true (is_none (standing live_at over c.live)) (is_cell_hidden over c.cell) others in
      at column (none_is c.deletion deletion) (none_is (standing live_at over c.live) live) (cells_covered path c.cell cell)
    where
      at : (column : Option ℕ) → c.deletion ≡ None → standing live_at over c.live ≡ None → AllByRecursion IsCovered (cells_at path c.cell) → IsBlankIn (piece (Some k) column path c)
      at None d l cells = (d, l, tt)
      at (Some n) d l cells = (refl, none_stands over, ((d, cells), tt))

  -- ---- joined

  cell_covered : (p q : PathCell) → IsCovered p → IsCovered q → IsCovered (joined_cell p q)
  cell_covered p q h k = elim (is_lt (cell_cmp p.cell q.cell)) as (λ b. is_bare over (cell_at (cond b q.cell p.cell)) ≡ false) [ true ↦ k | false ↦ h ]

  column_blank : (c d : RowColumn) → IsBlank c → IsBlank d → IsBlank (joined_column c d)
  column_blank c d h k = (
    λ i. greater deletion_cmp (h.0 i) (k.0 i),
    woven_all (plainly (λ p q. path_cmp c.column.path p.path q.path) joined_cell) IsCovered (λ s p w. w) (λ s q w. w) (λ s p q e v w. cell_covered p q v w) tt c.cells d.cells h.1 k.1,
  )

  joined_blank : (f g : Fragment) → IsBlankIn f → MayBeBlank g → IsBlankIn (joined_fragment f g)
  joined_blank (fragment.Static cs) g h k = absurd h
  joined_blank (fragment.Row r) (fragment.Static ds) h k = h
  joined_blank (fragment.Row r) (fragment.Row s) h k = (
    λ i. greater deletion_cmp (h.0 i) (k.0 i),
    standing-greater live_laws.orders live_laws.by_time over r.live s.live ∙ (λ i. greater live_cmp (h.1 i) (k.1 i)),
    woven_all (plainly (λ c d. nat_cmp c.column.number d.column.number) joined_column) IsBlank (λ s c w. w) (λ s d w. w) (λ s c d e v w. column_blank c d v w) tt r.columns s.columns h.2 k.2,
  )
  joined_blank (fragment.Row r) (fragment.Marker cut d) h k = h
  joined_blank (fragment.Marker cut d) g h k = absurd h

  -- a row, if there is one
  abbrev BlankIfThere : Option Fragment → Type 0
  BlankIfThere None = Unit {0}
  BlankIfThere (Some f) = IsBlankIn f

  as_part : (f : Fragment) → IsBlankIn f → MayBeBlank f
  as_part (fragment.Static cs) h = absurd h
  as_part (fragment.Row r) h = h
  as_part (fragment.Marker cut d) h = absurd h

  fold_blank : (f : Fragment) (fs : List Fragment) → IsBlankIn f → AllByRecursion IsBlankIn fs → IsBlankIn (fold joined_fragment f fs)
  fold_blank f [] h all = h
  fold_blank f (g ∷ fs) h all = fold_blank (joined_fragment f g) fs (joined_blank f g h (as_part g all.0)) all.1

  pieces_blank : (fs : List Fragment) → AllByRecursion IsBlankIn fs → BlankIfThere (joined_pieces fs)
  pieces_blank [] all = tt
  pieces_blank (f ∷ fs) all = fold_blank f fs all.0 all.1

  both_blank : (a b : Option Fragment) → BlankIfThere a → BlankIfThere b → BlankIfThere (joined_both a b)
  both_blank None b x y = y
  both_blank (Some f) None x y = x
  both_blank (Some f) (Some g) x y = joined_blank f g x (as_part g y)

  said_blank : (k : MapKey) (es : Said) → all_hidden over es ≡ true → AllByRecursion IsBlankIn (map (said_in (Some k)) es)
  said_blank k [] all = tt
  said_blank k (e ∷ es) all =
      let (one, others) = both_true (is_hidden over e.1) (all_hidden over es) all in (piece_blank k e.0.column e.0.path e.1 one, said_blank k es others)

  hidden_blank : (k : MapKey) (es : Said) → all_hidden over es ≡ true → BlankIfThere (fragment_of (Some k) es)
  hidden_blank k es all = in_fragment IsBlankIn BlankIfThere pieces_blank both_blank (Some k) es (said_blank k es all)

  -- ---- what is left

  no_cells : (ps : List PathCell) → AllByRecursion IsCovered ps → filter (λ p. is_bare over (cell_at p.cell)) ps ≡ []
  no_cells [] all = refl
  no_cells (p ∷ ps) all = ap (λ b. cond b (p ∷ filter (λ q. is_bare over (cell_at q.cell)) ps) (filter (λ q. is_bare over (cell_at q.cell)) ps)) all.0 ∙ no_cells ps all.1

  nothing_of : (at : Option Clustering) (c : RowColumn) → IsBlank c → of_column at (bare_column over c) ≡ []
  nothing_of at c h =
      (λ i. atom_of (empties at c.column) (h.0 i) ++ map (writes at c.column) (filter (λ p. is_bare (greater deletion_cmp over (h.0 i)) (cell_at p.cell)) c.cells))
      ∙ ap (λ o. map (writes at c.column) (filter (λ p. is_bare o (cell_at p.cell)) c.cells)) (greater_none deletion_laws.orders over)
      ∙ ap (map (writes at c.column)) (no_cells c.cells h.1)

  no_columns : (at : Option Clustering) (cs : List RowColumn) → AllByRecursion IsBlank cs → bare_columns at over cs ≡ []
  no_columns at [] all = refl
  no_columns at (c ∷ cs) all =
      ap (λ l. cons_option (if_said l (bare_column over c)) (bare_columns at over cs)) (nothing_of at c all.0) ∙ no_columns at cs all.1

  no_row : (r : Row) → IsBlankRow r → own (fragment.Row (bare_row over r)) ≡ []
  no_row r h =
      (λ i. atom_of (RowDeletion r.clustering) (h.0 i) ++ (atom_of (Live r.clustering) (standing live_at (greater deletion_cmp over (h.0 i)) r.live)
      ++ flat_map (of_column (Some r.clustering)) (bare_columns (Some r.clustering) (greater deletion_cmp over (h.0 i)) r.columns)))
      ∙ ap (λ o. atom_of (Live r.clustering) (standing live_at o r.live) ++ flat_map (of_column (Some r.clustering)) (bare_columns (Some r.clustering) o r.columns)) (greater_none deletion_laws.orders over)
      ∙ (λ i. atom_of (Live r.clustering) (h.1 i) ++ flat_map (of_column (Some r.clustering)) (no_columns (Some r.clustering) r.columns h.2 i))

blank_left : (top now : Option Deletion) (f : Fragment) → IsBlankIn (greater deletion_cmp top now) f → left_of top now f ≡ None
blank_left top now (fragment.Static cs) h = absurd h
blank_left top now (fragment.Row r) h = ap (λ l. if_said l (fragment.Row (bare_row (greater deletion_cmp top now) r))) (no_row (greater deletion_cmp top now) r h)
blank_left top now (fragment.Marker cut d) h = absurd h

none_left : (top now : Option Deletion) (o : Option Fragment) → BlankIfThere (greater deletion_cmp top now) o → left_in top now o ≡ None
none_left top now None h = refl
none_left top now (Some f) h = blank_left top now f h

pub nothing_left_of : (top now : Option Deletion) (row : Option MapKey) (es : Said) → is_some row ≡ true → all_hidden (greater deletion_cmp top now) es ≡ true
    → left_in top now (fragment_of row es) ≡ None
nothing_left_of top now None es is all = absurd (true≢false (sym is))
nothing_left_of top now (Some k) es is all = none_left top now (fragment_of (Some k) es) (hidden_blank (greater deletion_cmp top now) k es all)

-- What is left of a row, by whether something is said of its columns.
use Rattle.std.proofs.Common.{◌≡◌, Bool, true, false, cond, ◌&&◌, ◌||◌, filter, Option, None, Some, is_some, List, [], ◌∷◌, ◌++◌, map, refl, sym, ap, ◌∙◌, append_assoc}
use Rattle.std.proofs.lemmas.Bool.{true≢false, not-true}
use Rattle.std.specs.List.{flat_map, cons_option}
use Rattle.cas_cell.specs.Cells.{cell_at}
use Rattle.cas_cell.specs.Deletions.{deletion_cmp, covered}
use Rattle.cas_cell.specs.Lives.{live_at}
use Rattle.cas_cell.specs.declared.liveness.Liveness.{Liveness}
use Rattle.cas_cell.specs.declared.deletion.Deletion.{Deletion}
use Rattle.cas_cell.proofs.OrderLaws.{deletion_laws}
use Rattle.cas_bounds.specs.declared.cuts.Clustering.{Clustering}
use Rattle.cas_atoms.specs.Greatest.{greater}
use Rattle.cas_atoms.specs.Winners.{standing}
use Rattle.cas_atoms.specs.declared.atom.Atom.{Atom}
use Rattle.cas_atoms.specs.declared.atom.Atom.TheVariants.{RowDeletion, Live}
use Rattle.cas_atoms.specs.declared.atom.ColumnRef.{ColumnRef}
use Rattle.cas_atoms.specs.declared.row.Row.{Row}
use Rattle.cas_atoms.specs.declared.row.RowColumn.{RowColumn}
use Rattle.cas_atoms.specs.declared.row.PathCell.{PathCell}
use Rattle.cas_atoms.proofs.GreatestLemmas.{greater_none}
use Rattle.cas_streams.specs.Flat.{atom_of, writes, empties, of_column, own}
use Rattle.cas_streams.specs.Settled.{is_bare, if_said, bare_column, bare_columns, bare_row, same_force, left_of}
use Rattle.cas_streams.specs.declared.fragment.Fragment.{Fragment}
use Rattle.cas_streams.specs.declared.fragment.Fragment.TheVariants as fragment
use Rattle.cas_merge.specs.Inner.Said.{says, any_says, all_bare, stays, all_stay, live_stays, row_says, row_stays, is_left_whole}

-- whether atoms are there
there : List Atom → Bool
there [] = false
there (a ∷ atoms) = true

by_there : {X : Type 0} (atoms : List Atom) (x : X) → if_said atoms x ≡ cond (there atoms) (Some x) None
unfolding there
by_there [] x = refl
by_there (a ∷ atoms) x = refl

there_either : (A B : List Atom) → there (A ++ B) ≡ (there A || there B)
unfolding there
there_either [] B = refl
there_either (a ∷ A) B = refl

there_of : {X : Type 0} (make : X → Atom) (x : Option X) → there (atom_of make x) ≡ is_some x
unfolding there
there_of make None = refl
there_of make (Some x) = refl

column_there : (at : Option Clustering) (column : ColumnRef) (d : Option Deletion) (cells : List PathCell) → there (atom_of (empties at column) d ++ map (writes at column) cells) ≡ says d cells
unfolding there
column_there at column (Some d) cells = refl
column_there at column None [] = refl
column_there at column None (c ∷ cells) = refl

columns_there : (at : Option Clustering) (cs : List RowColumn) → there (flat_map (of_column at) cs) ≡ any_says cs
unfolding there
columns_there at [] = refl
columns_there at (c ∷ cs) =
    there_either (of_column at c) (flat_map (of_column at) cs) ∙ (λ i. column_there at c.column c.deletion c.cells i || columns_there at cs i)

pub column_left : (at : Option Clustering) (c : RowColumn) (b : Bool) → says c.deletion c.cells ≡ b → if_said (of_column at c) c ≡ cond b (Some c) None
column_left at c b e = by_there (of_column at c) c ∙ ap (λ t. cond t (Some c) None) (column_there at c.column c.deletion c.cells ∙ e)

pub static_left : (cs : List RowColumn) (b : Bool) → any_says cs ≡ b → if_said (own (fragment.Static cs)) (fragment.Static cs) ≡ cond b (Some (fragment.Static cs)) None
static_left cs b e = by_there (own (fragment.Static cs)) (fragment.Static cs) ∙ ap (λ t. cond t (Some (fragment.Static cs)) None) (columns_there None cs ∙ e)

pub row_left : (r : Row) (b : Bool) → (is_some r.deletion || (is_some r.live || any_says r.columns)) ≡ b → if_said (own (fragment.Row r)) (fragment.Row r) ≡ cond b (Some (fragment.Row r)) None
row_left r b e =
    by_there (own (fragment.Row r)) (fragment.Row r)
    ∙ ap (λ t. cond t (Some (fragment.Row r)) None)
    (there_either (atom_of (RowDeletion r.clustering) r.deletion) (atom_of (Live r.clustering) r.live ++ flat_map (of_column (Some r.clustering)) r.columns)
    ∙ (λ i. there_of (RowDeletion r.clustering) r.deletion i || (there_either (atom_of (Live r.clustering) r.live) (flat_map (of_column (Some r.clustering)) r.columns)
    ∙ (λ j. there_of (Live r.clustering) r.live j || columns_there (Some r.clustering) r.columns j)) i)
    ∙ e)

-- ---- a step of the loop over columns

pub kept_column : (at : Option Clustering) (over : Option Deletion) (c : RowColumn) (cs kept written total : List RowColumn) → says (bare_column over c).deletion (bare_column over c).cells ≡ true
    → kept ++ bare_columns at over (c ∷ cs) ≡ total → written ≡ kept ++ bare_column over c ∷ [] → written ++ bare_columns at over cs ≡ total
kept_column at over c cs kept written total said e w =
    ap (λ l. l ++ bare_columns at over cs) w ∙ append_assoc kept (bare_column over c ∷ []) (bare_columns at over cs)
    ∙ ap (λ o. kept ++ cons_option o (bare_columns at over cs)) (sym (column_left at (bare_column over c) true said)) ∙ e

pub dropped_column : (at : Option Clustering) (over : Option Deletion) (c : RowColumn) (cs kept total : List RowColumn) → says (bare_column over c).deletion (bare_column over c).cells ≡ false
    → kept ++ bare_columns at over (c ∷ cs) ≡ total → kept ++ bare_columns at over cs ≡ total
dropped_column at over c cs kept total said e = ap (λ o. kept ++ cons_option o (bare_columns at over cs)) (sym (column_left at (bare_column over c) false said)) ∙ e

-- ---- columns that nothing covers

both_true : (a b : Bool) → (a && b) ≡ true → (a ≡ true) × (b ≡ true)
both_true true b e = (refl, e)
both_true false b e = absurd (true≢false (sym e))

bare_cells : (over : Option Deletion) (cells : List PathCell) → all_bare over cells ≡ true → filter (λ p. is_bare over (cell_at p.cell)) cells ≡ cells
bare_cells over [] e = refl
bare_cells over (p ∷ cells) e =
    let (first, others) = both_true (is_bare over (cell_at p.cell)) (all_bare over cells) e in
    ap (λ b. cond b (p ∷ filter (λ p. is_bare over (cell_at p.cell)) cells) (filter (λ p. is_bare over (cell_at p.cell)) cells)) first ∙ ap (λ l. p ∷ l) (bare_cells over cells others)

column_stays : (at : Option Clustering) (over : Option Deletion) (column : ColumnRef) (d : Option Deletion) (cells : List PathCell) → stays over d cells ≡ true
    → if_said (of_column at (bare_column over (record { column = column; deletion = d; cells = cells }))) (bare_column over (record { column = column; deletion = d; cells = cells }))
    ≡ Some (record { column = column; deletion = d; cells = cells })
column_stays at over column (Some d) cells e = absurd (true≢false (sym e))
column_stays at over column None [] e = absurd (true≢false (sym e))
column_stays at over column None (p ∷ cells) e =
    let kept : filter (λ q. is_bare (greater deletion_cmp over None) (cell_at q.cell)) (p ∷ cells) ≡ p ∷ cells =
    ap (λ o. filter (λ q. is_bare o (cell_at q.cell)) (p ∷ cells)) (greater_none deletion_laws.orders over) ∙ bare_cells over (p ∷ cells) e in
    ap (λ l. if_said (of_column at (record { column = column; deletion = None; cells = l })) (record { column = column; deletion = None; cells = l })) kept

pub columns_stay : (at : Option Clustering) (over : Option Deletion) (cs : List RowColumn) → all_stay over cs ≡ true → cs ≡ bare_columns at over cs
columns_stay at over [] e = refl
columns_stay at over (c ∷ cs) e =
    let (first, others) = both_true (stays over c.deletion c.cells) (all_stay over cs) e in
    sym (λ i. cons_option (column_stays at over c.column c.deletion c.cells first i) (sym (columns_stay at over cs others) i))

-- ---- a row that nothing covers

live_stands : (over : Option Deletion) (l : Option Liveness) → live_stays over l ≡ true → standing live_at over l ≡ l
live_stands None l e = refl
live_stands (Some d) None e = refl
live_stands (Some d) (Some l) e = ap (λ b. cond b None (Some l)) (not-true (covered d (live_at l)) e)

row_stands : (over : Option Deletion) (r : Row) → row_stays over r ≡ true → if_said (own (fragment.Row (bare_row over r))) (fragment.Row (bare_row over r)) ≡ Some (fragment.Row r)
row_stands over r e =
    let all : Option Deletion = greater deletion_cmp over r.deletion in
    let (stays, said) = both_true (live_stays all r.live && all_stay all r.columns) (row_says r) e in
    let (live, columns) = both_true (live_stays all r.live) (all_stay all r.columns) stays in
    let same : bare_row over r ≡ r = λ i. record {
      clustering = r.clustering;
      deletion = r.deletion;
      live = live_stands all r.live live i;
      columns = sym (columns_stay (Some r.clustering) all r.columns columns) i;
    } in
    ap (λ s. if_said (own (fragment.Row s)) (fragment.Row s)) same ∙ row_left r true said

pub left_whole : (top now : Option Deletion) (f : Fragment) → is_left_whole top now f ≡ true → Some f ≡ left_of top now f
left_whole top now (fragment.Static cs) e = absurd (true≢false (sym e))
left_whole top now (fragment.Row r) e = sym (row_stands (greater deletion_cmp top now) r e)
left_whole top now (fragment.Marker cut d) e = sym (ap (λ b. cond b None (Some (fragment.Marker cut d))) (not-true (same_force now d) e))

-- Where a stream has a write, one of its fragments does; so the merge is merged.
use Rattle.std.proofs.Common.{◌≡◌, ℕ, Bool, Option, None, Some, List, [], ◌∷◌, ◌++◌, map, ◌⊎◌, inl, inr, refl, sym, ap, ◌∙◌, subst}
use Rattle.std.specs.List.{flat_map}
use Rattle.std.specs.Ordering.{nat_cmp}
use Rattle.cas_types.specs.Schemas.{is_static, is_regular, path_type}
use Rattle.cas_types.specs.declared.schema.Column.{Column}
use Rattle.cas_types.specs.declared.schema.Kind.{Kind}
use Rattle.cas_cell.specs.declared.deletion.Deletion.{Deletion}
use Rattle.cas_cell.specs.declared.liveness.Liveness.{Liveness}
use Rattle.cas_cell.specs.declared.cell.Cell.{Cell}
use Rattle.cas_bounds.specs.declared.cuts.Cut.{Cut}
use Rattle.cas_bounds.specs.declared.cuts.Clustering.{Clustering}
use Rattle.cas_atoms.specs.Coordinates.{clustered, static_row, path}
use Rattle.cas_atoms.specs.Winners.{live_winner, cell_winner}
use Rattle.cas_atoms.specs.RowsAndPaths.{path_cmp}
use Rattle.cas_atoms.specs.declared.atom.ColumnRef.{ColumnRef}
use Rattle.cas_atoms.specs.declared.atom.Atom.{Atom}
use Rattle.cas_atoms.specs.declared.atom.Atom.TheVariants.{PartitionDeletion, RangeDeletion, RowDeletion, Live, Write, StaticWrite}
use Rattle.cas_atoms.specs.declared.row.Row.{Row}
use Rattle.cas_atoms.specs.declared.row.RowColumn.{RowColumn}
use Rattle.cas_atoms.specs.declared.row.PathCell.{PathCell}
use Rattle.cas_laws.specs.Given.{Has}
use Rattle.cas_streams.specs.Flat.{atom_of, writes, empties, of_column, own, Change, between, ranges_after, ranges, changes, flat}
use Rattle.cas_streams.specs.Streams.{IsColumn, AreColumns, IsFragment, WellFormed}
use Rattle.cas_streams.specs.Joined.{Stream}
use Rattle.cas_streams.specs.Merged.{draw, joined_all, merged}
use Rattle.cas_streams.specs.Laws.{MergeIsMerged}
use Rattle.cas_streams.specs.declared.fragment.Fragment.{Fragment}
use Rattle.cas_streams.specs.declared.fragment.Fragment.TheVariants as fragment
use Rattle.cas_streams.proofs.Weaves.{Ascend, ascend_by_keys}
use Rattle.cas_streams.proofs.Single.{has_either, has_of, has_made}
use Rattle.cas_streams.proofs.Winning.{all_have, settled_clean, row_wins, cell_wins, static_wins}
use Rattle.cas_streams.proofs.Formed.{merge_is_well_formed}

-- an atom that is there, is made of what is there
made_of : {X : Type 0} (make : X → Atom) (x : Option X) (a : Atom) → Has (atom_of make x) a → (y : X) × (x ≡ Some y) × (make y ≡ a)
made_of make None a none = absurd none
made_of make (Some y) a (inl e) = (y, refl, e)
made_of make (Some y) a (inr none) = absurd none

-- what no deletion of a partition or of a range is, some fragment says
module _ (a : Atom) (partition : (d : Deletion) → PartitionDeletion d ≡ a → ⊥) (range : (lo hi : Cut) (d : Deletion) → RangeDeletion lo hi d ≡ a → ⊥) where
  no_range : (m : Change) (ms : List Change) → Has (ranges_after m ms) a → ⊥
  no_range m [] none = none
  no_range m (n ∷ ms) h =
      elim (has_either (between m n) (ranges_after n ms) a h) [
        | inl first ↦ let (d, there, e) = made_of (RangeDeletion m.at n.at) m.to a first in range m.at n.at d e
        | inr others ↦ no_range n ms others
      ]

  no_ranges : (ms : List Change) → Has (ranges ms) a → ⊥
  no_ranges [] none = none
  no_ranges (m ∷ ms) h = no_range m ms h

  by_fragment : (top : Option Deletion) (fs : List Fragment) → Has (flat top fs) a → (f : Fragment) × Has fs f × Has (own f) a
  by_fragment top fs h =
      elim (has_either (atom_of PartitionDeletion top) (ranges (changes fs) ++ flat_map own fs) a h) [
        | inl first ↦ let (d, there, e) = made_of PartitionDeletion top a first in absurd (partition d e)
        | inr others ↦ elim (has_either (ranges (changes fs)) (flat_map own fs) a others) [
          | inl covering ↦ absurd (no_ranges (changes fs) covering)
          | inr said ↦ has_of own fs a said
        ]
      ]

-- ---- columns

-- a write of that cell, in that column, of one of the columns
record Cells (cs : List RowColumn) (column : ColumnRef) (p : List ℕ) (v : Cell) : Type 0 where
  in_column : RowColumn
  has_column : Has cs in_column
  named : in_column.column ≡ column
  cell : PathCell
  has_cell : Has in_column.cells cell
  path : cell.path ≡ p
  value : cell.cell ≡ v

column_said : (at : Option Clustering) (cs : List RowColumn) (a : Atom) → Has (flat_map (of_column at) cs) a
    → (k : RowColumn) × Has cs k × (((d : Deletion) × (empties at k.column d ≡ a)) ⊎ ((q : PathCell) × Has k.cells q × (writes at k.column q ≡ a)))
column_said at cs a h =
    let (k, there, says) = has_of (of_column at) cs a h in (
      k,
      there,
      elim (has_either (atom_of (empties at k.column) k.deletion) (map (writes at k.column) k.cells) a says) [
        | inl deleted ↦ let (d, has, e) = made_of (empties at k.column) k.deletion a deleted in inl (d, e)
        | inr written ↦ inr (has_made (writes at k.column) k.cells a written)
      ],
    )

no_live : {G : Type 0} (at : Option Clustering) (cs : List RowColumn) (c : Clustering) (l : Liveness) → Has (flat_map (of_column at) cs) (Live c l) → G
no_live at cs c l h = let (k, there, says) = column_said at cs (Live c l) h in
    elim (says) [
      | inl deleted ↦ let (d, e) = deleted in not_empty at k.column d e
      | inr written ↦ let (q, has, e) = written in not_write at k.column q e
    ]
  where
    not_empty : {G : Type 0} (at : Option Clustering) (column : ColumnRef) (d : Deletion) → empties at column d ≡ Live c l → G
    not_empty None column d e = cc
    not_empty (Some r) column d e = cc

    not_write : {G : Type 0} (at : Option Clustering) (column : ColumnRef) (q : PathCell) → writes at column q ≡ Live c l → G
    not_write None column q e = cc
    not_write (Some r) column q e = cc

-- ---- rows

-- the row in which an INSERT left that
record Lives (fs : List Fragment) (c : Clustering) (l : Liveness) : Type 0 where
  lives_in : Row
  has_row : Has fs (fragment.Row lives_in)
  at : lives_in.clustering ≡ c
  live : lives_in.live ≡ Some l

says_live : (fs : List Fragment) (c : Clustering) (l : Liveness) (f : Fragment) → Has fs f → Has (own f) (Live c l) → Lives fs c l
says_live fs c l (fragment.Static cs) has h = no_live None cs c l h
says_live fs c l (fragment.Row r) has h =
    elim (has_either (atom_of (RowDeletion r.clustering) r.deletion) (atom_of (Live r.clustering) r.live ++ flat_map (of_column (Some r.clustering)) r.columns) (Live c l) h) [
      | inl deleted ↦ let (d, there, e) = made_of (RowDeletion r.clustering) r.deletion (Live c l) deleted in cc
      | inr others ↦ elim (has_either (atom_of (Live r.clustering) r.live) (flat_map (of_column (Some r.clustering)) r.columns) (Live c l) others) [
        | inl lives ↦ let (m, there, e) = made_of (Live r.clustering) r.live (Live c l) lives in record { lives_in = r; has_row = has; at = cc; live = cc }
        | inr in_columns ↦ no_live (Some r.clustering) r.columns c l in_columns
      ]
    ]
says_live fs c l (fragment.Marker cut d) has none = absurd none

record Written (fs : List Fragment) (c : Clustering) (column : ColumnRef) (p : List ℕ) (v : Cell) : Type 0 where
  written_in : Row
  has_row : Has fs (fragment.Row written_in)
  at : written_in.clustering ≡ c
  cells : Cells written_in.columns column p v

says_write : (fs : List Fragment) (c : Clustering) (column : ColumnRef) (p : List ℕ) (v : Cell) (f : Fragment) → Has fs f → Has (own f) (Write c column p v) → Written fs c column p v
says_write fs c column p v (fragment.Static cs) has h =
    let (k, there, says) = column_said None cs (Write c column p v) h in
    elim (says) [
      | inl deleted ↦ let (d, e) = deleted in cc
      | inr written ↦ let (q, stands, e) = written in cc
    ]
says_write fs c column p v (fragment.Row r) has h =
    elim (has_either (atom_of (RowDeletion r.clustering) r.deletion) (atom_of (Live r.clustering) r.live ++ flat_map (of_column (Some r.clustering)) r.columns) (Write c column p v) h) [
      | inl deleted ↦ let (d, there, e) = made_of (RowDeletion r.clustering) r.deletion (Write c column p v) deleted in cc
      | inr others ↦ elim (has_either (atom_of (Live r.clustering) r.live) (flat_map (of_column (Some r.clustering)) r.columns) (Write c column p v) others) [
        | inl lives ↦ let (m, there, e) = made_of (Live r.clustering) r.live (Write c column p v) lives in cc
        | inr in_columns ↦
            let (k, there, says) = column_said (Some r.clustering) r.columns (Write c column p v) in_columns in
            elim (says) [
              | inl deleted ↦ let (d, e) = deleted in cc
              | inr written ↦ let (q, stands, e) = written in record {
                written_in = r;
                has_row = has;
                at = cc;
                cells = record { in_column = k; has_column = there; named = cc; cell = q; has_cell = stands; path = cc; value = cc };
              }
            ]
      ]
    ]
says_write fs c column p v (fragment.Marker cut d) has none = absurd none

record Static (fs : List Fragment) (column : ColumnRef) (p : List ℕ) (v : Cell) : Type 0 where
  columns : List RowColumn
  has_static : Has fs (fragment.Static columns)
  cells : Cells columns column p v

says_static : (fs : List Fragment) (column : ColumnRef) (p : List ℕ) (v : Cell) (f : Fragment) → Has fs f → Has (own f) (StaticWrite column p v) → Static fs column p v
says_static fs column p v (fragment.Static cs) has h =
    let (k, there, says) = column_said None cs (StaticWrite column p v) h in
    elim (says) [
      | inl deleted ↦ let (d, e) = deleted in cc
      | inr written ↦ let (q, stands, e) = written in record {
        columns = cs;
        has_static = has;
        cells = record { in_column = k; has_column = there; named = cc; cell = q; has_cell = stands; path = cc; value = cc };
      }
    ]
says_static fs column p v (fragment.Row r) has h =
    elim (has_either (atom_of (RowDeletion r.clustering) r.deletion) (atom_of (Live r.clustering) r.live ++ flat_map (of_column (Some r.clustering)) r.columns) (StaticWrite column p v) h) [
      | inl deleted ↦ let (d, there, e) = made_of (RowDeletion r.clustering) r.deletion (StaticWrite column p v) deleted in cc
      | inr others ↦ elim (has_either (atom_of (Live r.clustering) r.live) (flat_map (of_column (Some r.clustering)) r.columns) (StaticWrite column p v) others) [
        | inl lives ↦ let (m, there, e) = made_of (Live r.clustering) r.live (StaticWrite column p v) lives in cc
        | inr in_columns ↦
            let (k, there, says) = column_said (Some r.clustering) r.columns (StaticWrite column p v) in_columns in
            elim (says) [
              | inl deleted ↦ let (d, e) = deleted in cc
              | inr written ↦ let (q, stands, e) = written in cc
            ]
      ]
    ]
says_static fs column p v (fragment.Marker cut d) has none = absurd none

-- ---- the merge

numbers : (is_of : Kind → Bool) (columns : List Column) (cs : List RowColumn) → AreColumns is_of columns cs → Ascend nat_cmp (λ c. c.column.number) cs
numbers is_of columns cs a = ascend_by_keys nat_cmp (λ c. c.column.number) cs a.ascend

paths : (is_of : Kind → Bool) (columns : List Column) (k : RowColumn) (i : IsColumn is_of columns k) → Ascend (path_cmp (path_type i.column.shape i.column.tag)) (λ c. c.path) k.cells
paths is_of columns k i = ascend_by_keys (path_cmp (path_type i.column.shape i.column.tag)) (λ c. c.path) k.cells i.ascend

pub merge_is_merged : MergeIsMerged
merge_is_merged columns ss all =
    let s : Stream = merged ss in
    let formed : WellFormed columns s.fragments = merge_is_well_formed columns ss all in
    let clean = settled_clean s.top None (joined_all (draw ss)).fragments in
    record {
      well_formed = formed;
      lives = λ c l h.
          let (f, has, says) = by_fragment (Live c l) (λ d e. cc) (λ lo hi d e. cc) s.top s.fragments h in
          let there = says_live s.fragments c l f has says in
          subst (λ k. live_winner (flat s.top s.fragments) k.values ≡ Some l) there.at (row_wins s.top s.fragments formed.ordered clean there.lives_in l there.has_row there.live);
      cells = λ c column p v h.
          let (f, has, says) = by_fragment (Write c column p v) (λ d e. cc) (λ lo hi d e. cc) s.top s.fragments h in
          let there = says_write s.fragments c column p v f has says in
          let r : Row = there.written_in in
          let k : RowColumn = there.cells.in_column in
          let are : AreColumns is_regular columns r.columns = (all_have (IsFragment columns) s.fragments (fragment.Row r) formed.fragments there.has_row).0 in
          let is : IsColumn is_regular columns k = all_have (IsColumn is_regular columns) r.columns k are.each there.cells.has_column in
          (λ i. cell_winner (flat s.top s.fragments) (path (clustered (sym there.at i).values) (sym there.cells.named i).number (sym there.cells.path i)))
          ∙ cell_wins s.top s.fragments formed.ordered clean r k (path_type is.column.shape is.column.tag) there.cells.cell there.has_row (numbers is_regular columns r.columns are) there.cells.has_column
          (paths is_regular columns k is) there.cells.has_cell
          ∙ ap Some there.cells.value;
      statics = λ column p v h.
          let (f, has, says) = by_fragment (StaticWrite column p v) (λ d e. cc) (λ lo hi d e. cc) s.top s.fragments h in
          let there = says_static s.fragments column p v f has says in
          let k : RowColumn = there.cells.in_column in
          let are : AreColumns is_static columns there.columns = (all_have (IsFragment columns) s.fragments (fragment.Static there.columns) formed.fragments there.has_static).0 in
          let is : IsColumn is_static columns k = all_have (IsColumn is_static columns) there.columns k are.each there.cells.has_column in
          (λ i. cell_winner (flat s.top s.fragments) (path static_row (sym there.cells.named i).number (sym there.cells.path i)))
          ∙ static_wins s.top s.fragments formed.ordered clean there.columns k (path_type is.column.shape is.column.tag) there.cells.cell there.has_static (numbers is_static columns there.columns are) there.cells.has_column
          (paths is_static columns k is) there.cells.has_cell
          ∙ ap Some there.cells.value;
    }

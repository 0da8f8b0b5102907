-- What stays of a stream says exactly the atoms that stay.
use Rattle.std.proofs.Common.{◌≡◌, ℤ, Bool, true, false, cond, not, ◌||◌, Option, None, Some, is_some, List, [], ◌∷◌, ◌++◌, map, filter, refl, sym, ap, ◌∙◌}
use Rattle.std.specs.List.{flat_map, cons_option}
use Rattle.std.proofs.lemmas.List.Elements.{filter-append}
use Rattle.cas_cell.specs.declared.deletion.Deletion.{Deletion}
use Rattle.cas_bounds.specs.declared.cuts.Clustering.{Clustering}
use Rattle.cas_atoms.specs.declared.atom.ColumnRef.{ColumnRef}
use Rattle.cas_atoms.specs.declared.atom.Atom.{Atom}
use Rattle.cas_atoms.specs.declared.atom.Atom.TheVariants.{PartitionDeletion, RangeDeletion, RowDeletion, Live}
use Rattle.cas_atoms.specs.declared.row.Row.{Row}
use Rattle.cas_atoms.specs.declared.row.RowColumn.{RowColumn}
use Rattle.cas_atoms.specs.declared.row.PathCell.{PathCell}
use Rattle.cas_streams.specs.Flat.{atom_of, writes, empties, of_column, own, Change, changes, between, ranges_after, ranges}
use Rattle.cas_streams.specs.Settled.{if_said}
use Rattle.cas_streams.specs.declared.fragment.Fragment.{Fragment}
use Rattle.cas_streams.specs.declared.fragment.Fragment.TheVariants as fragment
use Rattle.cas_streams.proofs.Bare.{said}
use Rattle.cas_purge.specs.Droppable.{stays}
use Rattle.cas_purge.specs.Purged.{unless, deletion_goes, live_goes, cell_goes, purged_column, purged_columns, purged_row, purged_from}
use Rattle.cas_purge.specs.Laws.{PurgeDropsDroppable}

-- ---- atoms that are made of what is there

module _ {X : Type 0} (t : Atom → Bool) (make : X → Atom) where
  atom_kept : (goes : X → Bool) → ((x : X) → t (make x) ≡ not (goes x)) → (x : Option X) → atom_of make (unless goes x) ≡ filter t (atom_of make x)
  atom_kept goes h None = refl
  atom_kept goes h (Some x) = by_test (goes x) ∙ ap (λ b. cond b (make x ∷ []) []) (sym (h x))
    where
      by_test : (b : Bool) → atom_of make (cond b None (Some x)) ≡ cond (not b) (make x ∷ []) []
      by_test true = refl
      by_test false = refl

  made_kept : (s : X → Bool) → ((x : X) → t (make x) ≡ s x) → (xs : List X) → map make (filter s xs) ≡ filter t (map make xs)
  made_kept s h [] = refl
  made_kept s h (x ∷ xs) = by_test (s x) ∙ (λ i. cond (sym (h x) i) (make x ∷ made_kept s h xs i) (made_kept s h xs i))
    where
      by_test : (b : Bool) → map make (cond b (x ∷ filter s xs) (filter s xs)) ≡ cond b (make x ∷ map make (filter s xs)) (map make (filter s xs))
      by_test true = refl
      by_test false = refl

three_kept : (t : Atom → Bool) (A B C : List Atom) → filter t (A ++ (B ++ C)) ≡ filter t A ++ (filter t B ++ filter t C)
three_kept t A B C = filter-append t A (B ++ C) ∙ ap (λ l. filter t A ++ l) (filter-append t B C)

module _ (before limit : ℤ) where
  -- ---- rows

  emptied : (at : Option Clustering) (column : ColumnRef) (d : Deletion) → stays before limit (empties at column d) ≡ not (deletion_goes before limit d)
  emptied None column d = refl
  emptied (Some c) column d = refl

  written : (at : Option Clustering) (column : ColumnRef) (p : PathCell) → stays before limit (writes at column p) ≡ not (cell_goes before limit p.cell)
  written None column p = refl
  written (Some c) column p = refl

  column_says : (at : Option Clustering) (c : RowColumn) → of_column at (purged_column before limit c) ≡ filter (stays before limit) (of_column at c)
  column_says at c =
      (λ i. atom_kept (stays before limit) (empties at c.column) (deletion_goes before limit) (emptied at c.column) c.deletion i
      ++ made_kept (stays before limit) (writes at c.column) (λ p. not (cell_goes before limit p.cell)) (written at c.column) c.cells i)
      ∙ sym (filter-append (stays before limit) (atom_of (empties at c.column) c.deletion) (map (writes at c.column) c.cells))

  columns_say : (at : Option Clustering) (cs : List RowColumn) → flat_map (of_column at) (purged_columns before limit at cs) ≡ filter (stays before limit) (flat_map (of_column at) cs)
  columns_say at [] = refl
  columns_say at (c ∷ cs) =
      said (of_column at) (purged_column before limit c) (purged_columns before limit at cs) ∙ (λ i. column_says at c i ++ columns_say at cs i)
      ∙ sym (filter-append (stays before limit) (of_column at c) (flat_map (of_column at) cs))

  row_says : (r : Row) → own (fragment.Row (purged_row before limit r)) ≡ filter (stays before limit) (own (fragment.Row r))
  row_says r =
      let at : Option Clustering = Some r.clustering in
      (λ i. atom_kept (stays before limit) (RowDeletion r.clustering) (deletion_goes before limit) (λ d. refl) r.deletion i
      ++ (atom_kept (stays before limit) (Live r.clustering) (live_goes before limit) (λ l. refl) r.live i ++ columns_say at r.columns i))
      ∙ sym (three_kept (stays before limit) (atom_of (RowDeletion r.clustering) r.deletion) (atom_of (Live r.clustering) r.live) (flat_map (of_column at) r.columns))

  own_kept : (now : Bool) (fs : List Fragment) → flat_map own (purged_from before limit now fs) ≡ filter (stays before limit) (flat_map own fs)
  own_kept now [] = refl
  own_kept now (fragment.Static cs ∷ fs) =
      said own (fragment.Static (purged_columns before limit None cs)) (purged_from before limit now fs) ∙ (λ i. columns_say None cs i ++ own_kept now fs i)
      ∙ sym (filter-append (stays before limit) (own (fragment.Static cs)) (flat_map own fs))
  own_kept now (fragment.Row r ∷ fs) =
      said own (fragment.Row (purged_row before limit r)) (purged_from before limit now fs) ∙ (λ i. row_says r i ++ own_kept now fs i)
      ∙ sym (filter-append (stays before limit) (own (fragment.Row r)) (flat_map own fs))
  own_kept now (fragment.Marker cut d ∷ fs) =
      let kept : Option Deletion = unless (deletion_goes before limit) d in
      marked (now || is_some kept) kept (purged_from before limit (is_some kept) fs) ∙ own_kept (is_some kept) fs
    where
      marked : (b : Bool) (e : Option Deletion) (rest : List Fragment) → flat_map own (cons_option (cond b (Some (fragment.Marker cut e)) None) rest) ≡ flat_map own rest
      marked true e rest = refl
      marked false e rest = refl

  -- ---- range deletions

  abbrev pub kept_change : Change → Change
  kept_change m = record { at = m.at; to = unless (deletion_goes before limit) m.to }

  -- the changes that stay: of those to no deletion, the ones behind one that stays
  abbrev pub kept_changes : Bool → List Change → List Change
  kept_changes now [] = []
  kept_changes now (m ∷ ms) =
      cond (now || is_some (kept_change m).to) (kept_change m ∷ kept_changes (is_some (kept_change m).to) ms) (kept_changes (is_some (kept_change m).to) ms)

  pub changes_kept : (now : Bool) (fs : List Fragment) → changes (purged_from before limit now fs) ≡ kept_changes now (changes fs)
  changes_kept now [] = refl
  changes_kept now (fragment.Static cs ∷ fs) =
      unmarked (own (fragment.Static (purged_columns before limit None cs))) ∙ changes_kept now fs
    where
      unmarked : (atoms : List Atom)
          → changes (cons_option (if_said atoms (fragment.Static (purged_columns before limit None cs))) (purged_from before limit now fs)) ≡ changes (purged_from before limit now fs)
      unmarked [] = refl
      unmarked (a ∷ atoms) = refl
  changes_kept now (fragment.Row r ∷ fs) =
      unmarked (own (fragment.Row (purged_row before limit r))) ∙ changes_kept now fs
    where
      unmarked : (atoms : List Atom)
          → changes (cons_option (if_said atoms (fragment.Row (purged_row before limit r))) (purged_from before limit now fs)) ≡ changes (purged_from before limit now fs)
      unmarked [] = refl
      unmarked (a ∷ atoms) = refl
  changes_kept now (fragment.Marker cut d ∷ fs) =
      let kept : Option Deletion = unless (deletion_goes before limit) d in
      marked (now || is_some kept) kept (purged_from before limit (is_some kept) fs)
      ∙ (λ i. cond (now || is_some kept) (record { at = cut; to = kept } ∷ changes_kept (is_some kept) fs i) (changes_kept (is_some kept) fs i))
    where
      marked : (b : Bool) (e : Option Deletion) (rest : List Fragment)
          → changes (cons_option (cond b (Some (fragment.Marker cut e)) None) rest) ≡ cond b (record { at = cut; to = e } ∷ changes rest) (changes rest)
      marked true e rest = refl
      marked false e rest = refl

  -- a change to no deletion tells no range
  silent : (m : Change) (ms : List Change) → m.to ≡ None → ranges_after m ms ≡ ranges ms
  silent m [] e = refl
  silent m (n ∷ ms) e = ap (λ d. atom_of (RangeDeletion m.at n.at) d ++ ranges_after n ms) e

  -- one behind another such may be left out
  passed : (m n : Change) (rest : List Change) → ranges_after m (cond (is_some m.to || is_some n.to) (n ∷ rest) rest) ≡ between m n ++ ranges_after n rest
  passed m n rest = by_force m.to n.to refl refl
    where
      by_force : (d e : Option Deletion) → m.to ≡ d → n.to ≡ e → ranges_after m (cond (is_some d || is_some e) (n ∷ rest) rest) ≡ between m n ++ ranges_after n rest
      by_force (Some c) e f g = refl
      by_force None (Some c) f g = refl
      by_force None None f g = silent m rest f ∙ sym (silent n rest g) ∙ ap (λ d. atom_of (RangeDeletion m.at n.at) d ++ ranges_after n rest) (sym f)

  ranges_kept : (m : Change) (ms : List Change) → ranges_after (kept_change m) (kept_changes (is_some (kept_change m).to) ms) ≡ filter (stays before limit) (ranges_after m ms)
  ranges_kept m [] = refl
  ranges_kept m (n ∷ ms) =
      passed (kept_change m) (kept_change n) (kept_changes (is_some (kept_change n).to) ms)
      ∙ (λ i. atom_kept (stays before limit) (RangeDeletion m.at n.at) (deletion_goes before limit) (λ d. refl) m.to i ++ ranges_kept n ms i)
      ∙ sym (filter-append (stays before limit) (between m n) (ranges_after n ms))

  all_ranges_kept : (ms : List Change) → ranges (kept_changes false ms) ≡ filter (stays before limit) (ranges ms)
  all_ranges_kept [] = refl
  all_ranges_kept (m ∷ ms) = by_force (kept_change m).to (kept_changes (is_some (kept_change m).to) ms) refl ∙ ranges_kept m ms
    where
      by_force : (d : Option Deletion) (rest : List Change) → (kept_change m).to ≡ d → ranges (cond (is_some d) (kept_change m ∷ rest) rest) ≡ ranges_after (kept_change m) rest
      by_force (Some c) rest e = refl
      by_force None rest e = sym (silent (kept_change m) rest e)

pub purge_drops_droppable : PurgeDropsDroppable
purge_drops_droppable before limit s =
    let t : Atom → Bool = stays before limit in
    (λ i. atom_kept t PartitionDeletion (deletion_goes before limit) (λ d. refl) s.top i
    ++ ((ap ranges (changes_kept before limit false s.fragments) ∙ all_ranges_kept before limit (changes s.fragments)) i ++ own_kept before limit false s.fragments i))
    ∙ sym (three_kept t (atom_of PartitionDeletion s.top) (ranges (changes s.fragments)) (flat_map own s.fragments))

-- Columns of rows, joined and settled, are columns of the table as they were.
use Rattle.std.proofs.Common.{◌≡◌, ℕ, Bool, true, false, cond, Option, None, Some, List, [], ◌∷◌, ◌++◌, map, filter, slice_get, inl, inr, refl, sym, ap, ◌∙◌, subst}
use Rattle.std.specs.Option.{unwrap_or}
use Rattle.std.specs.List.{AllByRecursion, cons_option}
use Rattle.std.specs.List.Sorted.{IsStrictlySortedBy}
use Rattle.std.specs.declared.cmp.Ordering.{Ordering}
use Rattle.std.specs.declared.cmp.Ordering.TheVariants.{Less, Equal}
use Rattle.std.specs.Ordering.{nat_cmp}
use Rattle.std.specs.FinMap.{nat_cmp-IsAntisymmetric}
use Rattle.std.proofs.lemmas.Cmp.{nat_cmp_total}
use Rattle.cas_types.specs.Schemas.{is_plain, path_type}
use Rattle.cas_types.specs.declared.tag.TypeTag.{TypeTag}
use Rattle.cas_types.specs.declared.schema.Column.{Column}
use Rattle.cas_types.specs.declared.schema.Kind.{Kind}
use Rattle.cas_cell.specs.Deletions.{deletion_cmp}
use Rattle.cas_cell.specs.Cells.{cell_at}
use Rattle.cas_cell.specs.declared.deletion.Deletion.{Deletion}
use Rattle.cas_bounds.specs.declared.cuts.Clustering.{Clustering}
use Rattle.cas_atoms.specs.Greatest.{greater}
use Rattle.cas_atoms.specs.Fits.{Names, is_path}
use Rattle.cas_atoms.specs.RowsAndPaths.{path_cmp}
use Rattle.cas_atoms.specs.declared.row.RowColumn.{RowColumn}
use Rattle.cas_atoms.specs.declared.row.PathCell.{PathCell}
use Rattle.cas_laws.proofs.ShownProofs.{path_orders}
use Rattle.cas_laws.proofs.GreatestProofs.{either_greater}
use Rattle.cas_streams.specs.Flat.{atom_of, of_column, writes, empties}
use Rattle.cas_streams.specs.Streams.{IsThere, IsColumn, AreColumns}
use Rattle.cas_streams.specs.Joined.{plainly, joined_cell, joined_cells, joined_column, joined_columns}
use Rattle.cas_streams.specs.Settled.{is_bare, if_said, bare_column, bare_columns}
use Rattle.cas_streams.proofs.Weaves.{Ascend, keys_ascend, ascend_by_keys, woven_all, woven_ascend}

pub each_true : {X : Type 0} (xs : List X) → AllByRecursion (λ x. Unit {0}) xs
each_true [] = tt
each_true (x ∷ xs) = (tt, each_true xs)

all_kept : {X : Type 0} (P : X → Type 0) (t : X → Bool) (xs : List X) → AllByRecursion P xs → AllByRecursion P (filter t xs)
all_kept P t [] a = tt
all_kept P t (x ∷ xs) a =
    elim (t x) as (λ b. AllByRecursion P (cond b (x ∷ filter t xs) (filter t xs))) [
      | true ↦ (a.0, all_kept P t xs a.1)
      | false ↦ all_kept P t xs a.1
    ]

ascend_kept : {X K : Type 0} (R : K → K → Ordering) (key : X → K) (t : X → Bool) (xs : List X) → Ascend R key xs → Ascend R key (filter t xs)
ascend_kept R key t [] a = tt
ascend_kept R key t (x ∷ xs) a =
    elim (t x) as (λ b. Ascend R key (cond b (x ∷ filter t xs) (filter t xs))) [
      | true ↦ (all_kept (λ y. R (key x) (key y) ≡ Less) t xs a.0, ascend_kept R key t xs a.1)
      | false ↦ ascend_kept R key t xs a.1
    ]

module _ (is_of : Kind → Bool) (columns : List Column) where
  -- a column of which it isn't known whether something is said
  pub record Of (c : RowColumn) : Type 0 where
    pub column : Column
    pub named : Names columns c.column column
    pub kind : is_of column.kind ≡ true
    pub ascend : IsStrictlySortedBy (path_cmp (path_type column.shape column.tag)) (map (λ p. p.path) c.cells)
    pub paths : AllByRecursion (λ p. is_path column p.path ≡ true) c.cells
    pub collection : (d : Deletion) → c.deletion ≡ Some d → is_plain column.shape ≡ false

  pub record AllOf (cs : List RowColumn) : Type 0 where
    pub ascend : Ascend nat_cmp (λ c. c.column.number) cs
    pub each : AllByRecursion Of cs

  to_each : (cs : List RowColumn) → AllByRecursion (IsColumn is_of columns) cs → AllByRecursion Of cs
  to_each [] a = tt
  to_each (c ∷ cs) a =
      let i : IsColumn is_of columns c = a.0 in
      (record { column = i.column; named = i.named; kind = i.kind; ascend = i.ascend; paths = i.paths; collection = i.collection }, to_each cs a.1)

  pub columns_of : (cs : List RowColumn) → AreColumns is_of columns cs → AllOf cs
  columns_of cs a = record { ascend = ascend_by_keys nat_cmp (λ c. c.column.number) cs a.ascend; each = to_each cs a.each }

  -- ---- joined

  same_column : (c d : RowColumn) → c.column.number ≡ d.column.number → (i : Of c) (j : Of d) → j.column ≡ i.column
  same_column c d e i j = ap (λ s. unwrap_or s i.column) (sym j.named.there ∙ ap (slice_get columns) (sym e) ∙ i.named.there)

  joined_of : (c d : RowColumn) → nat_cmp c.column.number d.column.number ≡ Equal → Of c → Of d → Of (joined_column c d)
  joined_of c d e i j =
      let same : j.column ≡ i.column = same_column c d (nat_cmp-IsAntisymmetric c.column.number d.column.number e) i j in
      let tag : Option TypeTag = path_type i.column.shape i.column.tag in
      let w = plainly (λ (p q : PathCell). path_cmp c.column.path p.path q.path) joined_cell in
      record {
        column = i.column;
        named = i.named;
        kind = i.kind;
        ascend = keys_ascend (path_cmp tag) (λ p. p.path) (joined_cells c.column.path c.cells d.cells)
            (woven_ascend w (path_cmp tag) (path_orders tag).total (λ p. p.path) (λ p. Unit {0}) (λ p q f g. ap (λ t. path_cmp t p.path q.path) i.named.path) (λ s p. refl) (λ s q. refl) (λ s p q. refl) tt c.cells d.cells
            (each_true c.cells) (each_true d.cells) (ascend_by_keys (path_cmp tag) (λ p. p.path) c.cells i.ascend)
            (ascend_by_keys (path_cmp tag) (λ p. p.path) d.cells (subst (λ k. IsStrictlySortedBy (path_cmp (path_type k.shape k.tag)) (map (λ p. p.path) d.cells)) same j.ascend)));
        paths = woven_all w (λ p. is_path i.column p.path ≡ true) (λ s p h. h) (λ s q h. h) (λ s p q f h g. h) tt c.cells d.cells i.paths
            (subst (λ k. AllByRecursion (λ p. is_path k p.path ≡ true) d.cells) same j.paths);
        collection = λ x h. elim (either_greater deletion_cmp c.deletion d.deletion x h) [
          | inl left ↦ i.collection x left
          | inr right ↦ ap (λ k. is_plain k.shape) (sym same) ∙ j.collection x right
        ];
      }

  pub joined_all_of : (cs ds : List RowColumn) → AllOf cs → AllOf ds → AllOf (joined_columns cs ds)
  joined_all_of cs ds a b =
      let w = plainly (λ (c d : RowColumn). nat_cmp c.column.number d.column.number) joined_column in
      record {
        ascend = woven_ascend w nat_cmp nat_cmp_total (λ c. c.column.number) (λ c. Unit {0}) (λ c d f g. refl) (λ s c. refl) (λ s d. refl) (λ s c d. refl) tt cs ds (each_true cs) (each_true ds) a.ascend b.ascend;
        each = woven_all w Of (λ s c h. h) (λ s d h. h) (λ s c d e h k. joined_of c d e h k) tt cs ds a.each b.each;
      }

  -- ---- settled

  bare_of : (over : Option Deletion) (c : RowColumn) → Of c → Of (bare_column over c)
  bare_of over c i =
      let t = λ (p : PathCell). is_bare (greater deletion_cmp over c.deletion) (cell_at p.cell) in
      let tag : Option TypeTag = path_type i.column.shape i.column.tag in
      record {
        column = i.column;
        named = i.named;
        kind = i.kind;
        ascend = keys_ascend (path_cmp tag) (λ p. p.path) (filter t c.cells) (ascend_kept (path_cmp tag) (λ p. p.path) t c.cells (ascend_by_keys (path_cmp tag) (λ p. p.path) c.cells i.ascend));
        paths = all_kept (λ p. is_path i.column p.path ≡ true) t c.cells i.paths;
        collection = i.collection;
      }

  there : (at : Option Clustering) (c : RowColumn) → IsThere (of_column at c) → c.deletion ≡ None → IsThere c.cells
  there at c h none = cells c.cells (subst (λ d. IsThere (atom_of (empties at c.column) d ++ map (writes at c.column) c.cells)) none h)
    where
      cells : (ps : List PathCell) → IsThere (map (writes at c.column) ps) → IsThere ps
      cells [] no_atom = no_atom
      cells (p ∷ ps) some = tt

  is_column : (at : Option Clustering) (c : RowColumn) → Of c → IsThere (of_column at c) → IsColumn is_of columns c
  is_column at c i h = record { column = i.column; named = i.named; kind = i.kind; ascend = i.ascend; paths = i.paths; collection = i.collection; said = there at c h }

  module _ (at : Option Clustering) (over : Option Deletion) where
    above_kept : (n : ℕ) (cs : List RowColumn) → AllByRecursion (λ c. nat_cmp n c.column.number ≡ Less) cs → AllByRecursion (λ c. nat_cmp n c.column.number ≡ Less) (bare_columns at over cs)
    above_kept n [] a = tt
    above_kept n (c ∷ cs) a =
        elim (of_column at (bare_column over c)) as (λ l. AllByRecursion (λ d. nat_cmp n d.column.number ≡ Less) (cons_option (if_said l (bare_column over c)) (bare_columns at over cs))) [
          | [] ↦ above_kept n cs a.1
          | x ∷ atoms ↦ (a.0, above_kept n cs a.1)
        ]

    columns_ascend : (cs : List RowColumn) → Ascend nat_cmp (λ c. c.column.number) cs → Ascend nat_cmp (λ c. c.column.number) (bare_columns at over cs)
    columns_ascend [] a = tt
    columns_ascend (c ∷ cs) a =
        elim (of_column at (bare_column over c)) as (λ l. Ascend nat_cmp (λ d. d.column.number) (cons_option (if_said l (bare_column over c)) (bare_columns at over cs))) [
          | [] ↦ columns_ascend cs a.1
          | x ∷ atoms ↦ (above_kept c.column.number cs a.0, columns_ascend cs a.1)
        ]

    each_left : (cs : List RowColumn) → AllByRecursion Of cs → AllByRecursion (IsColumn is_of columns) (bare_columns at over cs)
    each_left [] a = tt
    each_left (c ∷ cs) a =
        elim (of_column at (bare_column over c)) as (λ l. of_column at (bare_column over c) ≡ l → AllByRecursion (IsColumn is_of columns) (cons_option (if_said l (bare_column over c)) (bare_columns at over cs))) [
          | [] ↦ λ e. each_left cs a.1
          | x ∷ atoms ↦ λ e. (is_column at (bare_column over c) (bare_of over c a.0) (subst IsThere (sym e) tt), each_left cs a.1)
        ] refl

    pub columns_left : (cs : List RowColumn) → AllOf cs → AreColumns is_of columns (bare_columns at over cs)
    columns_left cs a = record { ascend = keys_ascend nat_cmp (λ c. c.column.number) (bare_columns at over cs) (columns_ascend cs a.ascend); each = each_left cs a.each }

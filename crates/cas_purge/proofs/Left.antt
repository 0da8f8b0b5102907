-- What stays of columns and fragments, by what the code asks.
use Rattle.std.proofs.Common.{◌≡◌, ℤ, Bool, true, false, cond, ◌||◌, Option, None, Some, is_some, List, [], ◌∷◌, ◌++◌, map, refl, sym, ap, ◌∙◌, subst}
use Rattle.std.specs.List.{flat_map, cons_option, retain_mut}
use Rattle.std.specs.List.Retain.{RetainsInTurn}
use Rattle.cas_bounds.specs.declared.cuts.Clustering.{Clustering}
use Rattle.cas_atoms.specs.declared.atom.Atom.{Atom}
use Rattle.cas_atoms.specs.declared.atom.Atom.TheVariants.{RowDeletion, Live}
use Rattle.cas_atoms.specs.declared.row.Row.{Row}
use Rattle.cas_atoms.specs.declared.row.RowColumn.{RowColumn}
use Rattle.cas_streams.specs.Flat.{atom_of, writes, empties, of_column, own}
use Rattle.cas_streams.specs.Settled.{if_said}
use Rattle.cas_streams.specs.declared.fragment.Fragment.{Fragment}
use Rattle.cas_streams.specs.declared.fragment.Fragment.TheVariants as fragment
use Rattle.cas_purge.specs.Purged.{unless, deletion_goes, live_goes, purged_column, purged_columns, purged_row, left_of}
use Rattle.cas_purge.specs.Inner.There.{is_there, column_there, row_there}

-- a closure that tells the test, changes each element so and stays as it is, leaves what the definition says
pub walked : {S X : Type 0} (R : S → X → Bool → S → X → Type 0) (test : X → Bool) (change : X → X) (f : S)
    → ((x : X) (b : Bool) (g : S) (y : X) → R f x b g y → (b ≡ test x) × (g ≡ f) × (y ≡ change x)) → (xs ys : List X) → RetainsInTurn R f xs ys → ys ≡ retain_mut test change xs
walked R test change f h [] ys w = w
walked R test change f h (x ∷ xs) ys w =
    let (b, g, y, called, zs, rest, e) = w in
    let (told, same, left) = h x b g y called in
    let others : zs ≡ retain_mut test change xs = walked R test change f h xs zs (subst (λ s. RetainsInTurn R s xs zs) same rest) in
    e ∙ (λ i. cond (told i) (left i ∷ others i) (others i))

if_there : {X : Type 0} (atoms : List Atom) (x : X) → if_said atoms x ≡ cond (is_there atoms) (Some x) None
if_there [] x = refl
if_there (a ∷ atoms) x = refl

either_there : {X : Type 0} (A B : List X) → is_there (A ++ B) ≡ (is_there A || is_there B)
either_there [] B = refl
either_there (a ∷ A) B = refl

atom_there : {X : Type 0} (make : X → Atom) (x : Option X) → is_there (atom_of make x) ≡ is_some x
atom_there make None = refl
atom_there make (Some x) = refl

made_there : {X : Type 0} (make : X → Atom) (xs : List X) → is_there (map make xs) ≡ is_there xs
made_there make [] = refl
made_there make (x ∷ xs) = refl

column_said : (at : Option Clustering) (c : RowColumn) → is_there (of_column at c) ≡ column_there c
column_said at c =
    either_there (atom_of (empties at c.column) c.deletion) (map (writes at c.column) c.cells)
    ∙ (λ i. atom_there (empties at c.column) c.deletion i || made_there (writes at c.column) c.cells i)

module _ (before limit : ℤ) where
  -- the columns of which something stays, as a walk over them leaves them
  pub columns_left : (at : Option Clustering) (cs : List RowColumn)
      → retain_mut (λ c. column_there (purged_column before limit c)) (purged_column before limit) cs ≡ purged_columns before limit at cs
  columns_left at [] = refl
  columns_left at (c ∷ cs) =
      let d : RowColumn = purged_column before limit c in
      (λ i. cond (column_there d) (d ∷ columns_left at cs i) (columns_left at cs i))
      ∙ sym (ap (λ o. cons_option o (purged_columns before limit at cs)) (if_there (of_column at d) d ∙ ap (λ b. cond b (Some d) None) (column_said at d))
      ∙ by_test (column_there d) d (purged_columns before limit at cs))
    where
      by_test : (b : Bool) (d : RowColumn) (rest : List RowColumn) → cons_option (cond b (Some d) None) rest ≡ cond b (d ∷ rest) rest
      by_test true d rest = refl
      by_test false d rest = refl

  columns_said : (at : Option Clustering) (cs : List RowColumn) → is_there (flat_map (of_column at) (purged_columns before limit at cs)) ≡ is_there (purged_columns before limit at cs)
  columns_said at [] = refl
  columns_said at (c ∷ cs) = by_atoms (of_column at (purged_column before limit c)) refl (columns_said at cs)
    where
      by_atoms : (atoms : List Atom) → of_column at (purged_column before limit c) ≡ atoms
          → is_there (flat_map (of_column at) (purged_columns before limit at cs)) ≡ is_there (purged_columns before limit at cs)
          → is_there (flat_map (of_column at) (cons_option (if_said atoms (purged_column before limit c)) (purged_columns before limit at cs)))
          ≡ is_there (cons_option (if_said atoms (purged_column before limit c)) (purged_columns before limit at cs))
      by_atoms [] e later = later
      by_atoms (x ∷ atoms) e later = ap (λ l. is_there (l ++ flat_map (of_column at) (purged_columns before limit at cs))) e

  pub static_left : (cs : List RowColumn) (b : Bool) → is_there (purged_columns before limit None cs) ≡ b
      → left_of before limit false (fragment.Static cs) ≡ cond b (Some (fragment.Static (purged_columns before limit None cs))) None
  static_left cs b e =
      let f : Fragment = fragment.Static (purged_columns before limit None cs) in
      if_there (own f) f ∙ ap (λ t. cond t (Some f) None) (columns_said None cs ∙ e)

  pub row_left : (r : Row) (b : Bool) → row_there (purged_row before limit r) ≡ b
      → left_of before limit false (fragment.Row r) ≡ cond b (Some (fragment.Row (purged_row before limit r))) None
  row_left r b e =
      let f : Fragment = fragment.Row (purged_row before limit r) in
      let at : Option Clustering = Some r.clustering in
      let d : List Atom = atom_of (RowDeletion r.clustering) (unless (deletion_goes before limit) r.deletion) in
      let l : List Atom = atom_of (Live r.clustering) (unless (live_goes before limit) r.live) in
      let cs : List Atom = flat_map (of_column at) (purged_columns before limit at r.columns) in
      if_there (own f) f
      ∙ ap (λ t. cond t (Some f) None)
      (either_there d (l ++ cs)
      ∙ (λ i. atom_there (RowDeletion r.clustering) (unless (deletion_goes before limit) r.deletion) i || (either_there l cs
      ∙ (λ j. atom_there (Live r.clustering) (unless (live_goes before limit) r.live) j || columns_said at r.columns j)) i)
      ∙ e)

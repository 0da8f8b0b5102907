-- The merge says what all streams say.
use Rattle.std.proofs.Common.{◌≡◌, Option, None, Some, List, [], ◌∷◌, ◌++◌, fold, inl, inr, refl, sym, ◌∙◌, append_assoc, subst}
use Rattle.std.specs.List.{AllByRecursion}
use Rattle.std.specs.List.Sorted.{IsStrictlySortedBy}
use Rattle.cas_cell.specs.Deletions.{deletion_cmp}
use Rattle.cas_cell.specs.declared.deletion.Deletion.{Deletion}
use Rattle.cas_cell.specs.Lives.{live_cmp}
use Rattle.cas_cell.specs.Cells.{cell_cmp}
use Rattle.cas_cell.proofs.OrderLaws.{deletion_laws, live_laws, cell_laws}
use Rattle.cas_bounds.specs.declared.order.Ordered.{Ordered}
use Rattle.cas_atoms.specs.Greatest.{greatest}
use Rattle.cas_atoms.specs.Coordinates.{RowKey, clustered, static_row, live_at_row, cell_at_path}
use Rattle.cas_atoms.specs.Winners.{cover, Same}
use Rattle.cas_atoms.specs.declared.atom.Atom.{Atom}
use Rattle.cas_atoms.proofs.GreatestLemmas.{greater_comm, greatest-append}
use Rattle.cas_laws.specs.Given.{Gives}
use Rattle.cas_laws.proofs.GreatestProofs.{no_none, either_greater}
use Rattle.cas_laws.proofs.JoinProofs.{cover_joins}
use Rattle.cas_streams.specs.Flat.{in_force}
use Rattle.cas_streams.specs.Streams.{IsOrdered}
use Rattle.cas_streams.specs.Joined.{Stream}
use Rattle.cas_streams.specs.Merged.{Draw, nobody, one, pair, entered, draw, joined_all, merged, flat_of, flats}
use Rattle.cas_streams.specs.Laws.{MergeIsJoin}
use Rattle.cas_streams.proofs.Joining.{Alike, alike_then, alike_both, alike_same, joined_ordered, force_joins, joined_alike}
use Rattle.cas_streams.proofs.Settling.{settled_ordered, settled_force, settled_same}

alike_itself : (A : List Atom) → Alike A A
alike_itself A = record { covers = λ x. refl; lives = λ c. refl; cells = λ x. refl }

equal_alike : (A B : List Atom) → A ≡ B → Alike A B
equal_alike A B e = subst (Alike A) e (alike_itself A)

alike_swapped : (A B : List Atom) → Alike (A ++ B) (B ++ A)
alike_swapped A B = record {
  covers = λ x. cover_joins A B x ∙ greater_comm deletion_laws.orders (cover A x) (cover B x) ∙ sym (cover_joins B A x);
  lives = λ c. greatest-append live_laws.orders (live_at_row c) A B ∙ greater_comm live_laws.orders (greatest live_cmp (live_at_row c) A) (greatest live_cmp (live_at_row c) B) ∙ sym (greatest-append live_laws.orders (live_at_row c) B A);
  cells = λ x. greatest-append cell_laws.orders (cell_at_path x) A B ∙ greater_comm cell_laws.orders (greatest cell_cmp (cell_at_path x) A) (greatest cell_cmp (cell_at_path x) B) ∙ sym (greatest-append cell_laws.orders (cell_at_path x) B A);
}

-- all streams of a draw
pub of_draw : Draw → List Atom
of_draw nobody = []
of_draw (one s) = flat_of s
of_draw (pair l r) = of_draw l ++ of_draw r

-- a fact of each stream of a draw
abbrev pub Each : (Stream → Type 0) → Draw → Type 0
Each P nobody = Unit {0}
Each P (one s) = P s
Each P (pair l r) = Each P l × Each P r

pub each_entered : (P : Stream → Type 0) (d : Draw) (s : Stream) → Each P d → P s → Each P (entered d s)
each_entered P nobody s a p = p
each_entered P (one t) s a p = (a, p)
each_entered P (pair l r) s a p = (each_entered P r s a.1 p, a.0)

pub each_drawn : (P : Stream → Type 0) (d : Draw) (ss : List Stream) → Each P d → AllByRecursion P ss → Each P (fold entered d ss)
each_drawn P d [] a all = a
each_drawn P d (s ∷ ss) a all = each_drawn P (entered d s) ss (each_entered P d s a all.0) all.1

entered_alike : (d : Draw) (s : Stream) → Alike (of_draw (entered d s)) (of_draw d ++ flat_of s)
unfolding of_draw
entered_alike nobody s = alike_itself (flat_of s)
entered_alike (one t) s = alike_itself (flat_of t ++ flat_of s)
entered_alike (pair l r) s =
    alike_then (alike_both (entered_alike r s) (alike_itself (of_draw l)))
    (alike_then (alike_swapped (of_draw r ++ flat_of s) (of_draw l)) (equal_alike (of_draw l ++ (of_draw r ++ flat_of s)) ((of_draw l ++ of_draw r) ++ flat_of s) (sym (append_assoc (of_draw l) (of_draw r) (flat_of s)))))

drawn_alike : (d : Draw) (ss : List Stream) → Alike (of_draw (fold entered d ss)) (of_draw d ++ flats ss)
drawn_alike d [] = nothing (of_draw d)
  where
    nothing : (A : List Atom) → Alike A (A ++ [])
    nothing A = alike_swapped [] A
drawn_alike d (s ∷ ss) =
    alike_then (drawn_alike (entered d s) ss)
    (alike_then (alike_both (entered_alike d s) (alike_itself (flats ss))) (equal_alike ((of_draw d ++ flat_of s) ++ flats ss) (of_draw d ++ (flat_of s ++ flats ss)) (append_assoc (of_draw d) (flat_of s) (flats ss))))

-- ---- joined

module _ (order : List Ordered) where
  abbrev Drawn : Draw → Type 0
  Drawn d = Each (λ s. IsOrdered order s.fragments) d

  pub all_ordered : (d : Draw) → Drawn d → IsOrdered order (joined_all d).fragments
  unfolding IsStrictlySortedBy
  all_ordered nobody a = record { places = tt; of = tt; closed = refl }
  all_ordered (one s) a = a
  all_ordered (pair l r) a = joined_ordered (joined_all l) (joined_all r) (all_ordered l a.0) (all_ordered r a.1)

  all_alike : (d : Draw) → Drawn d → Alike (flat_of (joined_all d)) (of_draw d)
  unfolding of_draw
  all_alike nobody a = alike_itself []
  all_alike (one s) a = alike_itself (flat_of s)
  all_alike (pair l r) a =
      alike_then (joined_alike (joined_all l) (joined_all r) (all_ordered l a.0) (all_ordered r a.1)) (alike_both (all_alike l a.0) (all_alike r a.1))

pub all_drawn : (P : Stream → Type 0) (ss : List Stream) → AllByRecursion P ss → Each P (draw ss)
all_drawn P ss all = each_drawn P nobody ss tt all

same_then : {A B C : List Atom} → Same A B → Same B C → Same A C
same_then a b = record { covers = λ x. a.covers x ∙ b.covers x; lives = λ c. a.lives c ∙ b.lives c; cells = λ x. a.cells x ∙ b.cells x }

pub merge_is_join : MergeIsJoin
unfolding of_draw
merge_is_join order ss all =
    let drawn : Each (λ s. IsOrdered order s.fragments) (draw ss) = all_drawn (λ s. IsOrdered order s.fragments) ss all in
    same_then (settled_same (joined_all (draw ss)) (all_ordered order (draw ss) drawn)) (alike_same (alike_then (all_alike order (draw ss) drawn) (drawn_alike nobody ss)))

pub merge_ordered : (order : List Ordered) (ss : List Stream) → AllByRecursion (λ s. IsOrdered order s.fragments) ss → IsOrdered order (merged ss).fragments
merge_ordered order ss all = settled_ordered (joined_all (draw ss)) (all_ordered order (draw ss) (all_drawn (λ s. IsOrdered order s.fragments) ss all))

-- ---- what is in force in a merge is so in one of its streams

module _ (order : List Ordered) (r : RowKey) (F : Deletion → Type 0) where
  abbrev In : Stream → Type 0
  In s = (d : Deletion) → in_force s.fragments r ≡ Some d → F d

  drawn_in : (d : Draw) → Drawn order d → Each In d → In (joined_all d)
  drawn_in nobody o a d e = no_none d (sym (no_force r) ∙ e)
    where
      no_force : (r : RowKey) → in_force [] r ≡ None
      no_force static_row = refl
      no_force (clustered c) = refl
  drawn_in (one s) o a d e = a d e
  drawn_in (pair l k) o a d e =
      let left : Option Deletion = in_force (joined_all l).fragments r in
      let right : Option Deletion = in_force (joined_all k).fragments r in
      elim (either_greater deletion_cmp left right d (sym (force_joins (joined_all l) (joined_all k) (all_ordered order l o.0) (all_ordered order k o.1) r) ∙ e)) [
        | inl first ↦ drawn_in l o.0 a.0 d first
        | inr last ↦ drawn_in k o.1 a.1 d last
      ]

each_in : (r : RowKey) (F : Deletion → Type 0) (ss : List Stream) → ((d : Deletion) → Gives (λ s. in_force s.fragments r) ss d → F d)
    → AllByRecursion (λ s. (d : Deletion) → in_force s.fragments r ≡ Some d → F d) ss
each_in r F [] h = tt
each_in r F (s ∷ ss) h = (λ d e. h d (inl e), each_in r F ss (λ d g. h d (inr g)))

pub merge_forces : (order : List Ordered) (ss : List Stream) → AllByRecursion (λ s. IsOrdered order s.fragments) ss → (r : RowKey) (d : Deletion)
    → in_force (merged ss).fragments r ≡ Some d → Gives (λ s. in_force s.fragments r) ss d
merge_forces order ss all r d e =
    let F : Deletion → Type 0 = Gives (λ s. in_force s.fragments r) ss in
    let drawn : Each (λ s. IsOrdered order s.fragments) (draw ss) = all_drawn (λ s. IsOrdered order s.fragments) ss all in
    drawn_in order r F (draw ss) drawn (all_drawn (In order r F) ss (each_in r F ss (λ d g. g))) d
    (sym (settled_force (joined_all (draw ss)) (all_ordered order (draw ss) drawn) r) ∙ e)

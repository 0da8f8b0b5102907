-- A stream at whose end nothing is in force has the facts of what its fragments tell.
use Rattle.std.proofs.Common.{◌≡◌, ℤ, Option, None, Some, List, [], ◌∷◌, ◌++◌, map, ◌⊎◌, inl, inr, refl, sym, ap, ◌∙◌, subst}
use Rattle.std.specs.Prelude.{◌↔◌}
use Rattle.std.specs.List.{flat_map}
use Rattle.std.proofs.lemmas.List.{map-append}
use Rattle.cas_cell.specs.declared.deletion.Deletion.{Deletion}
use Rattle.cas_bounds.specs.declared.cuts.Cut.{Cut}
use Rattle.cas_atoms.specs.Coordinates.{atom_at}
use Rattle.cas_atoms.specs.declared.atom.Atom.{Atom}
use Rattle.cas_atoms.specs.declared.atom.Atom.TheVariants.{RangeDeletion}
use Rattle.cas_laws.specs.Given.{Has}
use Rattle.cas_streams.specs.Flat.{atom_of, own, Change, changes, between, ranges_after, ranges, at_end, flat}
use Rattle.cas_streams.specs.declared.fragment.Fragment.{Fragment}
use Rattle.cas_streams.specs.declared.fragment.Fragment.TheVariants as fragment
use Rattle.cas_streams.proofs.Single.{has_either}
use Rattle.cas_purge.specs.Droppable.{atom_end}
use Rattle.cas_facts.specs.declared.facts.Facts.{Facts}
use Rattle.cas_facts.specs.Facts.{IsLastEnd, AreFactsSoFar}
use Rattle.cas_facts.specs.Told.{top_told, told, all_told}
use Rattle.cas_facts.specs.Laws.{StreamsTellTheirFacts}
use Rattle.cas_facts.proofs.Joining.{has_left, has_right}

-- the deletion that a change puts in force, for wherever it ends
abbrev lasting : Change → List Atom
lasting m = atom_of (RangeDeletion m.at m.at) m.to

module _ {K : Type 0} (g : Atom → K) where
  -- what an atom of the list has
  abbrev Shows : List Atom → K → Type 0
  Shows A k = Has (map g A) k

  shows_either : (A B : List Atom) (k : K) → Shows (A ++ B) k → Shows A k ⊎ Shows B k
  shows_either A B k h = has_either (map g A) (map g B) k (subst (λ l. Has l k) (map-append g A B) h)

  shows_left : (A B : List Atom) (k : K) → Shows A k → Shows (A ++ B) k
  shows_left A B k h = subst (λ l. Has l k) (sym (map-append g A B)) (has_left (map g A) (map g B) k h)

  shows_right : (A B : List Atom) (k : K) → Shows B k → Shows (A ++ B) k
  shows_right A B k h = subst (λ l. Has l k) (sym (map-append g A B)) (has_right (map g A) (map g B) k h)

  -- own atoms and deletions apart
  apart : (fs : List Fragment) (k : K) → Shows (flat_map told fs) k → Shows (flat_map lasting (changes fs)) k ⊎ Shows (flat_map own fs) k
  apart [] k none = absurd none
  apart (fragment.Static cs ∷ fs) k h =
      elim (shows_either (own (fragment.Static cs)) (flat_map told fs) k h) as (λ _. Shows (flat_map lasting (changes fs)) k ⊎ Shows (own (fragment.Static cs) ++ flat_map own fs) k) [
        | inl here ↦ inr (shows_left (own (fragment.Static cs)) (flat_map own fs) k here)
        | inr later ↦ elim (apart fs k later) as (λ _. Shows (flat_map lasting (changes fs)) k ⊎ Shows (own (fragment.Static cs) ++ flat_map own fs) k) [
          | inl range ↦ inl range
          | inr rest ↦ inr (shows_right (own (fragment.Static cs)) (flat_map own fs) k rest)
        ]
      ]
  apart (fragment.Row r ∷ fs) k h =
      elim (shows_either (own (fragment.Row r)) (flat_map told fs) k h) as (λ _. Shows (flat_map lasting (changes fs)) k ⊎ Shows (own (fragment.Row r) ++ flat_map own fs) k) [
        | inl here ↦ inr (shows_left (own (fragment.Row r)) (flat_map own fs) k here)
        | inr later ↦ elim (apart fs k later) as (λ _. Shows (flat_map lasting (changes fs)) k ⊎ Shows (own (fragment.Row r) ++ flat_map own fs) k) [
          | inl range ↦ inl range
          | inr rest ↦ inr (shows_right (own (fragment.Row r)) (flat_map own fs) k rest)
        ]
      ]
  apart (fragment.Marker cut d ∷ fs) k h =
      let m : Change = record { at = cut; to = d } in
      elim (shows_either (lasting m) (flat_map told fs) k h) as (λ _. Shows (lasting m ++ flat_map lasting (changes fs)) k ⊎ Shows (flat_map own fs) k) [
        | inl here ↦ inl (shows_left (lasting m) (flat_map lasting (changes fs)) k here)
        | inr later ↦ elim (apart fs k later) as (λ _. Shows (lasting m ++ flat_map lasting (changes fs)) k ⊎ Shows (flat_map own fs) k) [
          | inl range ↦ inl (shows_right (lasting m) (flat_map lasting (changes fs)) k range)
          | inr rest ↦ inr rest
        ]
      ]

  -- and together
  of_ranges : (fs : List Fragment) (k : K) → Shows (flat_map lasting (changes fs)) k → Shows (flat_map told fs) k
  of_ranges [] k none = absurd none
  of_ranges (fragment.Static cs ∷ fs) k h = shows_right (own (fragment.Static cs)) (flat_map told fs) k (of_ranges fs k h)
  of_ranges (fragment.Row r ∷ fs) k h = shows_right (own (fragment.Row r)) (flat_map told fs) k (of_ranges fs k h)
  of_ranges (fragment.Marker cut d ∷ fs) k h =
      let m : Change = record { at = cut; to = d } in
      elim (shows_either (lasting m) (flat_map lasting (changes fs)) k h) as (λ _. Shows (lasting m ++ flat_map told fs) k) [
        | inl here ↦ shows_left (lasting m) (flat_map told fs) k here
        | inr later ↦ shows_right (lasting m) (flat_map told fs) k (of_ranges fs k later)
      ]

  of_owns : (fs : List Fragment) (k : K) → Shows (flat_map own fs) k → Shows (flat_map told fs) k
  of_owns [] k none = absurd none
  of_owns (fragment.Static cs ∷ fs) k h =
      elim (shows_either (own (fragment.Static cs)) (flat_map own fs) k h) as (λ _. Shows (own (fragment.Static cs) ++ flat_map told fs) k) [
        | inl here ↦ shows_left (own (fragment.Static cs)) (flat_map told fs) k here
        | inr later ↦ shows_right (own (fragment.Static cs)) (flat_map told fs) k (of_owns fs k later)
      ]
  of_owns (fragment.Row r ∷ fs) k h =
      elim (shows_either (own (fragment.Row r)) (flat_map own fs) k h) as (λ _. Shows (own (fragment.Row r) ++ flat_map told fs) k) [
        | inl here ↦ shows_left (own (fragment.Row r)) (flat_map told fs) k here
        | inr later ↦ shows_right (own (fragment.Row r)) (flat_map told fs) k (of_owns fs k later)
      ]
  of_owns (fragment.Marker cut d ∷ fs) k h = shows_right (told (fragment.Marker cut d)) (flat_map told fs) k (of_owns fs k h)

  module _ (anywhere : (lo hi at : Cut) (d : Deletion) → g (RangeDeletion lo hi d) ≡ g (RangeDeletion at at d)) where
    moved_ends : (lo hi at : Cut) (d : Option Deletion) → map g (atom_of (RangeDeletion lo hi) d) ≡ map g (atom_of (RangeDeletion at at) d)
    moved_ends lo hi at None = refl
    moved_ends lo hi at (Some d) = ap (λ k. k ∷ []) (anywhere lo hi at d)

    ranges_last : (m : Change) (ms : List Change) → at_end m.to ms ≡ None → map g (ranges_after m ms) ≡ map g (flat_map lasting (m ∷ ms))
    ranges_last m [] e = sym (ap (λ d. map g (atom_of (RangeDeletion m.at m.at) d ++ [])) e)
    ranges_last m (n ∷ ms) e =
        map-append g (between m n) (ranges_after n ms) ∙ (λ i. moved_ends m.at n.at m.at m.to i ++ ranges_last n ms e i)
        ∙ sym (map-append g (lasting m) (flat_map lasting (n ∷ ms)))

    all_ranges_last : (ms : List Change) → at_end None ms ≡ None → map g (ranges ms) ≡ map g (flat_map lasting ms)
    all_ranges_last [] e = refl
    all_ranges_last (m ∷ ms) e = ranges_last m ms e

    -- what the fragments tell one by one, and the stream's atoms
    pub shows_flat : (A : List Atom) (top : Option Deletion) (fs : List Fragment) → at_end None (changes fs) ≡ None → (k : K)
        → Shows (A ++ all_told top fs) k → Shows (A ++ flat top fs) k
    shows_flat A top fs e k h =
        elim (shows_either A (all_told top fs) k h) as (λ _. Shows (A ++ flat top fs) k) [
          | inl before ↦ shows_left A (flat top fs) k before
          | inr behind ↦ shows_right A (flat top fs) k (elim (shows_either (top_told top) (flat_map told fs) k behind) as (λ _. Shows (flat top fs) k) [
            | inl of_top ↦ shows_left (top_told top) (ranges (changes fs) ++ flat_map own fs) k of_top
            | inr rest ↦ shows_right (top_told top) (ranges (changes fs) ++ flat_map own fs) k
                (elim (apart fs k rest) as (λ _. Shows (ranges (changes fs) ++ flat_map own fs) k) [
                  | inl range ↦ shows_left (ranges (changes fs)) (flat_map own fs) k (subst (λ l. Has l k) (sym (all_ranges_last (changes fs) e)) range)
                  | inr row ↦ shows_right (ranges (changes fs)) (flat_map own fs) k row
                ])
          ])
        ]

    pub shows_told : (A : List Atom) (top : Option Deletion) (fs : List Fragment) → at_end None (changes fs) ≡ None → (k : K)
        → Shows (A ++ flat top fs) k → Shows (A ++ all_told top fs) k
    shows_told A top fs e k h =
        elim (shows_either A (flat top fs) k h) as (λ _. Shows (A ++ all_told top fs) k) [
          | inl before ↦ shows_left A (all_told top fs) k before
          | inr behind ↦ shows_right A (all_told top fs) k
              (elim (shows_either (top_told top) (ranges (changes fs) ++ flat_map own fs) k behind) as (λ _. Shows (all_told top fs) k) [
                | inl of_top ↦ shows_left (top_told top) (flat_map told fs) k of_top
                | inr rest ↦ shows_right (top_told top) (flat_map told fs) k
                    (elim (shows_either (ranges (changes fs)) (flat_map own fs) k rest) as (λ _. Shows (flat_map told fs) k) [
                      | inl range ↦ of_ranges fs k (subst (λ l. Has l k) (all_ranges_last (changes fs) e) range)
                      | inr row ↦ of_owns fs k row
                    ])
              ])
        ]

-- ---- lists that show the same have the same facts

last_same : (xs ys : List (Option ℤ)) → ((k : Option ℤ) → Has xs k ↔ Has ys k) → (d : Option ℤ) → IsLastEnd xs d → IsLastEnd ys d
last_same xs ys same None h = (same None).0 h
last_same xs ys same (Some d) h = ((same (Some d)).0 h.0, λ end there. h.1 end ((same end).1 there))

none_same : (A B : List Atom) → ((k : ℤ) → Has (map atom_at A) k ↔ Has (map atom_at B) k) → A ≡ [] → B ≡ []
none_same A [] same e = refl
none_same A (b ∷ B) same e = absurd (subst (λ l. Has (map atom_at l) (atom_at b)) e ((same (atom_at b)).1 (inl refl)))

same_facts : (A B : List Atom) → ((k : ℤ) → Has (map atom_at A) k ↔ Has (map atom_at B) k) → ((k : Option ℤ) → Has (map atom_end A) k ↔ Has (map atom_end B) k)
    → (f : Option Facts) → AreFactsSoFar A f → AreFactsSoFar B f
same_facts A B times ends None h = none_same A B times h
same_facts A B times ends (Some f) h = record {
  least = record { one = (times f.least).0 h.least.one; below = λ n there. h.least.below n ((times n).1 there) };
  greatest = record { one = (times f.greatest).0 h.greatest.one; above = λ n there. h.greatest.above n ((times n).1 there) };
  dead = last_same (map atom_end A) (map atom_end B) ends f.dead h.dead;
}

pub streams_tell_their_facts : StreamsTellTheirFacts
streams_tell_their_facts A f top fs e =
    let told_list : List Atom = A ++ all_told top fs in
    let flat_list : List Atom = A ++ flat top fs in
    let times : (k : ℤ) → Has (map atom_at told_list) k ↔ Has (map atom_at flat_list) k =
    λ k. (shows_flat atom_at (λ lo hi at d. refl) A top fs e k, shows_told atom_at (λ lo hi at d. refl) A top fs e k) in
    let ends : (k : Option ℤ) → Has (map atom_end told_list) k ↔ Has (map atom_end flat_list) k =
    λ k. (shows_flat atom_end (λ lo hi at d. refl) A top fs e k, shows_told atom_end (λ lo hi at d. refl) A top fs e k) in
    (same_facts told_list flat_list times ends f, same_facts flat_list told_list (λ k. ((times k).1, (times k).0)) (λ k. ((ends k).1, (ends k).0)) f)

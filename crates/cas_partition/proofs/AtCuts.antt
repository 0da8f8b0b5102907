-- At which cuts changes are: in a partition once place is made, in a slice of it, and in a merge.
use Rattle.std.proofs.Common.{Bool, true, false, cond, not, ◌&&◌, Option, None, Some, List, [], ◌∷◌, ◌++◌, filter}
use Rattle.std.specs.List.{AllByRecursion, cons_option}
use Rattle.std.specs.Ordering.{is_lt}
use Rattle.cas_bounds.specs.Keys.{key_cmp}
use Rattle.cas_bounds.specs.declared.cuts.Cut.{Cut}
use Rattle.cas_bounds.specs.declared.cuts.Slice.{Slice}
use Rattle.cas_cell.specs.declared.deletion.Deletion.{Deletion}
use Rattle.cas_atoms.specs.declared.atom.Atom.{Atom}
use Rattle.cas_streams.specs.Flat.{Change, after, changes, own}
use Rattle.cas_streams.specs.Joined.{Stream, raised as raised_fragment, joined_fragment, by_place}
use Rattle.cas_streams.specs.Settled.{if_said, bare, same_force, settled_from}
use Rattle.cas_streams.specs.Merged.{Draw, nobody, one, pair, draw, joined_all, merged}
use Rattle.cas_streams.specs.declared.fragment.Fragment.{Fragment}
use Rattle.cas_streams.specs.declared.fragment.Fragment.TheVariants as fragment
use Rattle.cas_streams.proofs.Weaves.{woven_all}
use Rattle.cas_streams.proofs.Forces.{forces}
use Rattle.cas_streams.proofs.Merges.{Each, all_drawn}
use Rattle.cas_partition.specs.Ranges.{key_of, raised, has_cut, inserted, with_cut, is_above, is_below, change_at, clipped}

module _ (P : Cut → Type 0) where
  -- each change is at a cut of that kind
  abbrev pub At : List Change → Type 0
  At ms = AllByRecursion (λ m. P m.at) ms

  -- ---- in a partition

  inserted_at : (now : Option Deletion) (c : Cut) (ms : List Change) → P c → At ms → At (inserted now c ms)
  inserted_at now c [] p all = (p, tt)
  inserted_at now c (m ∷ ms) p all =
      elim (is_lt (key_cmp (key_of c) (key_of m.at))) as (λ b. At (cond b (record { at = c; to = now } ∷ m ∷ ms) (m ∷ inserted m.to c ms))) [
        | true ↦ (p, all)
        | false ↦ (all.0, inserted_at m.to c ms p all.1)
      ]

  pub with_cut_at : (c : Cut) (ms : List Change) → P c → At ms → At (with_cut c ms)
  with_cut_at c ms p all = elim (has_cut c ms) as (λ b. At (cond b ms (inserted None c ms))) [ true ↦ all | false ↦ inserted_at None c ms p all ]

  pub raised_at : (t : Cut → Bool) (d : Deletion) (ms : List Change) → At ms → At (raised t d ms)
  raised_at t d [] all = tt
  raised_at t d (m ∷ ms) all = (all.0, raised_at t d ms all.1)

  -- ---- in a slice

  both_at : (ms ns : List Change) → At ms → At ns → At (ms ++ ns)
  both_at [] ns a b = b
  both_at (m ∷ ms) ns a b = (a.0, both_at ms ns a.1 b)

  some_at : (t : Change → Bool) (ms : List Change) → At ms → At (filter t ms)
  some_at t [] all = tt
  some_at t (m ∷ ms) all = elim (t m) as (λ b. At (cond b (m ∷ filter t ms) (filter t ms))) [ true ↦ (all.0, some_at t ms all.1) | false ↦ some_at t ms all.1 ]

  one_at : (c : Cut) (d to : Option Deletion) → P c → At (change_at c d to)
  one_at c None to p = tt
  one_at c (Some d) to p = (p, tt)

  chosen_at : (b : Bool) (ms : List Change) → At ms → At (cond b ms [])
  chosen_at true ms all = all
  chosen_at false ms all = tt

  pub clipped_at : (s : Slice) (ms : List Change) → P s.lo → P s.hi → At ms → At (clipped s ms)
  clipped_at s ms low high all =
      let begun : Option Deletion = after (λ c. not (is_above s.lo c)) None ms in
      let ended : Option Deletion = after (is_below s.hi) None ms in
      let inside : List Change = filter (λ m. is_above s.lo m.at && is_below s.hi m.at) ms in
      chosen_at (is_above s.lo s.hi) (change_at s.lo begun begun ++ (inside ++ change_at s.hi ended None))
      (both_at (change_at s.lo begun begun) (inside ++ change_at s.hi ended None) (one_at s.lo begun begun low)
      (both_at inside (change_at s.hi ended None) (some_at (λ m. is_above s.lo m.at && is_below s.hi m.at) ms all) (one_at s.hi ended None high)))

  -- ---- in a merge

  -- a marker is at such a cut
  abbrev Marked : Fragment → Type 0
  Marked (fragment.Static columns) = Unit {0}
  Marked (fragment.Row r) = Unit {0}
  Marked (fragment.Marker cut d) = P cut

  marked_at : (fs : List Fragment) → AllByRecursion Marked fs → At (changes fs)
  marked_at [] all = tt
  marked_at (fragment.Static columns ∷ fs) all = marked_at fs all.1
  marked_at (fragment.Row r ∷ fs) all = marked_at fs all.1
  marked_at (fragment.Marker cut d ∷ fs) all = (all.0, marked_at fs all.1)

  at_marked : (fs : List Fragment) → At (changes fs) → AllByRecursion Marked fs
  at_marked [] all = tt
  at_marked (fragment.Static columns ∷ fs) all = (tt, at_marked fs all)
  at_marked (fragment.Row r ∷ fs) all = (tt, at_marked fs all)
  at_marked (fragment.Marker cut d ∷ fs) all = (all.0, at_marked fs all.1)

  raised_marked : (other : Option Deletion) (f : Fragment) → Marked f → Marked (raised_fragment other f)
  raised_marked other (fragment.Static columns) h = tt
  raised_marked other (fragment.Row r) h = tt
  raised_marked other (fragment.Marker cut d) h = h

  joined_marked : (f g : Fragment) → Marked f → Marked (joined_fragment f g)
  joined_marked (fragment.Static cs) (fragment.Static ds) h = tt
  joined_marked (fragment.Static cs) (fragment.Row s) h = tt
  joined_marked (fragment.Static cs) (fragment.Marker other e) h = tt
  joined_marked (fragment.Row r) (fragment.Static ds) h = tt
  joined_marked (fragment.Row r) (fragment.Row s) h = tt
  joined_marked (fragment.Row r) (fragment.Marker other e) h = tt
  joined_marked (fragment.Marker cut d) (fragment.Static ds) h = h
  joined_marked (fragment.Marker cut d) (fragment.Row s) h = h
  joined_marked (fragment.Marker cut d) (fragment.Marker other e) h = h

  all_marked : (d : Draw) → Each (λ s. AllByRecursion Marked s.fragments) d → AllByRecursion Marked (joined_all d).fragments
  all_marked nobody a = tt
  all_marked (one s) a = a
  all_marked (pair l r) a =
      woven_all by_place Marked (λ s f h. raised_marked s.right f h) (λ s g h. raised_marked s.left g h) (λ s f g e h k. joined_marked f g h) (forces None None)
      (joined_all l).fragments (joined_all r).fragments (all_marked l a.0) (all_marked r a.1)

  if_there : (atoms : List Atom) (f : Fragment) (rest : List Fragment) → Marked f → AllByRecursion Marked rest → AllByRecursion Marked (cons_option (if_said atoms f) rest)
  if_there [] f rest h all = all
  if_there (a ∷ atoms) f rest h all = (h, all)

  if_changed : (b : Bool) (cut : Cut) (d : Option Deletion) (rest : List Fragment) → P cut → AllByRecursion Marked rest
      → AllByRecursion Marked (cons_option (cond b None (Some (fragment.Marker cut d))) rest)
  if_changed true cut d rest p all = all
  if_changed false cut d rest p all = (p, all)

  settled_marked : (top now : Option Deletion) (fs : List Fragment) → AllByRecursion Marked fs → AllByRecursion Marked (settled_from top now fs)
  settled_marked top now [] all = tt
  settled_marked top now (fragment.Static cs ∷ fs) all =
      let left : Fragment = bare top now (fragment.Static cs) in if_there (own left) left (settled_from top now fs) tt (settled_marked top now fs all.1)
  settled_marked top now (fragment.Row r ∷ fs) all =
      let left : Fragment = bare top now (fragment.Row r) in if_there (own left) left (settled_from top now fs) tt (settled_marked top now fs all.1)
  settled_marked top now (fragment.Marker cut d ∷ fs) all = if_changed (same_force now d) cut d (settled_from top d fs) all.0 (settled_marked top d fs all.1)

  each_marked : (ss : List Stream) → AllByRecursion (λ s. At (changes s.fragments)) ss → AllByRecursion (λ s. AllByRecursion Marked s.fragments) ss
  each_marked [] all = tt
  each_marked (s ∷ ss) all = (at_marked s.fragments all.0, each_marked ss all.1)

  pub merge_at : (ss : List Stream) → AllByRecursion (λ s. At (changes s.fragments)) ss → At (changes (merged ss).fragments)
  merge_at ss all =
      let j : Stream = joined_all (draw ss) in
      marked_at (merged ss).fragments
      (settled_marked j.top None j.fragments (all_marked (draw ss) (all_drawn (λ s. AllByRecursion Marked s.fragments) ss (each_marked ss all))))

-- A stream that is cut to a slice says no more than the whole.
use Rattle.std.proofs.Common.{Bool, true, false, Option, None, Some, List, [], ◌∷◌, ◌++◌, cond, filter}
use Rattle.std.specs.List.{AllByRecursion}
use Rattle.std.specs.Prelude.{not}
use Rattle.cas_cell.specs.declared.deletion.Deletion.{Deletion}
use Rattle.cas_bounds.specs.declared.cuts.Cut.{Cut}
use Rattle.cas_bounds.specs.declared.cuts.Slice.{Slice}
use Rattle.cas_bounds.specs.declared.order.Ordered.{Ordered}
use Rattle.cas_atoms.specs.declared.atom.Atom.{Atom}
use Rattle.cas_streams.specs.Flat.{Change, after, changes, flat}
use Rattle.cas_streams.specs.NoMore.{SaysNoMore}
use Rattle.cas_streams.specs.Slices.{between_cuts, closed_at, cut_to, force_before, force_behind, is_static, lies_in, opened_at, stands_before}
use Rattle.cas_streams.specs.Streams.{IsOrdered}
use Rattle.cas_streams.specs.declared.fragment.Fragment.{Fragment}
use Rattle.cas_streams.specs.declared.fragment.Fragment.TheVariants as fragment
use Rattle.cas_streams.proofs.NoMore.{ByPlace, Force, Holds, Says, all_holds, holds_all, says_no_more}
use Rattle.cas_streams.proofs.Weaves.{all_and, all_filter}

module _ (Q : Atom → Type 0) (q : ByPlace Q) where
  forces : (fs : List Fragment) → AllByRecursion (Says Q q) fs → AllByRecursion (λ m. Force Q q m.to) (changes fs)
  forces [] a = tt
  forces (fragment.Static cs ∷ fs) a = forces fs a.1
  forces (fragment.Row r ∷ fs) a = forces fs a.1
  forces (fragment.Marker k d ∷ fs) a = (a.0, forces fs a.1)

  after_force : (passes : Cut → Bool) (now : Option Deletion) → Force Q q now → (ms : List Change) → AllByRecursion (λ m. Force Q q m.to) ms
      → Force Q q (after passes now ms)
  after_force passes now f [] a = f
  after_force passes now f (m ∷ ms) a =
      after_force passes (cond (passes m.at) m.to now) (elim (passes m.at) as (λ b. Force Q q (cond b m.to now)) [ true ↦ a.0 | false ↦ f ]) ms a.1

  opened : (cut : Cut) (d : Option Deletion) → Force Q q d → AllByRecursion (Says Q q) (opened_at cut d)
  opened cut None f = tt
  opened cut (Some d) f = (f, tt)

  closed : (cut : Cut) (d : Option Deletion) → AllByRecursion (Says Q q) (closed_at cut d)
  closed cut None = tt
  closed cut (Some d) = (λ lo hi. tt, tt)

  between : (s : Slice) (fs : List Fragment) → AllByRecursion (Says Q q) fs → AllByRecursion (Says Q q) (between_cuts s fs)
  between s fs a =
      let start : Option Deletion = force_behind s.lo fs in
      let stop : Option Deletion = force_before s.hi fs in
      all_and (Says Q q) (opened_at s.lo start) (filter (lies_in s) fs ++ closed_at s.hi stop)
      (opened s.lo start (after_force (λ k. not (stands_before s.lo k)) None (λ lo hi. tt) (changes fs) (forces fs a)))
      (all_and (Says Q q) (filter (lies_in s) fs) (closed_at s.hi stop) (all_filter (Says Q q) (lies_in s) fs a) (closed s.hi stop))

  cut_says : (s : Slice) (fs : List Fragment) → AllByRecursion (Says Q q) fs → AllByRecursion (Says Q q) (cut_to s fs)
  cut_says s fs a =
      all_and (Says Q q) (filter is_static fs) (cond (stands_before s.lo s.hi) (between_cuts s fs) []) (all_filter (Says Q q) is_static fs a)
      (elim (stands_before s.lo s.hi) as (λ b. AllByRecursion (Says Q q) (cond b (between_cuts s fs) [])) [ true ↦ between s fs a | false ↦ tt ])

  cut_all : (order : List Ordered) (s : Slice) (top : Option Deletion) (fs : List Fragment) → IsOrdered order fs → AllByRecursion Q (flat top fs)
      → AllByRecursion Q (flat top (cut_to s fs))
  cut_all order s top fs ordered a =
      let holds : Holds Q q (record { top = top; fragments = fs }) = all_holds Q q order (record { top = top; fragments = fs }) ordered a in
      holds_all Q q (record { top = top; fragments = cut_to s fs }) (holds.0, cut_says s fs holds.1)

pub cut_no_more : (order : List Ordered) (s : Slice) (top : Option Deletion) (fs : List Fragment) → IsOrdered order fs
    → SaysNoMore (flat top (cut_to s fs)) (flat top fs)
cut_no_more order s top fs ordered = says_no_more (flat top (cut_to s fs)) (flat top fs) (λ Q q. cut_all Q q order s top fs ordered)

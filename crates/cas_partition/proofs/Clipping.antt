-- The changes in a slice, as markers, are those of the whole cut to the slice.
use Rattle.std.proofs.Common.{◌≡◌, Bool, true, false, cond, not, ◌&&◌, Option, None, Some, List, [], ◌∷◌, ◌++◌, map, filter, refl, sym, ap, ◌∙◌, append_assoc}
use Rattle.std.specs.List.{AllByRecursion}
use Rattle.std.specs.Ordering.{is_le, is_lt, ordering_reverse}
use Rattle.std.specs.declared.cmp.Ordering.{Ordering}
use Rattle.std.specs.declared.cmp.Ordering.TheVariants.{Less, Equal, Greater}
use Rattle.cas_cell.specs.declared.deletion.Deletion.{Deletion}
use Rattle.cas_bounds.specs.Points.{point_cmp, cut_point, side}
use Rattle.cas_bounds.specs.Inner.KeyLaws.{keys_are_points}
use Rattle.cas_bounds.specs.declared.order.Ordered.{Ordered}
use Rattle.cas_bounds.specs.declared.cuts.Cut.{Cut}
use Rattle.cas_bounds.specs.declared.cuts.Slice.{Slice}
use Rattle.cas_bounds.proofs.CutLaws.{point_laws}
use Rattle.cas_streams.specs.Flat.{Change, changes, after}
use Rattle.cas_streams.specs.Slices.{stands_before, is_static, lies_in, force_behind, force_before, opened_at, closed_at, between_cuts, cut_to}
use Rattle.cas_streams.specs.declared.fragment.Fragment.{Fragment}
use Rattle.cas_streams.proofs.InOrder.{Rise}
use Rattle.cas_streams.proofs.Cutting.{after_alike}
use Rattle.cas_partition.specs.Ranges.{key_of, is_above, is_below, change_at, clipped}
use Rattle.cas_partition.specs.Partitions.{marker}
use Rattle.cas_partition.specs.Inner.Slots.{cut_of, is_after}
use Rattle.cas_partition.proofs.Taking.{marked}

marks_append : (ms ns : List Change) → map marker (ms ++ ns) ≡ map marker ms ++ map marker ns
marks_append [] ns = refl
marks_append (m ∷ ms) ns = ap (λ l. marker m ∷ l) (marks_append ms ns)

no_static : (ms : List Change) → filter is_static (map marker ms) ≡ []
no_static [] = refl
no_static (m ∷ ms) = no_static ms

opens : (c : Cut) (d : Option Deletion) → map marker (change_at c d d) ≡ opened_at c d
opens c None = refl
opens c (Some d) = refl

ends : (c : Cut) (d : Option Deletion) → map marker (change_at c d None) ≡ closed_at c d
ends c None = refl
ends c (Some d) = refl

turned : (r : Ordering) → not (is_le r) ≡ is_lt (ordering_reverse r)
turned Less = refl
turned Equal = refl
turned Greater = refl

module _ (order : List Ordered) where
  pub above_is : (k c : Cut) → k.order ≡ order → c.order ≡ order → is_above k c ≡ stands_before k c
  above_is k c e f = ap is_lt (keys_are_points (key_of k) (key_of c) (e ∙ sym f) ∙ sym (point_laws.cuts k c))

  pub below_is : (k c : Cut) → k.order ≡ order → c.order ≡ order → is_below k c ≡ stands_before c k
  below_is k c e f =
      ap (λ r. not (is_le r)) (keys_are_points (key_of k) (key_of c) (e ∙ sym f) ∙ ap (λ o. point_cmp o (cut_point k) (cut_point c)) e)
      ∙ turned (point_cmp order (cut_point k) (cut_point c))
      ∙ ap is_lt (sym ((point_laws.orders order).total.antisymm (cut_point c) (cut_point k)))
      ∙ ap is_lt (sym (point_laws.cuts c k ∙ ap (λ o. point_cmp o (cut_point c) (cut_point k)) f))

  alike_tests : (t u : Cut → Bool) → ((c : Cut) → c.order ≡ order → t c ≡ u c) → (ms : List Change) → Rise order ms → AllByRecursion (λ m. t m.at ≡ u m.at) ms
  alike_tests t u h [] rise = tt
  alike_tests t u h (m ∷ ms) rise = (h m.at rise.0, alike_tests t u h ms rise.2)

  forces_alike : (t u : Cut → Bool) → ((c : Cut) → c.order ≡ order → t c ≡ u c) → (ms : List Change) → Rise order ms → after t None ms ≡ after u None (changes (map marker ms))
  forces_alike t u h ms rise = after_alike t u None ms (alike_tests t u h ms rise) ∙ ap (after u None) (sym (marked ms))

  module _ (s : Slice) (low : s.lo.order ≡ order) (high : s.hi.order ≡ order) where
    amid : (ms : List Change) → Rise order ms → map marker (filter (λ m. is_above s.lo m.at && is_below s.hi m.at) ms) ≡ filter (lies_in s) (map marker ms)
    amid [] rise = refl
    amid (m ∷ ms) rise =
        ap (λ b. map marker (cond b (m ∷ filter (λ m. is_above s.lo m.at && is_below s.hi m.at) ms) (filter (λ m. is_above s.lo m.at && is_below s.hi m.at) ms)))
        (λ i. above_is s.lo m.at low rise.0 i && below_is s.hi m.at high rise.0 i)
        ∙ elim (stands_before s.lo m.at && stands_before m.at s.hi) as (λ b.
        map marker (cond b (m ∷ filter (λ m. is_above s.lo m.at && is_below s.hi m.at) ms) (filter (λ m. is_above s.lo m.at && is_below s.hi m.at) ms))
        ≡ cond b (marker m ∷ filter (lies_in s) (map marker ms)) (filter (lies_in s) (map marker ms))) [
          | true ↦ ap (λ l. marker m ∷ l) (amid ms rise.2)
          | false ↦ amid ms rise.2
        ]

    pub clipped_is_cut : (ms : List Change) → Rise order ms → map marker (clipped s ms) ≡ cut_to s (map marker ms)
    clipped_is_cut ms rise =
        (λ i. map marker (cond (above_is s.lo s.hi low high i) whole []))
        ∙ either (stands_before s.lo s.hi)
        ∙ ap (λ l. l ++ cond (stands_before s.lo s.hi) (between_cuts s (map marker ms)) []) (sym (no_static ms))
      where
        begun : Option Deletion
        begun = after (λ c. not (is_above s.lo c)) None ms

        ended : Option Deletion
        ended = after (is_below s.hi) None ms

        inside : List Change
        inside = filter (λ m. is_above s.lo m.at && is_below s.hi m.at) ms

        whole : List Change
        whole = change_at s.lo begun begun ++ (inside ++ change_at s.hi ended None)

        begins : begun ≡ force_behind s.lo (map marker ms)
        begins = forces_alike (λ c. not (is_above s.lo c)) (λ c. not (stands_before s.lo c)) (λ c e. ap not (above_is s.lo c low e)) ms rise

        stops : ended ≡ force_before s.hi (map marker ms)
        stops = forces_alike (is_below s.hi) (λ c. stands_before c s.hi) (λ c e. below_is s.hi c high e) ms rise

        marks : map marker whole ≡ between_cuts s (map marker ms)
        marks =
            marks_append (change_at s.lo begun begun) (inside ++ change_at s.hi ended None)
            ∙ ap (λ l. map marker (change_at s.lo begun begun) ++ l) (marks_append inside (change_at s.hi ended None))
            ∙ (λ i. opens s.lo begun i ++ (amid ms rise i ++ ends s.hi ended i))
            ∙ (λ i. opened_at s.lo (begins i) ++ (filter (lies_in s) (map marker ms) ++ closed_at s.hi (stops i)))

        either : (b : Bool) → map marker (cond b whole []) ≡ cond b (between_cuts s (map marker ms)) []
        either true = marks
        either false = refl

-- markers that are put one after another
pub marks_in_turn : (none first then all : List Fragment) (A B C : List Change) → none ≡ [] → first ≡ none ++ map marker A → then ≡ first ++ map marker B → all ≡ then ++ map marker C
    → all ≡ map marker (A ++ (B ++ C))
marks_in_turn none first then all A B C e a b c =
    c ∙ ap (λ l. l ++ map marker C) (b ∙ ap (λ l. l ++ map marker B) (a ∙ ap (λ l. l ++ map marker A) e))
    ∙ append_assoc (map marker A) (map marker B) (map marker C)
    ∙ sym (marks_append A (B ++ C) ∙ ap (λ l. map marker A ++ l) (marks_append B C))

-- the cut of a cut's key
pub cut_again : (c : Cut) → cut_of (key_of c) ≡ c
cut_again c = λ i. record { prefix = c.prefix; after = again c.after i; order = c.order }
  where
    again : (b : Bool) → is_after (side b) ≡ b
    again true = refl
    again false = refl

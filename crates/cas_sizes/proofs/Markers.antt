-- Markers stand at ends of range deletions, each at another.
use Rattle.std.proofs.Common.{◌≡◌, ◌⊎◌, inl, inr, ℕ, ◌+◌, ◌*◌, ◌≤◌, Some, List, [], ◌∷◌, ◌++◌, map, refl, sym, ap, subst, arith}
use Rattle.std.proofs.lemmas.List.Sums.{sum_by-cons, sum_by-append}
use Rattle.std.specs.List.{AllByRecursion, flat_map, sum_by}
use Rattle.std.specs.List.Sorted.{IsStrictlySortedBy}
use Rattle.std.specs.declared.cmp.Ordering.TheVariants.{Less}
use Rattle.cas_cell.specs.declared.deletion.Deletion.{Deletion}
use Rattle.cas_bounds.specs.Points.{cut_point}
use Rattle.cas_bounds.specs.declared.cuts.Cut.{Cut}
use Rattle.cas_bounds.specs.declared.order.Ordered.{Ordered}
use Rattle.cas_atoms.specs.LogLength.{cut_length, atom_length}
use Rattle.cas_atoms.specs.declared.atom.Atom.{Atom}
use Rattle.cas_atoms.specs.declared.atom.Atom.TheVariants.{RangeDeletion}
use Rattle.cas_laws.specs.Given.{Has}
use Rattle.cas_partition.specs.Ends.{IsEnd, AllAtEnds}
use Rattle.cas_streams.specs.Flat.{Change, changes}
use Rattle.cas_streams.specs.Places.{place_cmp, place_of}
use Rattle.cas_streams.specs.declared.fragment.Fragment.{Fragment}
use Rattle.cas_streams.specs.declared.fragment.Fragment.TheVariants as fragment
use Rattle.cas_streams.proofs.Forces.{places_total}
use Rattle.cas_streams.proofs.InOrder.{all_changes}
use Rattle.cas_sizes.proofs.Counting.{Answered, Apart, counted}
use Rattle.cas_sizes.proofs.Lists.{not_below}
use Rattle.cas_sizes.proofs.Shapes.{cut_size}

-- ---- cuts apart

other_cuts : (order : List Ordered) (cut : Cut) (ms : List Change)
    → AllByRecursion (λ n. place_cmp order (Some (cut_point cut)) (Some (cut_point n.at)) ≡ Less) ms
    → AllByRecursion (λ n. cut ≡ n.at → ⊥) ms
other_cuts order cut [] below = tt
other_cuts order cut (n ∷ ms) below = (
  λ e. not_below (place_cmp order) (places_total order) (Some (cut_point cut)) (Some (cut_point n.at)) (ap (λ c. Some (cut_point c)) e) below.0,
  other_cuts order cut ms below.1,
)

cuts_apart : (order : List Ordered) (fs : List Fragment) → IsStrictlySortedBy (place_cmp order) (map place_of fs) → Apart (λ m. m.at) (changes fs)
unfolding IsStrictlySortedBy
cuts_apart order [] ascend = tt
cuts_apart order (fragment.Static cs ∷ fs) ascend = cuts_apart order fs ascend.1
cuts_apart order (fragment.Row r ∷ fs) ascend = cuts_apart order fs ascend.1
cuts_apart order (fragment.Marker cut d ∷ fs) ascend =
    (other_cuts order cut (changes fs) (all_changes order (Some (cut_point cut)) fs ascend.0), cuts_apart order fs ascend.1)

-- ---- ends of range deletions

abbrev ends : Atom → List Cut
ends (RangeDeletion lo hi d) = lo ∷ hi ∷ []
ends a = []

behind : {X : Type 0} (A B : List X) (x : X) → Has B x → Has (A ++ B) x
behind [] B x has = has
behind (a ∷ A) B x has = inr (behind A B x has)

low_end : (lo hi : Cut) (d : Deletion) (A : List Atom) → Has A (RangeDeletion lo hi d) → Has (flat_map ends A) lo
low_end lo hi d [] has = absurd has
low_end lo hi d (a ∷ A) (inl e) = subst (λ b. Has (ends b ++ flat_map ends A) lo) (sym e) (inl refl)
low_end lo hi d (a ∷ A) (inr has) = behind (ends a) (flat_map ends A) lo (low_end lo hi d A has)

high_end : (lo hi : Cut) (d : Deletion) (A : List Atom) → Has A (RangeDeletion lo hi d) → Has (flat_map ends A) hi
high_end lo hi d [] has = absurd has
high_end lo hi d (a ∷ A) (inl e) = subst (λ b. Has (ends b ++ flat_map ends A) hi) (sym e) (inr (inl refl))
high_end lo hi d (a ∷ A) (inr has) = behind (ends a) (flat_map ends A) hi (high_end lo hi d A has)

abbrev end_size : Cut → ℕ
end_size c = 18 + cut_length c

end_of : (A : List Atom) (m : Change) → IsEnd A m.at → Answered (λ c. c) end_size (flat_map ends A) m.at (cut_size m)
end_of A m e = by e.at
  where
    by : (m.at ≡ e.lo) ⊎ (m.at ≡ e.hi) → Answered (λ c. c) end_size (flat_map ends A) m.at (cut_size m)
    by (inl is) = record {
      one = e.lo;
      has = low_end e.lo e.hi e.deletion A e.has;
      same = sym is;
      heavy = subst (λ c. cut_size m ≤ end_size c) is (omega arith);
    }
    by (inr is) = record {
      one = e.hi;
      has = high_end e.lo e.hi e.deletion A e.has;
      same = sym is;
      heavy = subst (λ c. cut_size m ≤ end_size c) is (omega arith);
    }

all_ends : (A : List Atom) (ms : List Change) → AllAtEnds A ms → AllByRecursion (λ m. Answered (λ c. c) end_size (flat_map ends A) m.at (cut_size m)) ms
all_ends A [] at = tt
all_ends A (m ∷ ms) at = (end_of A m at.0, all_ends A ms at.1)

ends_small : (a : Atom) → sum_by end_size (ends a) ≤ 2 * atom_length a
ends_small (RangeDeletion lo hi d) = omega (arith, sum_by-cons end_size lo (hi ∷ []), sum_by-cons end_size hi [])
ends_small a = omega arith

all_small : (A : List Atom) → sum_by end_size (flat_map ends A) ≤ 2 * sum_by atom_length A
all_small [] = omega arith
all_small (a ∷ A) = omega (arith, sum_by-append end_size (ends a) (flat_map ends A), sum_by-cons atom_length a A, ends_small a, all_small A)

-- two a range deletion at most
pub markers_counted : (order : List Ordered) (fs : List Fragment) (A : List Atom) → IsStrictlySortedBy (place_cmp order) (map place_of fs)
    → AllAtEnds A (changes fs) → sum_by cut_size (changes fs) ≤ 2 * sum_by atom_length A
markers_counted order fs A ascend at =
    omega (
      arith,
      counted (λ m. m.at) cut_size (λ c. c) end_size (changes fs) (flat_map ends A) (cuts_apart order fs ascend) (all_ends A (changes fs) at),
      all_small A,
    )

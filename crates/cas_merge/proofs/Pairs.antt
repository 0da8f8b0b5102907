-- A pair that asks both of its sides, and gives what comes first of them.
use Rattle.std.proofs.Common.{◌≡◌, ℕ, ◌≤◌, Option, None, Some, Ok, List, refl, ◌∙◌, arith}
use Rattle.std.proofs.lemmas.Option.{none-some}
use Rattle.cas_streams.specs.Sources.{TakesFirst, Shrinks}
use Rattle.cas_streams.specs.Weaving.{woven}
use Rattle.cas_streams.specs.Joined.{by_place}
use Rattle.cas_streams.specs.declared.fragment.Fragment.{Fragment}
use Rattle.cas_merge.specs.declared.bracket.Side.{Side}
use Rattle.cas_merge.specs.Inner.Brackets.{of_both}

-- what is to come stays
pub still : (s t u v : Side) (xs ys xs' ys' : Option (List Fragment)) → u.in_force ≡ s.in_force → v.in_force ≡ t.in_force
    → ((fs : List Fragment) → xs ≡ Some fs → xs' ≡ Some fs) → ((fs : List Fragment) → ys ≡ Some fs → ys' ≡ Some fs) → (fs : List Fragment) → of_both s xs t ys ≡ Some fs → of_both u xs' v ys' ≡ Some fs
still s t u v None ys xs' ys' d e h k fs o = absurd (none-some fs o)
still s t u v (Some xs) None xs' ys' d e h k fs o = absurd (none-some fs o)
still s t u v (Some xs) (Some ys) xs' ys' d e h k fs o =
    (λ i. of_both u (h xs refl i) v (k ys refl i)) ∙ (λ i. Some (woven by_place (record { left = d i; right = e i }) xs ys)) ∙ o

-- the answers of two kinds of faults, where there is no fault
pub same_answer : (E F : Type 0) (fs : List Fragment) (after : Option (List Fragment)) (f : Option Fragment) → TakesFirst {E = E} fs after (Ok f) → TakesFirst {E = F} fs after (Ok f)
same_answer E F fs after None h = h
same_answer E F fs after (Some f) h = h

pub lessened : (E F : Type 0) (before middle after : ℕ) (f : Option Fragment) → middle ≤ before → Shrinks {E = E} middle after (Ok f) → Shrinks {E = F} before after (Ok f)
lessened E F before middle after None h k = omega (arith, h, k)
lessened E F before middle after (Some f) h k = omega (arith, h, k)

-- What follows from the order of places: what a row isn't past, it isn't past later on.
use Rattle.std.proofs.Common.{◌≡◌, ℕ, true, false, cond, Option, Some, List, [], ◌∷◌, map, refl, sym, ap, ◌∙◌}
use Rattle.std.proofs.lemmas.Bool.{true≢false}
use Rattle.std.specs.List.{AllByRecursion}
use Rattle.std.specs.List.Sorted.{IsStrictlySortedBy}
use Rattle.std.specs.declared.cmp.Ordering.TheVariants.{Less}
use Rattle.std.specs.Ordering.{is_gt}
use Rattle.cas_cell.specs.declared.deletion.Deletion.{Deletion}
use Rattle.cas_bounds.specs.Cuts.{is_past}
use Rattle.cas_bounds.specs.Points.{point_cmp, cut_point}
use Rattle.cas_bounds.specs.declared.order.Ordered.{Ordered}
use Rattle.cas_bounds.specs.declared.cuts.Cut.{Cut}
use Rattle.cas_bounds.proofs.CutLaws.{point_laws, cuts_divide_rows}
use Rattle.cas_streams.specs.Places.{Place, place_cmp, place_of}
use Rattle.cas_streams.specs.Flat.{Change, changes, reaching}
use Rattle.cas_streams.specs.Streams.{IsOf}
use Rattle.cas_streams.specs.declared.fragment.Fragment.{Fragment}
use Rattle.cas_streams.specs.declared.fragment.Fragment.TheVariants as fragment

-- the changes stand one after another, all of them in one order
abbrev pub Rise : List Ordered → List Change → Type 0
Rise order [] = Unit {0}
Rise order (m ∷ ms) = (m.at.order ≡ order) × AllByRecursion (λ n. point_cmp order (cut_point m.at) (cut_point n.at) ≡ Less) ms × Rise order ms

pub all_changes : (order : List Ordered) (p : Place) (fs : List Fragment) → AllByRecursion (λ q. place_cmp order p q ≡ Less) (map place_of fs)
    → AllByRecursion (λ n. place_cmp order p (Some (cut_point n.at)) ≡ Less) (changes fs)
all_changes order p [] all = tt
all_changes order p (fragment.Static cs ∷ fs) all = all_changes order p fs all.1
all_changes order p (fragment.Row r ∷ fs) all = all_changes order p fs all.1
all_changes order p (fragment.Marker cut d ∷ fs) all = (all.0, all_changes order p fs all.1)

pub changes_rise : (order : List Ordered) (fs : List Fragment) → IsStrictlySortedBy (place_cmp order) (map place_of fs) → AllByRecursion (IsOf order) fs → Rise order (changes fs)
unfolding IsStrictlySortedBy
changes_rise order [] s of = tt
changes_rise order (fragment.Static cs ∷ fs) s of = changes_rise order fs s.1 of.1
changes_rise order (fragment.Row r ∷ fs) s of = changes_rise order fs s.1 of.1
changes_rise order (fragment.Marker cut d ∷ fs) s of = (of.0, all_changes order (Some (cut_point cut)) fs s.0, changes_rise order fs s.1 of.1)

-- the row is past none of the changes
abbrev pub NotPast : List (List ℕ) → List Change → Type 0
NotPast c ms = AllByRecursion (λ m. is_past m.at c ≡ false) ms

pub not_past_later : (order : List Ordered) (a b : Cut) (c : List (List ℕ)) → a.order ≡ order → b.order ≡ order → point_cmp order (cut_point a) (cut_point b) ≡ Less
    → is_past a c ≡ false → is_past b c ≡ false
not_past_later order a b c e f below none =
    elim (is_past b c) as (λ t. is_past b c ≡ t → t ≡ false) [
      | true ↦ λ p. absurd (true≢false (sym (cuts_divide_rows a b c (e ∙ sym f) (ap is_gt (point_laws.cuts a b ∙ ap (λ o. point_cmp o (cut_point a) (cut_point b)) e ∙ below)) p) ∙ none))
      | false ↦ λ p. refl
    ] refl

pub not_past : (order : List Ordered) (m : Change) (ms : List Change) (c : List (List ℕ)) → Rise order (m ∷ ms) → is_past m.at c ≡ false → NotPast c ms
not_past order m ms c rise none = go ms rise.1 rise.2
  where
    go : (ns : List Change) → AllByRecursion (λ n. point_cmp order (cut_point m.at) (cut_point n.at) ≡ Less) ns → Rise order ns → NotPast c ns
    go [] above r = tt
    go (n ∷ ns) above r = (not_past_later order m.at n.at c rise.0 r.0 above.0 none, go ns above.1 r.2)

pub unreached : (now : Option Deletion) (ms : List Change) (c : List (List ℕ)) → NotPast c ms → reaching now ms c ≡ now
unreached now [] c none = refl
unreached now (m ∷ ms) c none = ap (λ b. reaching (cond b m.to now) ms c) none.0 ∙ unreached now ms c none.1

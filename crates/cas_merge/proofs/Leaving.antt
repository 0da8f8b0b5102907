-- What is left of what comes next.
use Rattle.std.proofs.Common.{◌≡◌, true, Option, None, Some, Result, Ok, Err, List, [], ◌∷◌, refl, sym, ap, ◌∙◌}
use Rattle.std.specs.List.{cons_option}
use Rattle.std.specs.Option.{unwrap_or}
use Rattle.std.proofs.lemmas.Option.{none-some}
use Rattle.cas_cell.specs.declared.deletion.Deletion.{Deletion}
use Rattle.cas_streams.specs.Sources.{TakesFirst}
use Rattle.cas_streams.specs.Joined.{opened}
use Rattle.cas_streams.specs.Settled.{left_of, settled_from}
use Rattle.cas_streams.specs.declared.fragment.Fragment.{Fragment}
use Rattle.cas_merge.specs.Inner.Brackets.{left_to_come}
use Rattle.cas_merge.specs.Inner.Said.{goes_whole, opened_by}
use Rattle.cas_merge.proofs.Saying.{left_whole}

-- a fragment of which that is left
pub left_first : (top before now : Option Deletion) (f g : Fragment) (o : Option (List Fragment)) → left_of top before f ≡ Some g → now ≡ opened before f → (fs : List Fragment) → o ≡ Some fs
    → (rest : List Fragment) × (settled_from top before (f ∷ fs) ≡ g ∷ rest) × (left_to_come top now o ≡ Some rest)
left_first top before now f g o e opens fs told = (
  settled_from top (opened before f) fs,
  ap (λ l. cons_option l (settled_from top (opened before f) fs)) e,
  λ i. left_to_come top (opens i) (told i),
)

-- what goes on as it is
pub whole_first : (E : Type 0) (top now then : Option Deletion) (o after : Option (List Fragment)) (next : Result (Option Fragment) E) → goes_whole top now next ≡ true → then ≡ opened_by now next
    → ((gs : List Fragment) → o ≡ Some gs → TakesFirst gs after next) → (fs : List Fragment) → left_to_come top now o ≡ Some fs → TakesFirst fs (left_to_come top then after) next
whole_first E top now then None after next w t h fs e = absurd (none-some fs e)
whole_first E top now then (Some gs) after (Err fault) w t h fs e = tt
whole_first E top now then (Some gs) after (Ok None) w t h fs e =
    let (none, later) = h gs refl in (
      sym (ap (λ x. unwrap_or x []) e) ∙ ap (settled_from top now) none,
      λ i. left_to_come top (t i) (later i),
    )
whole_first E top now then (Some gs) after (Ok (Some f)) w t h fs e =
    let (rest, first, later) = h gs refl in (
      settled_from top (opened now f) rest,
      sym (ap (λ x. unwrap_or x []) e) ∙ ap (settled_from top now) first
          ∙ ap (λ l. cons_option l (settled_from top (opened now f) rest)) (sym (left_whole top now f w)),
      λ i. left_to_come top (t i) (later i),
    )

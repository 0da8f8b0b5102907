-- What a table has stored holds after a change of its memtables.
use Rattle.std.proofs.Common.{◌≡◌, Bool, true, false, List, [], ◌∷◌, ◌++◌, refl, sym, ap, ◌∙◌, append-nil, append_assoc}
use Rattle.std.specs.Prelude.{if◌then◌else◌}
use Rattle.cas_bounds.specs.declared.order.Ordered.{Ordered}
use Rattle.cas_atoms.specs.declared.atom.Mutation.{Mutation}
use Rattle.cas_memtable.specs.declared.memtable.MemPart.{MemPart}
use Rattle.cas_memtable.specs.Kept.{StandInEach, all_of, begun, with_one}
use Rattle.cas_sstread.specs.Loading.{Held}
use Rattle.cas_view.specs.Views.{File}
use Rattle.cas_stored.specs.Stored.{HoldEach}

-- ---- memtables that hold the same

module _ (order : List Ordered) (ms ns : List MemPart) where
  pub memory_kept : ((vss : List (List Mutation)) → StandInEach order ms vss → StandInEach order ns vss) → (fs : List (File Held)) (wss : List (List Mutation))
      → HoldEach order fs ms wss → HoldEach order fs ns wss
  memory_kept memory [] wss holds = memory wss holds
  memory_kept memory (f ∷ fs) [] holds = absurd holds
  memory_kept memory (f ∷ fs) (ws ∷ wss) holds = (holds.0, memory_kept memory fs wss holds.1)

  -- and a new one
  memory_begun : ((vss : List (List Mutation)) → StandInEach order ms vss → StandInEach order ns (begun vss)) → (fs : List (File Held)) (wss : List (List Mutation))
      → HoldEach order fs ms wss → HoldEach order fs ns (begun wss)
  memory_begun memory [] wss holds = memory wss holds
  memory_begun memory (f ∷ fs) [] holds = absurd holds
  memory_begun memory (f ∷ fs) (ws ∷ wss) holds = (holds.0, memory_begun memory fs wss holds.1)

  pub memory_begun_if : (b : Bool) → ((vss : List (List Mutation)) → StandInEach order ms vss → StandInEach order ns (if b then begun vss else vss))
      → (fs : List (File Held)) (wss : List (List Mutation)) → HoldEach order fs ms wss → HoldEach order fs ns (if b then begun wss else wss)
  memory_begun_if true memory fs wss holds = memory_begun memory fs wss holds
  memory_begun_if false memory fs wss holds = memory_kept memory fs wss holds

-- ---- one mutation more

all_with_one : (w : Mutation) (ws : List Mutation) (wss : List (List Mutation)) → all_of (with_one w (ws ∷ wss)) ≡ all_of (ws ∷ wss) ++ w ∷ []
all_with_one w ws [] = append-nil (ws ++ w ∷ []) ∙ ap (λ l. l ++ w ∷ []) (sym (append-nil ws))
all_with_one w ws (vs ∷ us) = ap (λ l. ws ++ l) (all_with_one w vs us) ∙ sym (append_assoc ws (all_of (vs ∷ us)) (w ∷ []))

module _ (order : List Ordered) (w : Mutation) (front : List MemPart) (m : MemPart) (ns : List MemPart)
    (memory : (vss : List (List Mutation)) → StandInEach order (front ++ m ∷ []) vss → StandInEach order ns (with_one w vss)) where
  -- there is a memtable, which holds some list
  none_stand : (xs : List MemPart) → StandInEach order (xs ++ m ∷ []) [] → ⊥
  none_stand [] h = h
  none_stand (x ∷ xs) h = h

  none_held : (fs : List (File Held)) → HoldEach order fs (front ++ m ∷ []) [] → ⊥
  none_held [] h = none_stand front h
  none_held (f ∷ fs) h = h

  holds_one : (fs : List (File Held)) (wss : List (List Mutation)) → HoldEach order fs (front ++ m ∷ []) wss → HoldEach order fs ns (with_one w wss)
  holds_one [] wss holds = memory wss holds
  holds_one (f ∷ fs) [] holds = absurd holds
  holds_one (f ∷ fs) (ws ∷ []) holds = absurd (none_held fs holds.1)
  holds_one (f ∷ fs) (ws ∷ vs ∷ us) holds = (holds.0, holds_one fs (vs ∷ us) holds.1)

  all_one : (fs : List (File Held)) (wss : List (List Mutation)) → HoldEach order fs (front ++ m ∷ []) wss → all_of (with_one w wss) ≡ all_of wss ++ w ∷ []
  all_one fs [] holds = absurd (none_held fs holds)
  all_one fs (ws ∷ wss) holds = all_with_one w ws wss

  pub memory_joined : (fs : List (File Held)) (wss : List (List Mutation)) → HoldEach order fs (front ++ m ∷ []) wss
      → HoldEach order fs ns (with_one w wss) × (all_of (with_one w wss) ≡ all_of wss ++ w ∷ [])
  memory_joined fs wss holds = (holds_one fs wss holds, all_one fs wss holds)

-- or not
pub memory_joined_if : (order : List Ordered) (w : Mutation) (front : List MemPart) (m : MemPart) (ns : List MemPart) (b : Bool)
    → ((vss : List (List Mutation)) → StandInEach order (front ++ m ∷ []) vss → StandInEach order ns (if b then with_one w vss else vss))
    → (fs : List (File Held)) (wss : List (List Mutation)) → HoldEach order fs (front ++ m ∷ []) wss
    → HoldEach order fs ns (if b then with_one w wss else wss)
    × (all_of (if b then with_one w wss else wss) ≡ (if b then all_of wss ++ w ∷ [] else all_of wss))
memory_joined_if order w front m ns true memory fs wss holds = memory_joined order w front m ns memory fs wss holds
memory_joined_if order w front m ns false memory fs wss holds = (memory_kept order (front ++ m ∷ []) ns memory fs wss holds, refl)

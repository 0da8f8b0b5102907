-- A session's diary has no turn.
use Rattle.std.proofs.Common.{◌≡◌, ℕ, List, [], ◌∷◌, ◌++◌, refl, sym, subst}
use Rattle.cas_atoms.specs.declared.atom.Mutation.{Mutation}
use Rattle.cas_history.specs.declared.item.Item.{Item}
use Rattle.cas_history.specs.declared.item.Item.TheVariants.{Wrote}
use Rattle.cas_history.specs.Last.{Idle}
use Rattle.cas_lifecycle.proofs.Turns.{stays_idle}
use Rattle.cas_room.specs.declared.event.Event.{Event}
use Rattle.cas_room.specs.declared.event.Event.TheVariants as event

-- a mutation that it wrote begins none
pub idle_taken : (before now : List (Item Event)) (m : Mutation) (session call : ℕ) → Idle before → now ≡ before ++ Wrote m.shard session call m.number (event.Accepted m) ∷ []
    → Idle now
idle_taken before now m session call idle is =
    subst (λ list. Idle list) (sym is) (stays_idle before (Wrote m.shard session call m.number (event.Accepted m)) (λ works. refl) idle)

-- a new one is empty
pub idle_none : (list : List (Item Event)) → list ≡ [] → Idle list
idle_none list none = subst (λ l. Idle l) (sym none) (λ works. refl)

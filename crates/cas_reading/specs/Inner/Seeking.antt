-- What is said of what was sought, by what is said of a slice (own).
use Rattle.std.specs.Prelude.{ℕ, List, [], Option, None, Some}
use Rattle.cas_cell.specs.declared.deletion.Deletion.{Deletion}
use Rattle.cas_streams.specs.declared.fragment.Fragment.{Fragment}
use Rattle.cas_blocks.specs.declared.fault.TableFault.{TableFault}
use Rattle.cas_reading.specs.declared.sought.Sought.{Sought}
use Rattle.cas_reading.specs.declared.sought.Sought.TheVariants.{Nothing, Slice, Broken}

-- nothing has no fragment
abbrev pub fragments_in : {B : Type 0} → (B → Option (List Fragment)) → Sought B → Option (List Fragment)
fragments_in to_come Nothing = Some []
fragments_in to_come (Slice b) = to_come b
fragments_in to_come (Broken f) = None

abbrev pub top_in : {B : Type 0} → (B → Option Deletion) → Sought B → Option Deletion
top_in over_all Nothing = None
top_in over_all (Slice b) = over_all b
top_in over_all (Broken f) = None

abbrev pub room_in : {B : Type 0} → (B → ℕ) → Sought B → ℕ
room_in at_most Nothing = 0
room_in at_most (Slice b) = at_most b
room_in at_most (Broken f) = 0

abbrev pub fault_in : {B : Type 0} → (B → Option TableFault) → Sought B → Option TableFault
fault_in broken_by Nothing = None
fault_in broken_by (Slice b) = broken_by b
fault_in broken_by (Broken f) = Some f

-- which places of which files a slice may find bad; where none is open, none
abbrev pub bad_in : {B : Type 0} → (B → ℕ → ℕ → Type 0) → Sought B → ℕ → ℕ → Type 0
bad_in bad Nothing n at = ⊥
bad_in bad (Slice b) n at = bad b n at
bad_in bad (Broken f) n at = ⊥

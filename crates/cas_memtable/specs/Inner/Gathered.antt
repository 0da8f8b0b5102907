-- The sources of a partition, memtable by memtable (own).
use Rattle.std.specs.Prelude.{◌≡◌, ℕ, Option, List, [], ◌∷◌, ◌++◌}
use Rattle.std.specs.Option.{option_to_list}
use Rattle.cas_cell.specs.declared.deletion.Deletion.{Deletion}
use Rattle.cas_bounds.specs.declared.cuts.Slice.{Slice}
use Rattle.cas_memtable.specs.Memtables.{held_at, GivesPart}
use Rattle.cas_memtable.specs.declared.memtable.MemPart.{MemPart}
use Rattle.cas_streams.specs.declared.fragment.Fragment.{Fragment}

-- one source of each memtable that has something under the key, in their order
abbrev pub Gathers : {M : Type 0} → (M → Option (List Fragment)) → (M → Option Deletion) → Slice → List ℕ → List MemPart → List M → Type 0
Gathers tells tops s key [] xs = xs ≡ []
Gathers {M} tells tops s key (m ∷ ms) xs =
    (o : Option M) × (rest : List M) × GivesPart s (held_at m key) tells tops o × (xs ≡ option_to_list o ++ rest) × Gathers tells tops s key ms rest

-- behind those that were there
abbrev pub GathersBehind : {M : Type 0} → (M → Option (List Fragment)) → (M → Option Deletion) → Slice → List ℕ → List MemPart → List M → List M → Type 0
GathersBehind {M} tells tops s key ms old new = (xs : List M) × (new ≡ old ++ xs) × Gathers tells tops s key ms xs

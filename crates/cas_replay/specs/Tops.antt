-- What is noted of mutations: of each table in each shard the greatest number. Own.
use Rattle.std.specs.Prelude.{◌≡◌, ◌⊎◌, ◌≤◌, ℕ, ◌+◌, ◌*◌, List, slice_index_or}
use Rattle.std.specs.List.{AllByRecursion, Any}
use Rattle.cas_atoms.specs.declared.atom.Mutation.{Mutation}
use Rattle.cas_replay.specs.declared.tops.Tops.{Tops}

-- the place of a mutation's table and shard, in a store of so many shards: they stand table by table
abbrev pub place_in : ℕ → Mutation → ℕ
place_in shards m = m.table * shards + m.shard

-- the number at a place, 0 behind the last
abbrev pub number_at : List ℕ → ℕ → ℕ
number_at numbers place = slice_index_or numbers place 0

-- the greatest number that is noted at a place
abbrev pub top_at : Tops → ℕ → ℕ
top_at tops place = number_at tops.numbers.items place

-- each of these mutations is noted: its number is at most the greatest that is noted of its table and shard
abbrev pub AreNoted : ℕ → Tops → List Mutation → Type 0
AreNoted shards tops mutations = AllByRecursion (λ m. m.number ≤ top_at tops (place_in shards m)) mutations

-- each number that is noted is that of one of these mutations, of its table and shard, or 0
abbrev pub AreTopsOf : ℕ → Tops → List Mutation → Type 0
AreTopsOf shards tops mutations = (place : ℕ) → (top_at tops place ≡ 0) ⊎ Any (λ m. (place_in shards m ≡ place) × (m.number ≡ top_at tops place)) mutations

-- what is noted of just these mutations: each is noted, and no number is that of another
pub record AreNotesOf (shards : ℕ) (tops : Tops) (mutations : List Mutation) : Type 0 where
  pub noted : AreNoted shards tops mutations
  pub exact : AreTopsOf shards tops mutations

-- all that is noted is at or below these frontiers, which stand table by table
abbrev pub IsCovered : Tops → List ℕ → Type 0
IsCovered tops frontiers = (place : ℕ) → top_at tops place ≤ number_at frontiers place

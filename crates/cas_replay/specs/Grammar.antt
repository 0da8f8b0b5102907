-- Which files are read: segments whose mutations are of the store's tables, and over which their numbers ascend. Own format.
use Rattle.std.specs.Prelude.{◌≡◌, ◌+◌, ◌==◌, ◌≤◌, ◌≤ℤ◌, ℕ, true, List, [], ◌∷◌, if◌then◌else◌}
use Rattle.std.specs.List.{AllByRecursion, flat_map}
use Rattle.cas_types.specs.Limits.{IsMoment}
use Rattle.cas_types.specs.declared.limits.TheConstants.{LAST_DRAWN, MUTATION_LIMIT}
use Rattle.cas_types.specs.declared.schema.TableSchema.{TableSchema}
use Rattle.cas_atoms.specs.declared.atom.Mutation.{Mutation}
use Rattle.cas_mutations.specs.Allowed.{FitsRecord}
use Rattle.cas_log.specs.Segment.{IsSegment, joined}

-- a mutation whose number, drawn timestamp and moment are such as each record has
pub record IsWithinLimits (m : Mutation) : Type 0 where
  pub number : (1 ≤ m.number) × (m.number ≤ MUTATION_LIMIT)
  pub drawn : m.drawn ≡ true → m.at ≤ℤ LAST_DRAWN
  pub moment : IsMoment m.moment

-- the numbers of a shard's mutations
abbrev pub numbers_of : ℕ → List Mutation → List ℕ
numbers_of shard mutations = flat_map (λ m. if m.shard == shard then m.number ∷ [] else []) mutations

-- each is one above the one before it: 7, 8, 9
abbrev pub AscendByOne : List ℕ → Type 0
AscendByOne [] = Unit {0}
AscendByOne (n ∷ []) = Unit {0}
AscendByOne (n ∷ next ∷ others) = (next ≡ n + 1) × AscendByOne (next ∷ others)

-- per shard, numbers ascend by one
abbrev pub AreInOrder : List Mutation → Type 0
AreInOrder mutations = (shard : ℕ) → AscendByOne (numbers_of shard mutations)

-- mutations that a log may have: each is of one of the tables, and per shard their numbers ascend by one
pub record AreOfALog (tables : List TableSchema) (shards : ℕ) (mutations : List Mutation) : Type 0 where
  pub fit : AllByRecursion (FitsRecord tables shards) mutations
  pub ordered : AreInOrder mutations

-- the file is the segment of this number with these mutations, each of one of the tables
pub record IsSegmentOf (tables : List TableSchema) (shards number : ℕ) (mutations : List Mutation) (file : List ℕ) : Type 0 where
  pub segment : IsSegment number mutations file
  pub fit : AllByRecursion (FitsRecord tables shards) mutations

-- each number's file is its segment, with the mutations that stand in its place
abbrev pub AreSegments : List TableSchema → ℕ → (ℕ → List ℕ) → List ℕ → List (List Mutation) → Type 0
AreSegments tables shards file [] [] = Unit {0}
AreSegments tables shards file (n ∷ numbers) (ms ∷ parts) = IsSegmentOf tables shards n ms (file n) × AreSegments tables shards file numbers parts
AreSegments tables shards file [] (ms ∷ parts) = ⊥
AreSegments tables shards file (n ∷ numbers) [] = ⊥

-- The files of these numbers are the segments of a log with these mutations: each is its segment, with mutations of the tables, and over all
-- of them, in this order, the numbers of a shard ascend by one.
pub record IsLog (tables : List TableSchema) (shards : ℕ) (file : ℕ → List ℕ) (numbers : List ℕ) (mutations : List Mutation) : Type 0 where
  pub parts : List (List Mutation)
  pub segments : AreSegments tables shards file numbers parts
  pub all : joined parts ≡ mutations
  pub ordered : AreInOrder mutations

-- Shards in memory that take the mutations of a log. Own.
use Rattle.std.specs.Prelude.{◌≡◌, ℕ, ◌<◌, List, [], ◌∷◌, slice_get, Option, None, Some}
use Rattle.std.specs.List.{AllByRecursion}
use Rattle.cas_types.specs.declared.schema.TableSchema.{TableSchema}
use Rattle.cas_atoms.specs.declared.atom.Mutation.{Mutation}
use Rattle.cas_mutations.specs.Allowed.{FitsRecord}
use Rattle.cas_replay.specs.Grammar.{numbers_of}
use Rattle.cas_shard.specs.Shards.{found_shard}
use Rattle.cas_shard.specs.Stands.{HasNoFiles, ShardState, Stands}
use Rattle.cas_recovery.specs.Found.{found_in}
use Rattle.cas_recovery.specs.Restored.{AreFilledBy, RememberAll}

-- the numbers rise, from above n
abbrev pub Rise : ℕ → List ℕ → Type 0
Rise n [] = Unit {0}
Rise n (m ∷ ms) = (n < m) × Rise m ms

-- mutations that shards may be given one after another: each is of one of the tables, and per shard their numbers rise
pub record MayBeGiven (tables : List TableSchema) (count : ℕ) (mutations : List Mutation) : Type 0 where
  pub fit : AllByRecursion (FitsRecord tables count) mutations
  pub rise : (n : ℕ) → Rise 0 (numbers_of n mutations)

-- each shard has what the log has of it
abbrev pub AreRestored : List TableSchema → List Mutation → List ShardState → Type 0
AreRestored tables mutations shards = (n : ℕ) (x : ShardState) → slice_get shards n ≡ Some x → Stands tables (found_shard (found_in n mutations)) x

-- no shard has a table file
abbrev pub HaveNoFiles : List ShardState → Type 0
HaveNoFiles shards = (n : ℕ) (x : ShardState) → slice_get shards n ≡ Some x → HasNoFiles x

-- of whatever tables these mutations may be, each shard has what they have of it, in memory and in no table file
abbrev pub HaveRestored : List Mutation → List ShardState → Type 0
HaveRestored mutations shards =
    HaveNoFiles shards × ((tables : List TableSchema) (count : ℕ) → MayBeGiven tables count mutations → AreRestored tables mutations shards)
    × ((tables : List TableSchema) (count : ℕ) → MayBeGiven tables count mutations → RememberAll tables mutations shards)
    × AreFilledBy mutations shards

-- the same of those that are there, unless memory ran out
abbrev pub HasRestored : List Mutation → Option (List ShardState) → Type 0
HasRestored mutations None = Unit {0}
HasRestored mutations (Some shards) = HaveRestored mutations shards

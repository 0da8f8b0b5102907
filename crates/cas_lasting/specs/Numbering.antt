-- How the mutations of an open store are numbered on (own).
use Rattle.std.specs.Prelude.{◌≡◌, ℕ, ◌+◌, List, [], ◌∷◌, ◌++◌, length, slice_get, Some}
use Rattle.cas_atoms.specs.declared.atom.Mutation.{Mutation}
use Rattle.cas_replay.specs.Grammar.{AscendByOne, numbers_of}
use Rattle.cas_room.specs.Rooms.{accepted_in}
use Rattle.cas_shard.specs.Stands.{ShardState}
use Rattle.cas_lasting.specs.Nodes.{State}

-- From one state of a store to another some mutations were accepted, behind those of before: each shard numbered them by one, from its last number on up to
-- its new last one.
pub record NumbersOn (s t : State) : Type 0 where
  pub fresh : List Mutation
  pub list : accepted_in t.list ≡ accepted_in s.list ++ fresh
  pub count : length t.shards ≡ length s.shards
  pub shards : (n : ℕ) (x y : ShardState) → slice_get s.shards n ≡ Some x → slice_get t.shards n ≡ Some y
      → AscendByOne (x.number ∷ numbers_of n fresh ++ (y.number + 1) ∷ [])

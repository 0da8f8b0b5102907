-- What is always so of an open store (own).
use Rattle.std.specs.Prelude.{◌≡◌, ◌+◌, ℕ, List, [], ◌∷◌, length, map}
use mathlib.Core.HLevel.{Unit-prop, ×_prop}
use Rattle.std.proofs.Props.{props}
use Rattle.std.specs.List.{AllByRecursion-prop}
use Rattle.cas_types.specs.Limits.{IsShardCount}
use Rattle.cas_types.specs.declared.schema.TableSchema.{TableSchema}
use Rattle.cas_bind.specs.declared.bound.Limits.{Limits}
use Rattle.cas_bind.specs.Tables.{AreInPlace, AreTables}
use Rattle.cas_log.specs.Segment.{IsSize}
use Rattle.cas_history.specs.Hands.{numbers}
use Rattle.cas_shard.specs.Stands.{ShardState}
use Rattle.cas_lasting.specs.Nodes.{State}

-- that each table's number is its place is shown in one way
pub AreInPlace-prop : (n : ℕ) (ts : List TableSchema) → IsProp (AreInPlace n ts)
AreInPlace-prop n [] = Unit-prop
AreInPlace-prop n (t ∷ ts) = ×_prop (hlevel props) (AreInPlace-prop (n + 1) ts)

pub ruleset sound_props = (props, AreInPlace-prop)

-- and that of each of some files something is so
pub ruleset read_props = (props, AllByRecursion-prop)

-- its tables are tables, it has as many shards as its limits say, of each a seat with its last number, and segments of that size
pub record IsSound (l : Limits) (ts : List TableSchema) (xs : List ShardState) (seats counts : List ℕ) (segment : ℕ) : Type 0 where
  pub tables : AreTables ts
  pub count : length xs ≡ l.shards
  pub some : IsShardCount l.shards
  pub size : (segment ≡ l.segment) × IsSize l.segment
  pub places : seats ≡ numbers 0 l.shards
  pub numbers : counts ≡ map (λ x. x.number) xs

-- the seats for the changes of table files are the shards', and the room's
abbrev pub AreSeated : Limits → List ℕ → List ℕ → Type 0
AreSeated l changed copied = (changed ≡ numbers 0 l.shards) × (copied ≡ numbers 0 l.shards)

-- the same of what contracts see of it
abbrev pub IsSoundState : State → Type 0
IsSoundState s = IsSound s.limits s.tables s.shards s.places s.numbers s.journal.size

-- What a shard does for a write (own).
use Rattle.std.specs.Prelude.{◌≡◌, ℕ, ℤ, false, Result, List}
use Rattle.cas_types.specs.declared.schema.TableSchema.{TableSchema}
use Rattle.cas_atoms.specs.declared.atom.Mutation.{Mutation}
use Rattle.cas_effects.specs.declared.effect.BoundWrite.{BoundWrite}
use Rattle.cas_shard.specs.declared.entry.Entry.{Entry}
use Rattle.cas_shard.specs.Shards.{ShardHistory, Takes, entered, raised, take_refusal, taken_unless, wants}
use Rattle.cas_shard.specs.Stands.{ShardState, Stands}
use Rattle.cas_shard.specs.declared.answers.TakeFault.{TakeFault}

-- a write was answered so by a shard that stood for the history `s`, and stands for that with what was entered
pub record Took (tables : List TableSchema) (segment : ℕ) (s : ShardHistory) (reading : ℤ) (session call : ℕ) (w : BoundWrite)
    (r : Result ℕ TakeFault) (x : ShardState) : Type 0 where
  pub entries : List Entry
  pub takes : Takes segment s reading session call w entries r
  pub stands : Stands tables (entered entries (raised reading s)) x

-- a mutation was answered so: itself, or why it is refused; or memory ran out
abbrev pub Answered : ℕ → Mutation → Result Mutation TakeFault → Type 0
Answered segment m r = wants r ≡ false → r ≡ taken_unless (take_refusal segment m) m

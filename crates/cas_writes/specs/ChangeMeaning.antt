-- What an INSERT, UPDATE or DELETE means to its table: the write, or why it is refused.
-- CQL documentation, "Data manipulation: INSERT, UPDATE, DELETE". Only where memory runs out is there another answer.
use Rattle.std.specs.Prelude.{ℕ, ◌<◌, ◌≤ℤ◌, IfSome, Result}
use Rattle.cas_types.specs.declared.limits.TheConstants.{LEAST_TIMESTAMP}
use Rattle.cas_types.specs.declared.schema.TableSchema.{TableSchema}
use Rattle.cas_effects.specs.Refusals.{refusal_for}
use Rattle.cas_effects.specs.TooLarge.{write_too_large}
use Rattle.cas_effects.specs.declared.effect.BoundWrite.{BoundWrite}
use Rattle.cas_effects.specs.declared.refusal.Refusal.{Refusal}
use Rattle.cas_define.specs.Outcomes.{outcome}
use Rattle.cql_parse.specs.declared.syntax.Statement.{Statement}
use Rattle.cas_reasons.specs.RowReasons.{row_reasons}
use Rattle.cas_writes.specs.Changes.{bound_change}

-- an INSERT, UPDATE or DELETE of the table, of so many shards: what it writes, or the refusal
unfoldable pub change_means : ℕ → TableSchema → Statement → Result BoundWrite Refusal
change_means shards t s = outcome (refusal_for (row_reasons t (write_too_large (bound_change shards t s)) s)) (bound_change shards t s)

-- a write is of one of the shards, and its own timestamp is in its range
abbrev pub IsWriteWithin : ℕ → BoundWrite → Type 0
IsWriteWithin shards w = (w.shard < shards) × IfSome w.timestamp (λ at. LEAST_TIMESTAMP ≤ℤ at)

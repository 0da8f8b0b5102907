-- The tables after a definition is done, and what holds of tables and of what is bound.
-- CQL documentation, "Data definition: CREATE TABLE, ALTER TABLE"; that a table's number is its place, and the limits, are own.
use Rattle.std.specs.Prelude.{◌≡◌, ℕ, ◌==◌, ◌+◌, ◌<◌, ⊤, All, List, [], ◌∷◌, ◌++◌, map, if◌then◌else◌}
use Rattle.cas_types.specs.declared.schema.TableSchema.{TableSchema}
use Rattle.cas_types.specs.Limits.{IsNarrow}
use Rattle.cas_define.specs.IsTable.{IsTable}
use Rattle.cas_define.specs.declared.addition.Addition.{Addition}
use Rattle.cas_writes.specs.ChangeMeaning.{IsWriteWithin}
use Rattle.cas_bind.specs.declared.bound.Bound.{Bound}
use Rattle.cas_bind.specs.declared.bound.Bound.TheVariants as bound

-- the table that an ALTER TABLE is of has its columns after the others
abbrev pub with_added : Addition → TableSchema → TableSchema
with_added a t = if t.number == a.table then record t { columns = t.columns ++ a.columns } else t

-- a CREATE TABLE puts its table after the others; only ALTER TABLE changes one
unfoldable pub tables_after : List TableSchema → Bound → List TableSchema
tables_after ts (bound.Create t) = ts ++ t ∷ []
tables_after ts (bound.Alter a) = map (with_added a) ts
tables_after ts (bound.Write w) = ts
tables_after ts (bound.Read r) = ts

-- each table's number is its place
abbrev pub AreInPlace : ℕ → List TableSchema → Type 0
AreInPlace n [] = ⊤
AreInPlace n (t ∷ ts) = (t.number ≡ n) × AreInPlace (n + 1) ts

-- tables as CREATE TABLE and ALTER TABLE make them, each at its number
pub record AreTables (ts : List TableSchema) : Type 0 where
  pub narrow : All (λ t. IsNarrow t.columns) ts
  pub numbered : AreInPlace 0 ts
  pub each : All IsTable ts

-- a write and a read are of one of the shards, a write's own timestamp is in its range, a read's table is narrow
abbrev pub IsWithin : ℕ → Bound → Type 0
IsWithin shards (bound.Create t) = ⊤
IsWithin shards (bound.Alter a) = ⊤
IsWithin shards (bound.Write w) = IsWriteWithin shards w
IsWithin shards (bound.Read r) = (r.shard < shards) × IsNarrow r.query.columns

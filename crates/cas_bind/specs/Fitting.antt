-- What is bound fits its table: what it writes and asks is what the store may hold of the table.
-- CQL documentation, "Data definition: the primary key; table options" and "Data manipulation".
use Rattle.std.specs.Prelude.{◌≡◌, ℕ, ⊤, List, Some, slice_get}
use Rattle.cas_types.specs.declared.schema.TableSchema.{TableSchema}
use Rattle.cas_atoms.specs.Fits.{FitsQuery}
use Rattle.cas_effects.specs.FitsBound.{FitsBound}
use Rattle.cas_bind.specs.declared.bound.Bound.{Bound}
use Rattle.cas_bind.specs.declared.bound.Bound.TheVariants as bound

-- a write is of one of the tables, and is one that this table can take; a read is of one, and its query may be put to it
abbrev pub BoundFits : ℕ → List TableSchema → Bound → Type 0
BoundFits shards ts (bound.Create t) = ⊤
BoundFits shards ts (bound.Alter a) = ⊤
BoundFits shards ts (bound.Write w) = (t : TableSchema) × (slice_get ts w.table ≡ Some t) × FitsBound t shards w
BoundFits shards ts (bound.Read r) = (t : TableSchema) × (slice_get ts r.query.table ≡ Some t) × FitsQuery t r.query

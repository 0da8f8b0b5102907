-- Definitions that the manifest may tell of (own).
use Rattle.std.specs.Prelude.{◌≡◌, ◌≤◌, List}
use Rattle.cas_types.specs.declared.schema.TableSchema.{TableSchema}
use Rattle.cas_changes.specs.Saying.{Saying}
use Rattle.define_laws.specs.Entries.{IsThere, MayTell}
use Rattle.cas_changes.specs.declared.entry.Entry.{Entry}
use Rattle.cas_changes.specs.declared.entry.Entry.TheVariants.{Schema, AddColumns}
use Rattle.cas_bind.specs.Tables.{AreTables, tables_after}
use Rattle.cas_bind.specs.declared.bound.Bound.{Bound}
use Rattle.cas_bind.specs.declared.bound.Bound.TheVariants as bound

-- A definition, with the entry that tells of it: it may be told to a manifest that tells of these tables, which then tells of those after the
-- definition; and those are tables again.
pub record MayBeTold (tables : List TableSchema) (b : Bound) (e : Entry) : Type 0 where
  pub tells : (said : Saying) → said.tables ≡ tables → 1 ≤ said.shards → MayTell said e (tables_after tables b)
  pub kept : AreTables (tables_after tables b)

-- a definition that was bound may be told to the manifest
abbrev pub IsTold : List TableSchema → Bound → Type 0
IsTold tables (bound.Create t) = MayBeTold tables (bound.Create t) (Schema t)
IsTold tables (bound.Alter a) = IsThere tables a.table × MayBeTold tables (bound.Alter a) (AddColumns a.table a.columns)
IsTold tables _ = Unit {0}

-- Which atoms and mutations have a spelling: lengths and numbers are those that their fields can tell.
-- Own format.
use Rattle.std.specs.Prelude.{◌≡◌, ◌^◌, ◌<◌, ◌≤◌, ℕ, List, length, slice_get, Some}
use Rattle.std.specs.List.{AllByRecursion}
use Rattle.cas_types.specs.declared.schema.Column.{Column}
use Rattle.cas_types.specs.declared.schema.TableSchema.{TableSchema}
use Rattle.cas_types.specs.Limits.{IsNarrow}
use Rattle.cas_cell.specs.Cells.{cell_value}
use Rattle.cas_atoms.specs.declared.atom.Atom.{Atom}
use Rattle.cas_atoms.specs.declared.atom.Atom.TheVariants.{PartitionDeletion, RangeDeletion, RowDeletion, CollectionDeletion}
use Rattle.cas_atoms.specs.declared.atom.Atom.TheVariants.{Live, Write, StaticWrite, StaticCollectionDeletion}
use Rattle.cas_atoms.specs.declared.atom.Mutation.{Mutation}
use Rattle.cas_atoms.specs.Fits.{Fits, FitsMutation}
use Rattle.cas_mutations.specs.Spelling.{mutation_bytes}

-- fewer than 256 values, each of fewer than 65,536 bytes
abbrev pub AreShort : List (List ℕ) → Type 0
AreShort values = (length values < 2 ^ 8) × AllByRecursion (λ v. length v < 2 ^ 16) values

-- an atom whose lengths have room in their fields
abbrev pub HasSpelling : Atom → Type 0
HasSpelling (PartitionDeletion d) = Unit {0}
HasSpelling (RangeDeletion lo hi d) = AreShort lo.prefix × AreShort hi.prefix
HasSpelling (RowDeletion c d) = AreShort c.values
HasSpelling (CollectionDeletion c column d) = AreShort c.values
HasSpelling (Live c l) = AreShort c.values
HasSpelling (Write c column p v) = AreShort c.values × (length p < 2 ^ 16) × (length (cell_value v) < 2 ^ 32)
HasSpelling (StaticWrite column p v) = (length p < 2 ^ 16) × (length (cell_value v) < 2 ^ 32)
HasSpelling (StaticCollectionDeletion column d) = Unit {0}

-- an atom that a record may hold of a table with these columns
abbrev pub FitsAtom : List Column → Atom → Type 0
FitsAtom columns a = Fits columns a × HasSpelling a

-- a mutation whose parts have room in their fields
pub record HasRecord (m : Mutation) : Type 0 where
  pub key : length m.key < 2 ^ 16
  pub count : length m.atoms < 2 ^ 32
  pub atoms : AllByRecursion HasSpelling m.atoms
  pub whole : length (mutation_bytes m) < 2 ^ 32

-- tables whose numbers and columns' numbers have room in their fields
pub record AreTables (tables : List TableSchema) : Type 0 where
  pub few : length tables ≤ 2 ^ 16
  pub narrow : AllByRecursion (λ table. IsNarrow table.columns) tables

-- a mutation that a record may hold, in a store of these tables with so many shards
pub record FitsRecord (tables : List TableSchema) (shards : ℕ) (m : Mutation) : Type 0 where
  pub table : TableSchema
  pub there : slice_get tables m.table ≡ Some table
  pub fits : FitsMutation table shards m
  pub spelled : HasRecord m

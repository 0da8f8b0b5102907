-- A table file that is written.
-- Cassandra documentation, "Storage engine: SSTables"; own.
use Rattle.std.specs.Prelude.{◌≡◌, ◌<◌, ℕ, List, [], length, Option, None, Some}
use Rattle.cas_types.specs.declared.schema.Column.{Column}
use Rattle.cas_info.specs.declared.info.TableInfo.{TableInfo}
use Rattle.cas_facts.specs.Facts.{AreFacts}
use Rattle.cas_facts.specs.declared.facts.Facts.{Facts}
use Rattle.cas_info.specs.declared.info.TheConstants.{FILE_LIMIT}
use Rattle.cas_sstwrite.specs.declared.fault.Measure.TheVariants.{FileBytes, BlockBytes, Partitions}
use Rattle.cas_sstwrite.specs.declared.fault.WriteFault.TheVariants.{Failed, Order, TooMany, Unfit, Mem}
use Rattle.cas_sstwrite.specs.declared.fault.PartitionFault.{PartitionFault}
use Rattle.cas_sstwrite.specs.declared.fault.PartitionFault.TheVariants.{Write, Source}
use Rattle.cas_tables.specs.Contents.{Contents, atoms_of}
use Rattle.cas_tables.specs.Files.{info_of, table_bytes, IsTable}
use Rattle.cas_tables.specs.Fitting.{FitsContents}

-- the draft of a table with these columns is the file of these contents, which it may have, where it tells its bytes; the info is what the file
-- tells of itself
pub record IsFinished {D : Type 0} (number_of : D → ℕ) (written : D → List ℕ → Type 0) (columns : List Column) (c : Contents) (told : TableInfo)
    (draft : D) : Type 0 where
  pub fits : FitsContents columns c
  pub facts : Facts
  pub of_atoms : AreFacts (atoms_of c) facts
  pub info : told ≡ info_of c facts
  pub table : (bytes : List ℕ) → written draft bytes → IsTable c bytes
  pub number : number_of draft ≡ c.header.number

-- none, where no partition was written; else the info and the draft of a file that is written
abbrev pub Finishes : {D : Type 0} → (D → ℕ) → (D → List ℕ → Type 0) → List Column → Contents → Option (TableInfo × D) → Type 0
Finishes number_of written columns c None = c.partitions ≡ []
Finishes number_of written columns c (Some p) = IsFinished number_of written columns c p.0 p.1

-- why the file of these contents isn't finished: the disk failed, memory ran out, or it would be too long
abbrev pub FinishFault : {E : Type 0} → Contents → PartitionFault E → Type 0
FinishFault c (Write Failed) = Unit {0}
FinishFault c (Write Order) = ⊥
FinishFault c (Write (TooMany FileBytes limit)) = (limit ≡ FILE_LIMIT) × ((f : Facts) × AreFacts (atoms_of c) f × (FILE_LIMIT < length (table_bytes c f)))
FinishFault c (Write (TooMany BlockBytes limit)) = ⊥
FinishFault c (Write (TooMany Partitions limit)) = ⊥
FinishFault c (Write Unfit) = ⊥
FinishFault c (Write Mem) = Unit {0}
FinishFault c (Source e) = ⊥

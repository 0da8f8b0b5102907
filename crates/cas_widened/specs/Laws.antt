-- What a table may hold, it may hold when it has got columns.
-- CQL documentation, "Data definition: ALTER TABLE". That the columns that are added stand behind the others is own.
use Rattle.std.specs.Prelude.{◌≡◌, false, List, ◌++◌}
use Rattle.std.specs.List.{AllByRecursion}
use Rattle.cas_types.specs.Schemas.{is_key}
use Rattle.cas_types.specs.declared.schema.Column.{Column}
use Rattle.cas_bounds.specs.ClusteringOrder.{clustering_order}
use Rattle.cas_atoms.specs.declared.atom.Mutation.{Mutation}
use Rattle.cas_memtable.specs.Memtables.{IsOfColumns}
use Rattle.cas_memtable.specs.declared.memtable.MemPart.{MemPart}
use Rattle.cas_tables.specs.Contents.{Contents}
use Rattle.cas_tables.specs.Fitting.{FitsContents}
use Rattle.cas_memtable.specs.Kept.{MayHold}

-- columns as ALTER TABLE ADD adds them: none is of the primary key
abbrev pub AreAdded : List Column → Type 0
AreAdded columns = AllByRecursion (λ c. is_key c.kind ≡ false) columns

-- columns that are added leave the order of the table's rows
abbrev pub OrdersStay : Type 0
OrdersStay = (columns more : List Column) → AreAdded more → clustering_order (columns ++ more) ≡ clustering_order columns

-- a mutation that the table may hold, it may hold with the added columns
abbrev pub MutationsStay : Type 0
MutationsStay = (columns more : List Column) (w : Mutation) → AreAdded more → MayHold columns w → MayHold (columns ++ more) w

-- a memtable of the table is one of the table with them
abbrev pub MemtablesStay : Type 0
MemtablesStay = (columns more : List Column) (m : MemPart) → AreAdded more → IsOfColumns columns m → IsOfColumns (columns ++ more) m

-- the contents that a file of the table may have, a file of the table with them may have
abbrev pub ContentsStay : Type 0
ContentsStay = (columns more : List Column) (c : Contents) → AreAdded more → FitsContents columns c → FitsContents (columns ++ more) c

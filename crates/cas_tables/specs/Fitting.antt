-- Which contents a table file may have.
-- CQL documentation, "Data definition: partition key"; own.
use Rattle.std.specs.Prelude.{◌≡◌, ◌<◌, ◌≤◌, ◌^◌, List, [], length, IfSome}
use Rattle.std.specs.List.{AllByRecursion}
use Rattle.std.specs.List.Sorted.{IsStrictlySortedBy}
use Rattle.cas_types.specs.Values.{bytes_cmp}
use Rattle.cas_types.specs.Schemas.{is_static}
use Rattle.cas_types.specs.declared.schema.Column.{Column}
use Rattle.cas_atoms.specs.Fits.{FitsKey, FitsDeletion}
use Rattle.cas_info.specs.declared.info.TheConstants.{FILE_LIMIT, LAST_LEVEL, PARTITION_LIMIT}
use Rattle.cas_streams.specs.Streams.{IsThere, WellFormed}
use Rattle.cas_streams.specs.Merged.{flat_of}
use Rattle.cas_facts.specs.Facts.{AreFacts}
use Rattle.cas_facts.specs.declared.facts.Facts.{Facts}
use Rattle.cas_fragments.specs.Allowed.{FitColumns, FitsFragment}
use Rattle.cas_fragments.specs.Spelling.{body_bytes}
use Rattle.cas_fragments.specs.Blocks.{statics_in, behind_statics}
use Rattle.cas_fragments.specs.declared.heads.Version.TheVariants.{First}
use Rattle.cas_tables.specs.Allowed.{FitsHeader}
use Rattle.cas_tables.specs.Contents.{Partition, Contents, keys, atoms_of}
use Rattle.cas_tables.specs.Places.{blocks}
use Rattle.cas_tables.specs.Files.{table_bytes}

-- a partition of a table with these columns: its stream is well formed and of what the table may hold; something is said of it, so that one without
-- rows and markers has a deletion or a static column; and each block's length has room in four bytes
pub record FitsPartition (columns : List Column) (p : Partition) : Type 0 where
  pub key : FitsKey p.key
  pub top : IfSome p.stream.top FitsDeletion
  pub well_formed : WellFormed columns p.stream.fragments
  pub statics : FitColumns is_static columns (statics_in p.stream.fragments)
  pub rest : AllByRecursion (FitsFragment columns) (behind_statics p.stream.fragments)
  pub room : AllByRecursion (λ b. length (body_bytes b) < 2 ^ 32) (blocks p)
  pub said : IsThere (flat_of p.stream)

-- from 1 to 2^28 partitions, by ascending keys, in a file of at most 2^40 bytes; in the format's first version they have no static columns
pub record FitsContents (columns : List Column) (c : Contents) : Type 0 where
  pub header : FitsHeader c.header
  pub level : c.level ≤ LAST_LEVEL
  pub few : (1 ≤ length c.partitions) × (length c.partitions ≤ PARTITION_LIMIT)
  pub ascend : IsStrictlySortedBy bytes_cmp (keys c)
  pub each : AllByRecursion (FitsPartition columns) c.partitions
  pub statics : c.header.version ≡ First → AllByRecursion (λ p. statics_in p.stream.fragments ≡ []) c.partitions
  pub short : (f : Facts) → AreFacts (atoms_of c) f → length (table_bytes c f) ≤ FILE_LIMIT

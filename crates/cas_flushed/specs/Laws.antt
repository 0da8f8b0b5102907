-- What holds of table files of contents, and of those that a flush wrote (own).
use Rattle.std.specs.Prelude.{◌≡◌, ℕ, List}
use Rattle.cas_types.specs.declared.schema.TableSchema.{TableSchema}
use Rattle.cas_bounds.specs.ClusteringOrder.{clustering_order}
use Rattle.cas_bounds.specs.declared.cuts.Cut.{Cut}
use Rattle.cas_atoms.specs.Winners.{Same}
use Rattle.cas_atoms.specs.declared.atom.Mutation.{Mutation}
use Rattle.cas_disk.specs.Disk.{Image}
use Rattle.cas_info.specs.declared.info.TableInfo.{TableInfo}
use Rattle.cas_streams.specs.NoMore.{SaysNoMore}
use Rattle.cas_partition.specs.Ends.{IsEnd}
use Rattle.cas_memtable.specs.Kept.{atoms_under}
use Rattle.cas_facts.specs.Facts.{AreFacts}
use Rattle.cas_facts.specs.declared.facts.Facts.{Facts}
use Rattle.cas_tables.specs.Contents.{Contents, Partition, atoms_of}
use Rattle.cas_tables.specs.Files.{info_of}
use Rattle.cas_flush.specs.Flushed.{AreOf, any}
use Rattle.cas_sstread.specs.Loading.{Held}
use Rattle.cas_view.specs.Views.{File}
use Rattle.cas_stored.specs.Contents.{IsOf}
use Rattle.cas_stored.specs.Stored.{StandInFile}
use Rattle.cas_listed.specs.Listed.{IsFileIn, StandIn}
use Rattle.cas_flushed.specs.Written.{written_in}

-- In the file of contents, loaded and listed as it tells of itself, the mutations stand that its partitions tell. So in each such file some do.
abbrev pub ContentsStand : Type 0
ContentsStand = (f : File Held) (c : Contents) (facts : Facts) → IsOf f.table c facts → AreFacts (atoms_of c) facts → f.table.info ≡ info_of c facts
    → f.info ≡ info_of c facts → StandInFile (clustering_order f.table.columns) f (written_in c.partitions)

-- and in the one that stands in an image, as it is listed
abbrev pub ListedContentsStand : Type 0
ListedContentsStand =
    (t : TableSchema) (shard : ℕ) (d : Image) (i : TableInfo) (c : Contents) → IsFileIn t shard d i c → StandIn t shard d i (written_in c.partitions)

-- where partitions are those of mutations, as a flush writes them, what they tell says the same under each key as the mutations did, and no more; and its
-- range deletions begin and end where theirs do
pub record FlushedSayTheSame : Type 0 where
  pub same : (ws : List Mutation) (ps : List Partition) → AreOf any ws ps → (key : List ℕ) → Same (atoms_under key (written_in ps)) (atoms_under key ws)
  pub no_more : (ws : List Mutation) (ps : List Partition) → AreOf any ws ps
      → (key : List ℕ) → SaysNoMore (atoms_under key (written_in ps)) (atoms_under key ws)
  pub ends : (ws : List Mutation) (ps : List Partition) → AreOf any ws ps
      → (key : List ℕ) (c : Cut) → IsEnd (atoms_under key (written_in ps)) c → IsEnd (atoms_under key ws) c

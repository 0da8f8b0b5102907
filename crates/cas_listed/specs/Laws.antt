-- What stands in listed files that are loaded (own).
use Rattle.std.specs.Prelude.{ℕ, List, []}
use Rattle.cas_types.specs.declared.schema.TableSchema.{TableSchema}
use Rattle.cas_bounds.specs.ClusteringOrder.{clustering_order}
use Rattle.cas_atoms.specs.declared.atom.Mutation.{Mutation}
use Rattle.cas_info.specs.declared.info.TableInfo.{TableInfo}
use Rattle.cas_disk.specs.Disk.{Image}
use Rattle.cas_sstread.specs.Loading.{Held}
use Rattle.cas_view.specs.Views.{File}
use Rattle.cas_stored.specs.Stored.{HoldEach}
use Rattle.cas_listed.specs.Listed.{AreLoaded, IsBadFile, StandInFiles}

-- files that were loaded as they are listed hold, with no memtable, the mutations that stand in the listed ones
abbrev pub ListedFilesHold : Type 0
ListedFilesHold = (t : TableSchema) (shard : ℕ) (c : Image) (infos : List TableInfo) (fs : List (File Held)) (wss : List (List Mutation))
    → AreLoaded t shard c infos fs → StandInFiles t shard c infos wss → HoldEach (clustering_order t.columns) fs [] wss

-- where mutations stand in each of the listed files, none of them is bad
abbrev pub FilesAreNeverBad : Type 0
FilesAreNeverBad = (t : TableSchema) (shard : ℕ) (c : Image) (infos : List TableInfo) (wss : List (List Mutation)) (number at : ℕ)
    → StandInFiles t shard c infos wss → IsBadFile t shard c infos number at → ⊥

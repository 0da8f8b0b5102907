-- What holds of tables that are loaded, when mutations stand in a file that is loaded, and how such a file is read (own).
use Rattle.std.specs.Prelude.{◌≡◌, ℕ, Some, Ok, List, []}
use Rattle.std.specs.List.{Contains}
use Rattle.cas_bounds.specs.ClusteringOrder.{clustering_order}
use Rattle.cas_bounds.specs.declared.cuts.Slice.{Slice}
use Rattle.cas_bounds.specs.declared.order.Ordered.{Ordered}
use Rattle.cas_atoms.specs.declared.atom.Mutation.{Mutation}
use Rattle.cas_facts.specs.Facts.{AreFacts}
use Rattle.cas_facts.specs.declared.facts.Facts.{Facts}
use Rattle.cas_memtable.specs.Kept.{atoms_under}
use Rattle.cas_tables.specs.Contents.{Contents, Partition, atoms_of}
use Rattle.cas_tables.specs.Files.{info_of, table_bytes}
use Rattle.cas_tables.specs.Fitting.{FitsContents}
use Rattle.cas_sstread.specs.Reading.{loaded_at}
use Rattle.cas_sstread.specs.Loading.{Held}
use Rattle.cas_stored.specs.Contents.{HasNone, IsOf}
use Rattle.cas_view.specs.Views.{File}
use Rattle.cas_stored.specs.Reading.{IsBadFor}
use Rattle.cas_stored.specs.Stored.{SaysWhatIsWritten, StandInFile}

-- a table that was loaded of the file of contents that it may have, as that is listed, is of these
abbrev pub LoadedIsOf : Type 0
LoadedIsOf = (t : Held) (c : Contents) (f : Facts) → FitsContents t.columns c → AreFacts (atoms_of c) f → t.contents ≡ Some (table_bytes c f)
    → loaded_at (clustering_order t.columns) c.header.table c.header.shard (info_of c f) (table_bytes c f) ≡ Ok t.kept → IsOf t c f

-- in the file of contents, loaded and listed as it tells of itself, the mutations stand of which these say what was written, and nothing else was
abbrev pub LoadedStands : Type 0
LoadedStands = (f : File Held) (c : Contents) (facts : Facts) (ws : List Mutation) → IsOf f.table c facts → AreFacts (atoms_of c) facts
    → f.table.info ≡ info_of c facts → f.info ≡ info_of c facts
    → ((p : Partition) → Contains c.partitions p → SaysWhatIsWritten ws p) → ((key : List ℕ) → HasNone c key → atoms_under key ws ≡ [])
    → StandInFile (clustering_order f.table.columns) f ws

-- a file in which mutations stand is bad for no slice of any key's partition
abbrev pub FilesAreRead : Type 0
FilesAreRead = (order : List Ordered) (f : File Held) (ws : List Mutation) (key : List ℕ) (s : Slice) (n at : ℕ)
    → StandInFile order f ws → IsBadFor key s n at f → ⊥

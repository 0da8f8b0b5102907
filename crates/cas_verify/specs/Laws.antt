-- What holds of table files that are checked.
-- Own format.
use Rattle.std.specs.Prelude.{◌≡◌, ℕ, List, Ok}
use Rattle.cas_types.specs.Limits.{IsNarrow}
use Rattle.cas_types.specs.declared.schema.Column.{Column}
use Rattle.cas_bounds.specs.ClusteringOrder.{clustering_order}
use Rattle.cas_codec.specs.Exact.{AreBytes}
use Rattle.cas_info.specs.Allowed.{FitsInfo}
use Rattle.cas_info.specs.declared.info.TableInfo.{TableInfo}
use Rattle.cas_facts.specs.declared.facts.Facts.{Facts}
use Rattle.cas_tables.specs.Allowed.{FitsHeader}
use Rattle.cas_tables.specs.Contents.{Contents}
use Rattle.cas_tables.specs.Files.{info_of, IsTable}
use Rattle.cas_tables.specs.Fitting.{FitsContents}
use Rattle.cas_fragments.specs.declared.heads.Version.{Version}
use Rattle.cas_fragments.specs.declared.heads.Version.TheVariants.{Second}
use Rattle.cas_sstread.specs.Laws.{head_for, kept_for}
use Rattle.cas_sstread.specs.Reading.{Loaded, loaded_at}
use Rattle.cas_verify.specs.Checking.{whole_at, AreFactsOf}

-- the bytes are the file of contents that the table may have: of that version, table, shard and number, and what is listed is what it tells of itself
pub record IsFileOf (columns : List Column) (table shard : ℕ) (version : Version) (info : TableInfo) (file : List ℕ) (c : Contents) : Type 0 where
  pub fits : FitsContents columns c
  pub header : c.header ≡ head_for table shard info.number version
  pub is : IsTable c file
  pub told : info_of c is.facts ≡ info

-- a file that was loaded as k and in which nothing is found is the file of contents; and in such a file nothing is found
pub record CheckingIsExact : Type 0 where
  pub found : (columns : List Column) → IsNarrow columns → (table shard : ℕ) (info : TableInfo) (file : List ℕ) (k : Loaded) (f : Facts)
      → FitsHeader (head_for table shard info.number Second) → FitsInfo info → AreBytes file
      → loaded_at (clustering_order columns) table shard info file ≡ Ok k → AreFactsOf columns k file f → whole_at columns info k f file ≡ Ok tt
      → (c : Contents) × IsFileOf columns table shard k.version info file c
  pub again : (columns : List Column) → IsNarrow columns → (c : Contents) (file : List ℕ) → FitsContents columns c → (t : IsTable c file)
      → AreFactsOf columns (kept_for c) file t.facts × (whole_at columns (info_of c t.facts) (kept_for c) t.facts file ≡ Ok tt)

-- there always are facts of the atoms in the partitions of a file that was loaded
abbrev pub ThereAreFacts : Type 0
ThereAreFacts = (columns : List Column) → IsNarrow columns → (table shard : ℕ) (info : TableInfo) (file : List ℕ) (k : Loaded)
    → FitsHeader (head_for table shard info.number Second) → FitsInfo info → AreBytes file
    → loaded_at (clustering_order columns) table shard info file ≡ Ok k → (f : Facts) × AreFactsOf columns k file f

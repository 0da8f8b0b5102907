-- What holds of table files that are loaded.
-- Own format.
use Rattle.std.specs.Prelude.{◌≡◌, ℕ, ◌+◌, ◌*◌, ◌<◌, List, ◌++◌, map, length, slice_get, None, Some, Ok}
use Rattle.std.specs.List.{Contains, last_or}
use Rattle.cas_types.specs.declared.schema.Column.{Column}
use Rattle.cas_bounds.specs.ClusteringOrder.{clustering_order}
use Rattle.cas_bounds.specs.declared.order.Ordered.{Ordered}
use Rattle.cas_codec.specs.Exact.{AreBytes}
use Rattle.cas_info.specs.Allowed.{FitsInfo}
use Rattle.cas_info.specs.Spelling.{info_bytes}
use Rattle.cas_info.specs.declared.info.TableInfo.{TableInfo}
use Rattle.cas_facts.specs.declared.facts.Facts.{Facts}
use Rattle.cas_filter.specs.Allowed.{FitsFilter}
use Rattle.cas_filter.specs.Filters.{bits_for}
use Rattle.cas_filter.specs.Spelling.{filter_bytes}
use Rattle.cas_index.specs.Allowed.{FitsIndex}
use Rattle.cas_index.specs.Entries.{last_place}
use Rattle.cas_index.specs.Searches.{HasKey}
use Rattle.cas_index.specs.Spelling.{index_bytes, footer_bytes}
use Rattle.cas_index.specs.declared.footer.Footer.{Footer}
use Rattle.cas_index.specs.declared.entries.PartitionEntry.{PartitionEntry}
use Rattle.cas_tables.specs.declared.header.TheConstants.{HEADER_LENGTH}
use Rattle.cas_tables.specs.declared.header.Header.{Header}
use Rattle.cas_fragments.specs.declared.heads.Version.{Version}
use Rattle.cas_fragments.specs.declared.heads.Version.TheVariants.{Second}
use Rattle.cas_tables.specs.Allowed.{FitsHeader}
use Rattle.cas_tables.specs.Contents.{Partition, Contents, keys}
use Rattle.cas_tables.specs.Files.{index_of, key_filter, index_place, info_of, table_bytes, IsTable}
use Rattle.cas_tables.specs.Fitting.{FitsContents}
use Rattle.cas_tables.specs.Laws.{StandsAt, BlocksStand}
use Rattle.cas_tables.specs.Places.{blocks, text_of}
use Rattle.cas_tables.specs.Spelling.{header_bytes}
use Rattle.cas_sstread.specs.Reading.{Loaded, own_place, loaded_at}
use Rattle.cas_sstread.specs.Searches.{HasOwnFilter, place_or}

-- ---- what loads

-- the head of the file of that number, of that table and that shard
abbrev pub head_for : ℕ → ℕ → ℕ → Version → Header
head_for table shard number version = record { version = version; table = table; shard = shard; number = number }

-- the footer that tells of these parts
abbrev pub footer_for : Loaded → Footer
footer_for k = record {
  index = k.end;
  filter = k.end + length (index_bytes k.partitions);
  info = k.end + length (index_bytes k.partitions) + length (filter_bytes k.filter);
}

-- as many partitions as keys are listed, the first with the first of them and the last with the last
pub record HaveKeys (info : TableInfo) (partitions : List PartitionEntry) : Type 0 where
  pub count : length partitions ≡ info.keys
  pub first : (p : PartitionEntry) × (slice_get partitions 0 ≡ Some p) × (p.key ≡ info.first)
  pub last : (p : PartitionEntry) × (last_or None partitions ≡ Some p) × (p.key ≡ info.last)

-- The bytes load as the file of that table and that shard of which this is listed: they are header, partitions, index, filter, info and footer, one behind
-- another. The index is one of partitions that stand between header and index, and has the listed keys; the filter has their bits; the info is the
-- listed one, with the file's length. The partitions may be any bytes.
pub record LoadsAs (order : List Ordered) (table shard : ℕ) (info : TableInfo) (file : List ℕ) (k : Loaded) : Type 0 where
  pub body : List ℕ
  pub spelled : file ≡ header_bytes (head_for table shard info.number k.version)
      ++ (body ++ (index_bytes k.partitions ++ (filter_bytes k.filter ++ (info_bytes info ++ footer_bytes (footer_for k)))))
  pub end : k.end ≡ HEADER_LENGTH + length body
  pub long : length file ≡ info.bytes
  pub index : FitsIndex order k.partitions
  pub start : own_place (slice_get k.partitions 0) ≡ HEADER_LENGTH
  pub within : last_place (last_or None k.partitions) < k.end
  pub keys : HaveKeys info k.partitions
  pub filter : FitsFilter k.filter
  pub bits : 8 * length k.filter ≡ bits_for (length k.partitions)

-- just such files are loaded, and so
pub record LoadingIsExact : Type 0 where
  pub found : (order : List Ordered) (table shard : ℕ) (info : TableInfo) (file : List ℕ) (k : Loaded) → FitsHeader (head_for table shard info.number Second)
      → FitsInfo info → AreBytes file → loaded_at order table shard info file ≡ Ok k → LoadsAs order table shard info file k
  pub again : (order : List Ordered) (table shard : ℕ) (info : TableInfo) (file : List ℕ) (k : Loaded) → FitsHeader (head_for table shard info.number Second)
      → FitsInfo info → LoadsAs order table shard info file k → loaded_at order table shard info file ≡ Ok k

-- ---- files of contents

-- what is kept of the file of contents
abbrev pub kept_for : Contents → Loaded
kept_for c = record { version = c.header.version; end = index_place c; partitions = index_of c; filter = key_filter c }

-- the file of contents that a table may have is loaded, with its own index and filter; the index has the keys of the contents
pub record TablesLoad : Type 0 where
  pub loads : (columns : List Column) (c : Contents) (bytes : List ℕ) → FitsContents columns c → (t : IsTable c bytes)
      → loaded_at (clustering_order columns) c.header.table c.header.shard (info_of c t.facts) bytes ≡ Ok (kept_for c)
  pub filter : (c : Contents) → HasOwnFilter (kept_for c)
  pub keys : (c : Contents) → map (λ p. p.key) (kept_for c).partitions ≡ keys c

-- the partition that the number names: it has the key, and stands in the file where the index tells, up to the place where the next one stands, or all end
pub record StandsThere (c : Contents) (f : Facts) (key : List ℕ) (n : ℕ) : Type 0 where
  pub partition : Partition
  pub entry : PartitionEntry
  pub one : slice_get c.partitions n ≡ Some partition
  pub told : slice_get (index_of c) n ≡ Some entry
  pub key_is : partition.key ≡ key
  pub text : StandsAt (table_bytes c f) entry.place (text_of c.header.version partition)
  pub blocks_stand : BlocksStand (table_bytes c f) (blocks partition) entry.blocks
  pub behind : place_or (index_place c) (slice_get (index_of c) (n + 1)) ≡ entry.place + length (text_of c.header.version partition)

-- what is found of a key in the index of contents is what the contents have
pub record PartitionsAreFound : Type 0 where
  pub found : (c : Contents) (f : Facts) (key : List ℕ) (n : ℕ) → HasKey (index_of c) key (Some n) → StandsThere c f key n
  pub none : (c : Contents) (key : List ℕ) → HasKey (index_of c) key None → (p : Partition) → Contains c.partitions p → p.key ≡ key → ⊥

-- What holds of table files (own).
use Rattle.std.specs.Prelude.{◌≡◌, ℕ, List, [], ◌∷◌, ◌++◌, length}
use Rattle.cas_types.specs.declared.schema.Column.{Column}
use Rattle.cas_streams.specs.declared.fragment.Fragment.{Fragment}
use Rattle.cas_bounds.specs.ClusteringOrder.{clustering_order}
use Rattle.cas_info.specs.Allowed.{FitsInfo}
use Rattle.cas_info.specs.Spelling.{info_bytes}
use Rattle.cas_facts.specs.Facts.{AreFacts}
use Rattle.cas_facts.specs.declared.facts.Facts.{Facts}
use Rattle.cas_filter.specs.Allowed.{FitsFilter}
use Rattle.cas_filter.specs.Spelling.{filter_bytes}
use Rattle.cas_fragments.specs.Spelling.{block_bytes}
use Rattle.cas_fragments.specs.declared.heads.Version.{Version}
use Rattle.cas_index.specs.Allowed.{FitsIndex, FitsFooter}
use Rattle.cas_index.specs.Spelling.{index_bytes, footer_bytes}
use Rattle.cas_index.specs.declared.entries.BlockEntry.{BlockEntry}
use Rattle.cas_index.specs.declared.entries.PartitionEntry.{PartitionEntry}
use Rattle.cas_tables.specs.Contents.{Partition, Contents, atoms_of}
use Rattle.cas_tables.specs.Places.{text_of, blocks}
use Rattle.cas_tables.specs.Files.{index_of, key_filter, footer_of, info_of, table_bytes, IsTable}
use Rattle.cas_tables.specs.Fitting.{FitsContents}

-- contents that a table may have are told by one file
pub record TablesAreOne : Type 0 where
  pub some : (columns : List Column) (c : Contents) → FitsContents columns c → (bytes : List ℕ) × IsTable c bytes
  pub one : (c : Contents) (a b : List ℕ) → IsTable c a → IsTable c b → a ≡ b

-- what is told of the file's length is its length
abbrev pub LengthIsTold : Type 0
LengthIsTold = (c : Contents) (f : Facts) → length (table_bytes c f) ≡ (info_of c f).bytes

-- what a file tells of contents that a table may have may stand there: its index, its filter, what is told of it, and its footer
pub record PartsFit : Type 0 where
  pub index : (columns : List Column) (c : Contents) → FitsContents columns c → FitsIndex (clustering_order columns) (index_of c)
  pub filter : (columns : List Column) (c : Contents) → FitsContents columns c → FitsFilter (key_filter c)
  pub info : (columns : List Column) (c : Contents) (f : Facts) → FitsContents columns c → AreFacts (atoms_of c) f → FitsInfo (info_of c f)
  pub footer : (columns : List Column) (c : Contents) → FitsContents columns c → FitsFooter (footer_of c)

-- ---- places

-- the text stands in the file from that place on
pub record StandsAt (file : List ℕ) (place : ℕ) (text : List ℕ) : Type 0 where
  pub before : List ℕ
  pub after : List ℕ
  pub there : file ≡ before ++ (text ++ after)
  pub behind : length before ≡ place

-- each block stands where its entry tells, and no entry is of no block
abbrev pub BlocksStand : List ℕ → List (List Fragment) → List BlockEntry → Type 0
BlocksStand file [] [] = Unit {0}
BlocksStand file (b ∷ bs) (e ∷ es) = StandsAt file e.place (block_bytes b) × BlocksStand file bs es
BlocksStand file [] (e ∷ es) = ⊥
BlocksStand file (b ∷ bs) [] = ⊥

-- so do partitions, under their keys, and their blocks
abbrev pub PartitionsStand : Version → List ℕ → List Partition → List PartitionEntry → Type 0
PartitionsStand version file [] [] = Unit {0}
PartitionsStand version file (p ∷ ps) (e ∷ es) =
    (e.key ≡ p.key) × StandsAt file e.place (text_of version p) × BlocksStand file (blocks p) e.blocks × PartitionsStand version file ps es
PartitionsStand version file [] (e ∷ es) = ⊥
PartitionsStand version file (p ∷ ps) [] = ⊥

-- the parts of a table file stand where its footer and its index tell; the footer stands at its end
pub record PartsStand (c : Contents) (f : Facts) : Type 0 where
  pub partitions : PartitionsStand c.header.version (table_bytes c f) c.partitions (index_of c)
  pub index : StandsAt (table_bytes c f) (footer_of c).index (index_bytes (index_of c))
  pub filter : StandsAt (table_bytes c f) (footer_of c).filter (filter_bytes (key_filter c))
  pub info : StandsAt (table_bytes c f) (footer_of c).info (info_bytes (info_of c f))
  pub footer : (before : List ℕ) × (table_bytes c f ≡ before ++ footer_bytes (footer_of c))

-- they do in each table file
abbrev pub PlacesAreRight : Type 0
PlacesAreRight = (c : Contents) (f : Facts) → PartsStand c f

-- A table file: the one spelling of what it holds.
-- Own format.
use Rattle.std.specs.Prelude.{◌≡◌, ℕ, ◌+◌, List, [], ◌∷◌, ◌++◌, length}
use Rattle.std.specs.List.{flat_map}
use Rattle.cas_info.specs.Spelling.{info_bytes}
use Rattle.cas_info.specs.declared.info.TableInfo.{TableInfo}
use Rattle.cas_facts.specs.Facts.{AreFacts}
use Rattle.cas_facts.specs.declared.facts.Facts.{Facts}
use Rattle.cas_filter.specs.Filters.{bits_for, filter_of}
use Rattle.cas_filter.specs.Spelling.{filter_bytes}
use Rattle.cas_index.specs.Spelling.{index_bytes, footer_bytes}
use Rattle.cas_index.specs.declared.entries.PartitionEntry.{PartitionEntry}
use Rattle.cas_index.specs.declared.footer.Footer.{Footer}
use Rattle.cas_tables.specs.Spelling.{header_bytes}
use Rattle.cas_tables.specs.Contents.{Contents, keys, atoms_of}
use Rattle.cas_tables.specs.Places.{text_of, entries}

-- ---- the parts

-- the header and the partitions, one after another
abbrev pub front_bytes : Contents → List ℕ
front_bytes c = header_bytes c.header ++ flat_map (text_of c.header.version) c.partitions

-- the index tells of each partition where it stands behind the header
abbrev pub index_of : Contents → List PartitionEntry
index_of c = entries c.header.version (length (header_bytes c.header)) c.partitions

-- the filter is that of the keys
abbrev pub key_filter : Contents → List ℕ
key_filter c = filter_of (bits_for (length c.partitions)) (keys c)

-- the index stands behind the partitions
abbrev pub index_place : Contents → ℕ
index_place c = length (front_bytes c)

-- the filter stands behind the index
abbrev pub filter_place : Contents → ℕ
filter_place c = index_place c + length (index_bytes (index_of c))

-- the info stands behind the filter
abbrev pub info_place : Contents → ℕ
info_place c = filter_place c + length (filter_bytes (key_filter c))

-- the footer tells these three places
abbrev pub footer_of : Contents → Footer
footer_of c = record { index = index_place c; filter = filter_place c; info = info_place c }

-- ---- the file

-- the file with this info
abbrev pub with_info : Contents → TableInfo → List ℕ
with_info c i = front_bytes c ++ (index_bytes (index_of c) ++ (filter_bytes (key_filter c) ++ (info_bytes i ++ footer_bytes (footer_of c))))

-- the first of keys
abbrev pub first_key : List (List ℕ) → List ℕ
first_key [] = []
first_key (k ∷ ks) = k

-- the last of keys
abbrev pub last_key : List (List ℕ) → List ℕ
last_key [] = []
last_key (k ∷ []) = k
last_key (k ∷ l ∷ ks) = last_key (l ∷ ks)

-- what is told of a file that is so long, by the facts of its atoms
abbrev pub told_of : Contents → Facts → ℕ → TableInfo
told_of c f bytes = record {
  number = c.header.number;
  bytes = bytes;
  first = first_key (keys c);
  last = last_key (keys c);
  least = f.least;
  greatest = f.greatest;
  dead = f.dead;
  level = c.level;
  keys = length c.partitions;
}

-- the length stands in eight bytes whatever it is, so that of the file with a 0 there is the file's
abbrev pub info_of : Contents → Facts → TableInfo
info_of c f = told_of c f (length (with_info c (told_of c f 0)))

-- the file of these contents, by the facts of their atoms
abbrev pub table_bytes : Contents → Facts → List ℕ
table_bytes c f = with_info c (info_of c f)

-- the bytes are the file of these contents
pub record IsTable (c : Contents) (bytes : List ℕ) : Type 0 where
  pub facts : Facts
  pub of_atoms : AreFacts (atoms_of c) facts
  pub spelled : bytes ≡ table_bytes c facts

-- A whole table file that is checked: what `whole_at` finds in the bytes of a file that was loaded.
-- Own format. The place of a refusal is that of the refused field's first byte; what several fields say together is refused at the first that is wrong.
use Rattle.std.specs.Prelude.{◌≡◌, ℕ, ◌-◌, List, ◌++◌, length, map, None, Result, Ok}
use Rattle.cas_types.specs.declared.schema.Column.{Column}
use Rattle.cas_bounds.specs.ClusteringOrder.{clustering_order}
use Rattle.cas_codec.specs.declared.fault.ReadFault.{ReadFault}
use Rattle.cas_codec.specs.Reading.{◌>>=◌}
use Rattle.cas_info.specs.declared.info.TableInfo.{TableInfo}
use Rattle.cas_info.specs.declared.info.TheConstants.{PARTITION_LIMIT}
use Rattle.cas_facts.specs.Facts.{AreFacts}
use Rattle.cas_facts.specs.declared.facts.Facts.{Facts}
use Rattle.cas_filter.specs.Filters.{bits_for, filter_of}
use Rattle.cas_index.specs.declared.entries.PartitionEntry.{PartitionEntry}
use Rattle.cas_index.specs.declared.footer.TheConstants.{FOOTER_LENGTH}
use Rattle.cas_tables.specs.Files.{first_key, last_key}
use Rattle.cas_tables.specs.declared.header.TheConstants.{HEADER_LENGTH}
use Rattle.cas_blocks.specs.Reading.{left_at}
use Rattle.cas_sstread.specs.Reading.{part, filled_at, Loaded}
use Rattle.cas_verify.specs.Partitions.{Part, partitions_at, atoms_in, entries_for}
use Rattle.cas_verify.specs.Fields.{fields_at, index_fields, filter_fields, info_fields}

-- ---- behind the partitions

-- the filter of the keys in an index
abbrev pub filter_for : List PartitionEntry → List ℕ
filter_for ps = filter_of (bits_for (length ps)) (map (λ p. p.key) ps)

-- what is told of a file of these partitions, of which that is listed, by the facts of its atoms: number, length and level are the listed ones
abbrev pub info_for : List PartitionEntry → TableInfo → Facts → TableInfo
info_for ps listed f = record {
  number = listed.number;
  bytes = listed.bytes;
  first = first_key (map (λ p. p.key) ps);
  last = last_key (map (λ p. p.key) ps);
  least = f.least;
  greatest = f.greatest;
  dead = f.dead;
  level = listed.level;
  keys = length ps;
}

-- index, filter and info of these partitions
abbrev pub fields_for : List PartitionEntry → TableInfo → List (List ℕ)
fields_for ps info = index_fields ps ++ (filter_fields (filter_for ps) ++ info_fields info)

-- ---- the file

-- the partitions of a file that was loaded
abbrev pub own_partitions_at : List Column → Loaded → List ℕ → Result (List Part) ReadFault
own_partitions_at columns k file = partitions_at k.version (clustering_order columns) columns k.end PARTITION_LIMIT None (left_at file k.end HEADER_LENGTH)

-- what stands between the partitions and the footer
abbrev pub own_rest_at : List PartitionEntry → TableInfo → Facts → ℕ → List ℕ → Result (Unit {0}) ReadFault
own_rest_at ps info f end file = filled_at (fields_at (fields_for ps (info_for ps info f))) (part file end (info.bytes - FOOTER_LENGTH - end))

-- the file that was loaded so, of which that is listed, by the facts of its atoms
unfoldable pub whole_at : List Column → TableInfo → Loaded → Facts → List ℕ → Result (Unit {0}) ReadFault
whole_at columns info k f file = do
  ps ← own_partitions_at columns k file
  own_rest_at (entries_for k.version HEADER_LENGTH ps) info f k.end file

-- the facts of the atoms in the file's partitions, where these are read
abbrev pub AreFactsOf : List Column → Loaded → List ℕ → Facts → Type 0
AreFactsOf columns k file f = (ps : List Part) → own_partitions_at columns k file ≡ Ok ps → AreFacts (atoms_in ps) f
